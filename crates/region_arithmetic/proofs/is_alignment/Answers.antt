-- `is_alignment` meets its contract: the powers of two are the numbers with one bit set. Assumes nothing.
use mathlib.Core.Path.{◌≡◌, refl, sym, ◌∙◌}
use mathlib.Core.Bool.{Bool, true, false, false≢true}
use Prim.Native.Nat.{ℕ, zero, suc, ◌+◌, ◌*◌, ◌/◌, ◌%◌, ◌^◌, ◌<◌, ◌≤◌}
use native.Mathlib.Decide.{dec_lt, ℕ_discrete}
use native.Mathlib.Omega.{arith}
use lib.Pow.{pow_mono, pow-lt}
use lib.Count.{ones, ones_step, ones-le, ones_cat}
use lib.Dec.{leb, eqb→eq}
use borrow.Author.Tests.{le-leb, lt-leb}
use Rattle.std.proofs.lemmas.Nat.{zero_from_ones}
use Rattle.region_interval.proofs.Powers.{power_in, power-out}
use Rattle.region_interval.specs.Interval.{power_below}
use Rattle.region_arithmetic.proofs.is_alignment.Goals as goal

one_bit : (b n : ℕ) → n ≤ b → ones n ≡ 1 → (k : ℕ) × (n ≡ 2 ^ k)
one_bit zero n h e = absurd (omega (arith, ones-le 0 n (omega arith)))
one_bit (suc b) n h e = go (λ l f. one_bit b (n / 2) l f) (ℕ_discrete (n % 2) 0)
  where
    go : (n / 2 ≤ b → ones (n / 2) ≡ 1 → (k : ℕ) × (n / 2 ≡ 2 ^ k)) → Dec (n % 2 ≡ 0) → (k : ℕ) × (n ≡ 2 ^ k)
    go half (yes z) = let s = ones_step n in let i = half (omega arith) (omega arith) in (suc i.0, omega (arith, i.1))
    go half (no z) = let s = ones_step n in let i = zero_from_ones (n / 2) (omega arith) in (0, omega arith)

bit_of-power : (k : ℕ) → ones (2 ^ k) ≡ 1
unfolding ones
bit_of-power k =
    let e : 1 * 2 ^ k + 0 ≡ 2 ^ k = omega arith in
    rw e at (ones_cat k 1 0 (omega (arith, pow_mono {i = 0} {j = k} (omega arith))))

limited : (k : ℕ) → leb (2 ^ k) 8192 ≡ power_below 14 (2 ^ k)
limited k = go (dec_lt k 14)
  where
    go : Dec (k < 14) → leb (2 ^ k) 8192 ≡ power_below 14 (2 ^ k)
    go (yes l) = le-leb (2 ^ k) 8192 (pow_mono {i = k} {j = 13} (omega arith)) ∙ sym (power_in 14 k l)
    go (no l) = lt-leb (2 ^ k) 8192 (omega (arith, pow_mono {i = 14} {j = k} (omega arith))) ∙ beyond (power_below 14 (2 ^ k)) refl
      where
        beyond : (x : Bool) → power_below 14 (2 ^ k) ≡ x → false ≡ x
        beyond true e = let p = power-out 14 (2 ^ k) e in absurd (omega (arith, pow-lt {i = p.0} {j = k} (omega (arith, p.1)), p.2))
        beyond false e = refl

pub returns-then-is_power_of_two : goal.returns-then-is_power_of_two
returns-then-is_power_of_two c =
    let d = c.args.grid_dim in
    let p = one_bit d d (omega arith) (eqb→eq (ones d) 1 (rw (sym c.if-is_power_of_two.ensures) tt)) in
    rw p.1 (limited p.0)

pub returns-else-is_power_of_two : goal.returns-else-is_power_of_two
returns-else-is_power_of_two c = rw c.if-is_power_of_two.false (go (power_below 14 c.args.grid_dim) refl)
  where
    go : (x : Bool) → power_below 14 c.args.grid_dim ≡ x → false ≡ x
    go true e = let p = power-out 14 c.args.grid_dim e in absurd (false≢true (rw (p.2, bit_of-power p.0) at c.if-is_power_of_two.ensures))
    go false e = refl
