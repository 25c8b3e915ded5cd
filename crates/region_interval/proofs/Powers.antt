-- Powers of two below a limit, and the number of trailing zero bits, which is a power's exponent. Assumes nothing.
use mathlib.Core.Path.{◌≡◌, refl, sym, ap, ◌∙◌}
use mathlib.Core.Bool.{Bool, true, false, ◌&&◌, true≢false, false≢true}
use mathlib.Core.Logic.{⊎_elim}
use Prim.Native.Nat.{ℕ, zero, suc, ◌^◌, ◌<◌}
use native.Mathlib.Nat.{eq-or-lt_of_le, le_of_suc-le-suc}
use native.Mathlib.Omega.{arith}
use lib.Dec.{T, eqb, eqb→eq}
use lib.Ieee.Fits.{and_l, and_r}
use borrow.Author.Tests.{eq-eqb}
use lib.Count.{count_trailing_zeros}
use Rattle.region_interval.specs.Interval.{power_below}

pub power_in : (n k : ℕ) → k < n → power_below n (2 ^ k) ≡ true
unfolding power_below
power_in zero k h = absurd (omega arith)
power_in (suc n) k h = go (λ (l : k < n). power_in n k l) (eqb (2 ^ k) (2 ^ n)) refl
  where
    go : (k < n → power_below n (2 ^ k) ≡ true) → (x : Bool) → eqb (2 ^ k) (2 ^ n) ≡ x → power_below (suc n) (2 ^ k) ≡ true
    go less true e = rw e
    go less false e = ⊎_elim
        (λ (z : k ≡ n). absurd (true≢false (sym (same z) ∙ e)))
        (λ (l : k < n). rw e (less l))
        (eq-or-lt_of_le (le_of_suc-le-suc h))
      where
        same : k ≡ n → eqb (2 ^ k) (2 ^ n) ≡ true
        same z = eq-eqb (2 ^ k) (2 ^ n) (ap (λ (m : ℕ). 2 ^ m) z)

pub power-out : (n d : ℕ) → power_below n d ≡ true → (k : ℕ) × (k < n) × (d ≡ 2 ^ k)
unfolding power_below
power-out zero d e = absurd (false≢true e)
power-out (suc n) d e = go (λ (l : power_below n d ≡ true). power-out n d l) (eqb d (2 ^ n)) refl
  where
    go : (power_below n d ≡ true → (k : ℕ) × (k < n) × (d ≡ 2 ^ k)) → (x : Bool) → eqb d (2 ^ n) ≡ x → (k : ℕ) × (k < suc n) × (d ≡ 2 ^ k)
    go less true f = (n, omega arith, eqb→eq d (2 ^ n) (rw f tt))
    go less false f = let s = less (rw f at e) in (s.0, omega (arith, s.1), s.2)

-- checked by computation for the exponents of the alignments
unfoldable counted : ℕ → Bool
counted zero = true
counted (suc n) = eqb (count_trailing_zeros 32 (2 ^ n)) n && counted n

all-counted : counted 14 ≡ true
unfolding counted count_trailing_zeros
all-counted = refl

counted-at : (n k : ℕ) → T (counted n) → k < n → count_trailing_zeros 32 (2 ^ k) ≡ k
unfolding counted
counted-at zero k t h = absurd (omega arith)
counted-at (suc n) k t h = ⊎_elim
    (λ (z : k ≡ n). rw z (eqb→eq _ n (and_l (eqb (count_trailing_zeros 32 (2 ^ n)) n) (counted n) t)))
    (λ (l : k < n). counted-at n k (and_r (eqb (count_trailing_zeros 32 (2 ^ n)) n) (counted n) t) l)
    (eq-or-lt_of_le (le_of_suc-le-suc h))

pub zeros-of-power : (k : ℕ) → k < 14 → count_trailing_zeros 32 (2 ^ k) ≡ k
zeros-of-power k h = counted-at 14 k (rw all-counted tt) h

-- so the test by trailing zero bits accepts every power of two below 2 ^ 14
pub power-found : (d : ℕ) → power_below 14 d ≡ true → (count_trailing_zeros 32 d < 14) × (2 ^ count_trailing_zeros 32 d ≡ d)
power-found d e =
    let s = power-out 14 d e in
    let z : count_trailing_zeros 32 d ≡ s.0 = ap (count_trailing_zeros 32) s.2 ∙ zeros-of-power s.0 s.1 in
    (omega (arith, s.1), ap (λ (m : ℕ). 2 ^ m) z ∙ sym s.2)
