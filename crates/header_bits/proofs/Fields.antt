-- A field read from its last bit to its first. Assumes nothing.
use Prim.Native.Nat.{ℕ, zero, suc, ◌+◌, ◌-◌, ◌*◌, ◌^◌, ◌<◌, ◌≤◌}
use mathlib.Core.List.{List}
use mathlib.Core.Path.{◌≡◌, ap, ◌∙◌}
use native.Mathlib.Nat.{pow-suc}
use native.Mathlib.Omega.{arith}
use lib.Pow.{pow_mono}
use Rattle.header_bits.specs.Bits.{bit, field}

pub field_below : (s : List ℕ) (p n : ℕ) → field s p n < 2 ^ n
unfolding field
field_below s p zero = omega arith
field_below s p (suc n) = omega (arith, field_below s (p + 1) n, pow-suc 2 n)

pub field_within : (s : List ℕ) (p n m : ℕ) → n ≤ m → field s p n < 2 ^ m
field_within s p n m h = omega (arith, field_below s p n, pow_mono {i = n} {j = m} h)

-- the loop of `field`: no bit is read, one more bit is read, all bits are read
pub field_none : (s : List ℕ) (p n : ℕ) → 0 ≡ field s p (n - n)
unfolding field
field_none s p n = ap (field s p) e
  where
    e : 0 ≡ n - n
    e = omega arith

pub field_turn : (s : List ℕ) (at width left v b : ℕ) → 0 < left → left ≤ width → v ≡ field s (at + left) (width - left) → b ≡ bit s (at + (left - 1))
    → v * 2 + b ≡ field s (at + (left - 1)) (width - (left - 1))
unfolding field
field_turn s at width left v b h k e f =
    let p : at + left ≡ at + (left - 1) + 1 = omega arith in
    let n : width - (left - 1) ≡ suc (width - left) = omega arith in
    rw (e, f, p, n) (omega arith)

pub field_all : (s : List ℕ) (at width left v : ℕ) → left ≤ 0 → v ≡ field s (at + left) (width - left) → v ≡ field s at width
field_all s at width left v h e =
    let p : at + left ≡ at = omega arith in
    let n : width - left ≡ width = omega arith in
    e ∙ rw (p, n)
