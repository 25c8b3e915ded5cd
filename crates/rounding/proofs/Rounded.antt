-- Rounding to a format: the sign of a rounded fraction, and the integers that bound it. Assumes nothing.
use mathlib.Core.Path.{◌≡◌, refl, sym, ◌∙◌}
use mathlib.Core.Bool.{Bool, true, false, ◌&&◌, ◌||◌, cond, true≢false}
use Prim.Native.Nat.{ℕ, zero, suc, ◌+◌, ◌*◌, ◌^◌, ◌≤◌, ◌<◌}
use native.Mathlib.Nat.{le_trans, le_of_eq, le_of_lt, le_of_mul-le-mul_right, mul-le-mul_right, mul-pos, zero-lt-suc}
use native.Mathlib.Omega.{arith}
use lib.Dec.{T, eqb, ltb, eqb→eq, ltb→lt}
use lib.Ieee.{Float, nan, inf, fin, Format, binary32, binary64, prec, emax, low, up, down, odd, units, round, sum, add, le}
use lib.IntN.{pos}
use lib.Ieee.Fits.{down_pos, and_l, round_is}
use lib.Ieee.Exact.{HasValue}
use lib.Ieee.Back.{round_whole}
use lib.Ieee.Scale.{round_same}
use lib.Ieee.Order.{transfer, le_of_values, round_mono}

-- the sum of two numbers of the same sign is the rounded sum of their fractions
pub same_sign : (f : Format) (s : Bool) (a b c : ℕ) → sum f s a s b c ≡ round f s (a + b) c
unfolding sum
same_sign f true a b c = refl
same_sign f false a b c = refl

-- the integer n with sign s
abbrev pub whole : Format → Bool → ℕ → Float
whole f s n = round f s n 1

-- ---- zero

whole-zero : (f : Format) (s : Bool) → whole f s 0 ≡ fin s 0 (pos 0)
unfolding round
whole-zero binary32 s = refl
whole-zero binary64 s = refl

pub round-zero : (f : Format) (s : Bool) (a c : ℕ) → a ≡ 0 → 0 < c → round f s a c ≡ fin s 0 (pos 0)
round-zero f s a c e C = round_same f s a c 0 1 C (zero-lt-suc 0) (omega arith) ∙ whole-zero f s

-- ---- between two integers: finite, sign bit 0, at least lo and at most hi
abbrev pub Within : ℕ → ℕ → Float → Type 0
Within lo hi nan = ⊥
Within lo hi (inf s) = ⊥
Within lo hi (fin s m e) = (s ≡ false) × (lo * down e ≤ m * up e) × (m * up e ≤ hi * down e)

or_split : (a b : ℕ) (c : Bool) → T (ltb a b || (eqb a b && c)) → a ≤ b
or_split a b c = go (ltb a b) (eqb a b) (ltb→lt a b) (eqb→eq a b)
  where
    go : (x y : Bool) → (T x → a < b) → (T y → a ≡ b) → T (x || (y && c)) → a ≤ b
    go true y h k t = le_of_lt (h tt)
    go false y h k t = le_of_eq (k (and_l y c t))

-- ---- the sign bit of a value
abbrev pub Signed : Bool → Float → Type 0
Signed t nan = Unit
Signed t (inf s) = s ≡ t
Signed t (fin s m e) = s ≡ t

odd-signed : (d : ℕ) (s : Bool) (q k l : ℕ) → Signed s (odd d s q k l)
unfolding odd
odd-signed d s zero k l = refl
odd-signed d s (suc q) k l = refl

units-signed : (f : Format) (s : Bool) (q k : ℕ) → Signed s (units f s q k)
unfolding units
units-signed f s q k = go (ltb (q * 2 ^ k) (2 ^ (low f + suc (emax f))))
  where
    go : (b : Bool) → Signed s (cond b (odd (suc (prec f)) s q k (low f)) (inf s))
    go true = odd-signed (suc (prec f)) s q k (low f)
    go false = refl

pub round-signed : (f : Format) (s : Bool) (a c : ℕ) → Signed s (round f s a c)
round-signed f s a c = rw round_is (units-signed f s _ _)

-- a value between two values that are integers
within_of : (x y z : Float) (lo hi : ℕ) → HasValue x false lo 1 → HasValue y false hi 1 → Signed false z → T (le x z) → T (le z y) → Within lo hi z
unfolding le
within_of nan y z lo hi h k s p q = absurd h
within_of (inf t) y z lo hi h k s p q = absurd h
within_of (fin true m e) y z lo hi h k s p q = absurd (true≢false h.0)
within_of (fin false m e) nan z lo hi h k s p q = absurd k
within_of (fin false m e) (inf t) z lo hi h k s p q = absurd k
within_of (fin false m e) (fin true n g) z lo hi h k s p q = absurd (true≢false k.0)
within_of (fin false m e) (fin false n g) nan lo hi h k s p q = absurd p
within_of (fin false m e) (fin false n g) (inf true) lo hi h k s p q = absurd p
within_of (fin false m e) (fin false n g) (inf false) lo hi h k s p q = absurd q
within_of (fin false m e) (fin false n g) (fin true w d) lo hi h k s p q = absurd (true≢false s)
within_of (fin false m e) (fin false n g) (fin false w d) lo hi h k s p q = (
  refl,
  omega (arith, transfer lo (w * up d) 1 (down d) (m * up e) (w * up d) (down e) (down d) (down_pos e) (down_pos d) (sym h.1) refl (or_split (m * up e * down d) (w * up d * down e) true p)),
  omega (arith, transfer (w * up d) hi (down d) 1 (w * up d) (n * up g) (down d) (down g) (down_pos d) (down_pos g) refl (sym k.1) (or_split (w * up d * down g) (n * up g * down d) true q)),
)

-- a fraction between two integers is still between them after rounding
pub round-within : (f : Format) (lo hi a c : ℕ) → 0 < c → hi ≤ 2 ^ prec f → lo * c ≤ a → a ≤ hi * c → Within lo hi (round f false a c)
round-within f lo hi a c C H h k =
    within_of (whole f false lo) (whole f false hi) (round f false a c) lo hi
    (round_whole f false lo (le_trans (le_of_mul-le-mul_right (le_trans h k) C) H)) (round_whole f false hi H) (round-signed f false a c)
    (round_mono f lo 1 a c (zero-lt-suc 0) C (omega arith)) (round_mono f a c hi 1 C (zero-lt-suc 0) (omega arith))

-- the sum of two bounded values lies between the sums of the bounds
pub add-within : (f : Format) (x y : Float) (a b c d : ℕ) → b + d ≤ 2 ^ prec f → Within a b x → Within c d y → Within (a + c) (b + d) (add f x y)
unfolding add
add-within f nan y a b c d H h k = absurd h
add-within f (inf s) y a b c d H h k = absurd h
add-within f (fin s m e) nan a b c d H h k = absurd k
add-within f (fin s m e) (inf t) a b c d H h k = absurd k
add-within f (fin s m e) (fin t n g) a b c d H h k =
    rw (h.0, k.0, same_sign)
    (round-within f (a + c) (b + d) (m * up e * down g + n * up g * down e) (down e * down g) (mul-pos (down_pos e) (down_pos g)) H
    (omega (arith, mul-le-mul_right (down g) h.1, mul-le-mul_right (down e) k.1)) (omega (arith, mul-le-mul_right (down g) h.2, mul-le-mul_right (down e) k.2)))

-- the same bounds as float comparisons
pub within-le : (x y z : Float) (lo hi : ℕ) → HasValue x false lo 1 → HasValue y false hi 1 → Within lo hi z → T (le x z) × T (le z y)
within-le x y nan lo hi h k w = absurd w
within-le x y (inf s) lo hi h k w = absurd w
within-le x y (fin s m e) lo hi h k w = (
  le_of_values x (fin s m e) lo 1 (m * up e) (down e) (zero-lt-suc 0) (down_pos e) h (w.0, refl) (omega (arith, w.1)),
  le_of_values (fin s m e) y (m * up e) (down e) hi 1 (down_pos e) (zero-lt-suc 0) (w.0, refl) k (omega (arith, w.2)),
)
