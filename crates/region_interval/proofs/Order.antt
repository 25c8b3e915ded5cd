-- Linear arithmetic on integers, translated to natural numbers for `omega`: an integer is given by its distance above 0 and its distance below 0.
-- Assumes nothing.
use mathlib.Core.Path.{◌≡◌, refl, sym, ap}
use mathlib.Core.Bool.{Bool, true, false}
use mathlib.Core.Logic.{◌⊎◌, inl, inr, ⊎_elim}
use Prim.Native.Nat.{ℕ, zero, suc, ◌+◌, ◌<◌, ◌≤◌}
use native.Mathlib.Decide.{dec_le}
use native.Mathlib.Omega.{arith}
use lib.Dec.{T, ltb, leb→le, le→leb, lt→ltb}
use borrow.Author.Tests.{ltb-true, ltb-false, lt-leb, le-leb}
use lib.IntN.{ℤ, pos, negsuc, neg_ℤ, nat_abs, sub_ℕ, ◌+ℤ◌, ◌-ℤ◌}
use lib.Signed.{le_z, lt_z, mag}
use Rattle.std.specs.Int.{int_min, int_max}
use Rattle.region_interval.specs.Integers.{least, greatest}
use Rattle.region_interval.specs.Overlap.{meet}
use Rattle.region_interval.specs.declared.Span.{Span}

abbrev pub above : ℤ → ℕ
above (pos n) = n
above (negsuc n) = 0

abbrev pub below : ℤ → ℕ
below (pos n) = 0
below (negsuc n) = suc n

-- one of the two distances is 0
pub one_side : (z : ℤ) → (above z ≡ 0) ⊎ (below z ≡ 0)
one_side (pos n) = inr refl
one_side (negsuc n) = inl refl

-- ---- the order

pub le-to : (a b : ℤ) → T (le_z a b) → above a + below b ≤ above b + below a
le-to (pos a) (pos b) t = omega (arith, leb→le a b t)
le-to (pos a) (negsuc b) t = absurd t
le-to (negsuc a) (pos b) t = omega arith
le-to (negsuc a) (negsuc b) t = omega (arith, leb→le b a t)

pub le_of : (a b : ℤ) → above a + below b ≤ above b + below a → T (le_z a b)
le_of (pos a) (pos b) h = le→leb a b (omega arith)
le_of (pos a) (negsuc b) h = absurd (omega arith)
le_of (negsuc a) (pos b) h = tt
le_of (negsuc a) (negsuc b) h = le→leb b a (omega arith)

pub eq_of : (a b : ℤ) → above a + below b ≡ above b + below a → a ≡ b
eq_of (pos a) (pos b) h = ap pos (omega arith)
eq_of (pos a) (negsuc b) h = absurd (omega arith)
eq_of (negsuc a) (pos b) h = absurd (omega arith)
eq_of (negsuc a) (negsuc b) h = ap negsuc (omega arith)

pub not-le : (a b : ℤ) → le_z a b ≡ false → above b + below a < above a + below b
not-le a b e = go (dec_le (above a + below b) (above b + below a))
  where
    go : Dec (above a + below b ≤ above b + below a) → above b + below a < above a + below b
    go (yes h) = absurd (rw e at (le_of a b h))
    go (no h) = omega arith

-- ---- sums, differences and negations

sub_is : (a b : ℕ) → above (sub_ℕ a b) + b ≡ a + below (sub_ℕ a b)
sub_is a b = go (ltb a b) refl
  where
    go : (x : Bool) → ltb a b ≡ x → above (sub_ℕ a b) + b ≡ a + below (sub_ℕ a b)
    go true e = rw e (omega (arith, ltb-true a b e))
    go false e = rw e (omega (arith, ltb-false a b e))

pub sum_is : (a b : ℤ) → above (a +ℤ b) + (below a + below b) ≡ above a + above b + below (a +ℤ b)
sum_is (pos a) (pos b) = omega arith
sum_is (pos a) (negsuc b) = omega (arith, sub_is a (suc b))
sum_is (negsuc a) (pos b) = omega (arith, sub_is b (suc a))
sum_is (negsuc a) (negsuc b) = omega arith

pub neg-above : (z : ℤ) → above (neg_ℤ z) ≡ below z
neg-above (pos zero) = refl
neg-above (pos (suc n)) = refl
neg-above (negsuc n) = refl

pub neg-below : (z : ℤ) → below (neg_ℤ z) ≡ above z
neg-below (pos zero) = refl
neg-below (pos (suc n)) = refl
neg-below (negsuc n) = refl

pub difference-is : (a b : ℤ) → above (a -ℤ b) + (below a + above b) ≡ above a + below b + below (a -ℤ b)
difference-is a b = omega (arith, sum_is a (neg_ℤ b), neg-above b, neg-below b)

-- ---- magnitudes

pub size_is : (z : ℤ) → nat_abs z ≡ above z + below z
size_is (pos n) = omega arith
size_is (negsuc n) = omega arith

-- b - a is not negative if a ≤ b
pub not-negative-difference : (a b : ℤ) → above a + below b ≤ above b + below a → below (b -ℤ a) ≡ 0
not-negative-difference a b h = ⊎_elim (λ (l : above (b -ℤ a) ≡ 0). omega (arith, difference-is b a)) (λ (r : below (b -ℤ a) ≡ 0). r) (one_side (b -ℤ a))

-- x is |x - a| above a if a ≤ x
pub distance_is : (a x : ℤ) → T (le_z a x) → above a + below x + nat_abs (x -ℤ a) ≡ above x + below a
distance_is a x h = let p = le-to a x h in omega (arith, p, size_is (x -ℤ a), difference-is x a, not-negative-difference a x p)

-- ---- minimum and maximum

pub least-left : (a b : ℤ) → le_z a b ≡ true → least a b ≡ a
least-left a b e = rw e

pub least-right : (a b : ℤ) → le_z a b ≡ false → least a b ≡ b
least-right a b e = rw e

pub greatest-left : (a b : ℤ) → le_z a b ≡ false → greatest a b ≡ a
greatest-left a b e = rw e

pub greatest-right : (a b : ℤ) → le_z a b ≡ true → greatest a b ≡ b
greatest-right a b e = rw e

-- ---- less than, and its negation

pub lt_not_le : (a b : ℤ) → lt_z a b ≡ true → le_z b a ≡ false
lt_not_le (pos a) (pos b) e = lt-leb b a (ltb-true a b e)
lt_not_le (pos a) (negsuc b) e = sym e
lt_not_le (negsuc a) (pos b) e = refl
lt_not_le (negsuc a) (negsuc b) e = lt-leb a b (ltb-true b a e)

pub not-lt-le : (a b : ℤ) → lt_z a b ≡ false → le_z b a ≡ true
not-lt-le (pos a) (pos b) e = le-leb b a (ltb-false a b e)
not-lt-le (pos a) (negsuc b) e = refl
not-lt-le (negsuc a) (pos b) e = sym e
not-lt-le (negsuc a) (negsuc b) e = le-leb a b (ltb-false b a e)

-- the intersection by the library's maximum and minimum
module _ (a b : ℤ) where
  max_is : int_max a b ≡ greatest a b
  max_is = go (lt_z b a) refl
    where
      go : (x : Bool) → lt_z b a ≡ x → int_max a b ≡ greatest a b
      go true e = rw (e, lt_not_le b a e) refl
      go false e = rw (e, not-lt-le b a e) refl

  min_is : int_min a b ≡ least a b
  min_is = go (lt_z b a) refl
    where
      go : (x : Bool) → lt_z b a ≡ x → int_min a b ≡ least a b
      go true e = rw (e, lt_not_le b a e) refl
      go false e = rw (e, not-lt-le b a e) refl

pub meet_of : (a b : Span) (x y : ℤ) → x ≡ int_max a.start b.start → y ≡ int_min a.end b.end → ◌≡◌ {A = Span} (record { start = x; end = y }) (meet a b)
meet_of a b x y e f = rw (e, f, max_is a.start b.start, min_is a.end b.end) refl

-- ---- bounds on `mag` (z, or -1 - z if z is negative) of sums and negations

mag-sub : (a b : ℕ) → mag (sub_ℕ a b) ≤ a + b
mag-sub a b = go (ltb a b) refl
  where
    go : (x : Bool) → ltb a b ≡ x → mag (sub_ℕ a b) ≤ a + b
    go true e = rw e (omega (arith, ltb-true a b e))
    go false e = rw e (omega (arith, ltb-false a b e))

pub mag-add : (a b : ℤ) → mag (a +ℤ b) ≤ mag a + mag b + 1
mag-add (pos a) (pos b) = omega arith
mag-add (pos a) (negsuc b) = omega (arith, mag-sub a (suc b))
mag-add (negsuc a) (pos b) = omega (arith, mag-sub b (suc a))
mag-add (negsuc a) (negsuc b) = omega arith

-- ---- the maximum is the least upper bound, the minimum the greatest lower bound

pub le_refl : (a : ℤ) → T (le_z a a)
le_refl a = le_of a a (omega arith)

pub le_trans : (a b c : ℤ) → T (le_z a b) → T (le_z b c) → T (le_z a c)
le_trans a b c h k = le_of a c (omega (arith, le-to a b h, le-to b c k))

module _ (a b : ℤ) where
  by_order : (P : ℤ → Type 0) → (le_z a b ≡ true → P b) → (le_z a b ≡ false → P a) → P (greatest a b)
  by_order P upper lower = go (le_z a b) refl
    where
      go : (x : Bool) → le_z a b ≡ x → P (greatest a b)
      go true e = rw e (upper e)
      go false e = rw e (lower e)

  pub greatest-over-left : T (le_z a (greatest a b))
  greatest-over-left = by_order (λ z. T (le_z a z)) (λ e. rw e tt) (λ e. le_refl a)

  pub greatest-over-right : T (le_z b (greatest a b))
  greatest-over-right = by_order (λ z. T (le_z b z)) (λ e. le_refl b) (λ e. le_of b a (omega (arith, not-le a b e)))

  pub greatest-under : (c : ℤ) → T (le_z a c) → T (le_z b c) → T (le_z (greatest a b) c)
  greatest-under c h k = by_order (λ z. T (le_z z c)) (λ e. k) (λ e. h)

  by-order-least : (P : ℤ → Type 0) → (le_z a b ≡ true → P a) → (le_z a b ≡ false → P b) → P (least a b)
  by-order-least P upper lower = go (le_z a b) refl
    where
      go : (x : Bool) → le_z a b ≡ x → P (least a b)
      go true e = rw e (upper e)
      go false e = rw e (lower e)

  pub least-under-left : T (le_z (least a b) a)
  least-under-left = by-order-least (λ z. T (le_z z a)) (λ e. le_refl a) (λ e. le_of b a (omega (arith, not-le a b e)))

  pub least-under-right : T (le_z (least a b) b)
  least-under-right = by-order-least (λ z. T (le_z z b)) (λ e. rw e tt) (λ e. le_refl b)

  pub least-over : (c : ℤ) → T (le_z c a) → T (le_z c b) → T (le_z c (least a b))
  least-over c h k = by-order-least (λ z. T (le_z c z)) (λ e. h) (λ e. k)

-- e - s is at most b - a if a ≤ s ≤ e ≤ b
pub between : (a s e b : ℤ) → T (le_z a s) → T (le_z s e) → T (le_z e b) → nat_abs (e -ℤ s) ≤ nat_abs (b -ℤ a)
between a s e b h k l = omega (arith, le-to a s h, le-to e b l, distance_is s e k, distance_is a b (le_trans a s b h (le_trans s e b k l)))

pub lt-to : (a b : ℤ) → T (lt_z a b) → above a + below b < above b + below a
lt-to a b t = not-le b a (lt_not_le a b (true_of (lt_z a b) t))
  where
    true_of : (x : Bool) → T x → x ≡ true
    true_of true t = refl
    true_of false t = absurd t

pub lt_of : (a b : ℤ) → above a + below b < above b + below a → T (lt_z a b)
lt_of (pos a) (pos b) h = lt→ltb a b (omega arith)
lt_of (pos a) (negsuc b) h = absurd (omega arith)
lt_of (negsuc a) (pos b) h = tt
lt_of (negsuc a) (negsuc b) h = lt→ltb b a (omega arith)
