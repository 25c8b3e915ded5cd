-- What a lane sees, and that the differences between indices of the samples are those of the definition, up to the sign of zeros. Assumes nothing.
use mathlib.Core.Path.{◌≡◌, refl, ap, ◌∙◌, subst}
use mathlib.Core.List.{List, [], ◌∷◌}
use mathlib.Core.Logic.{inl}
use Prim.Native.Nat.{ℕ, zero, suc, ◌+◌, ◌-◌, ◌*◌, ◌≤◌}
use native.Mathlib.Nat.{suc-mul}
use native.Mathlib.Omega.{arith}
use borrow.Author.Tests.{le-ltb}
use lib.ListN.{get_or}
use lib.IntN.{pos, negsuc, ◌+ℤ◌, sub_ℕ, nat_abs}
use lib.Ieee.{Float, nan, binary32}
use lib.Ieee.Fits.{mul-fits}
use Rattle.rounding.specs.Magnitude.{magnitude}
use Rattle.rounding.specs.Zeros.{EqualOrZeros}
use Rattle.rounding.proofs.MagnitudeLaws.{difference-swap}
use Rattle.rounding.proofs.Zeros.{zeros-sym, zeros-trans, sums-alike, products-alike, parted-alike, zero-plus, zero-plus-magnitude}
use Rattle.mirror.proofs.Offset.{offset-from, offset-sum}
use Rattle.planes.specs.Samples.{◌⊕◌, ◌⊖◌, ◌⊗◌}
use Rattle.planes.specs.Picture.{Around}
use Rattle.epf_step.specs.Steps.{Offset, Scaled, dists, along, apart, distance}
use Rattle.epf_distances.specs.declared.View.{View}
use Rattle.epf_distances.specs.Seen.{nearby, apart_by, summed}

-- what the lane whose corner has index p sees: the corner is 3 rows above the lane and 4 columns left of it
unfoldable pub seen : List Float → View → ℕ → Around
seen src v p = λ c dx dy. get_or src (c * v.plane + (p + (nat_abs (pos 3 +ℤ dy) * v.stride + nat_abs (pos 4 +ℤ dx)))) nan

-- the offset of a row and a column that count from the corner
abbrev pub way : ℕ → ℕ → Offset
way row col = (sub_ℕ col 4, sub_ℕ row 3)

-- ---- rows and columns

nat_abs-sub : (a b : ℕ) → b ≤ a → nat_abs (sub_ℕ a b) ≡ a - b
nat_abs-sub a b h = rw (le-ltb a b h)

-- one axis: m + ((a - m) + (p - q))
side : (m a p q : ℕ) → q ≤ a + p → nat_abs (pos m +ℤ (sub_ℕ a m +ℤ sub_ℕ p q)) ≡ a + p - q
side m a p q h =
    let e : pos m +ℤ (sub_ℕ a m +ℤ sub_ℕ p q) ≡ sub_ℕ (m + (a + p)) (m + q) = rw (offset-sum a m p q) (offset-from m (a + p) (m + q)) in
    rw e (nat_abs-sub (m + (a + p)) (m + q) (omega arith) ∙ omega arith)

side-at : (m a : ℕ) → nat_abs (pos m +ℤ sub_ℕ a m) ≡ a
side-at m a = rw (offset-from m a m) (nat_abs-sub (m + a) m (omega arith) ∙ omega arith)

-- the sample at a row and a column
pub seen-way : (src : List Float) (v : View) (p c row col : ℕ) → get_or src (c * v.plane + (p + (row * v.stride + col))) nan ≡ seen src v p c (way row col).0 (way row col).1
unfolding seen
seen-way src v p c row col = rw (side-at 3 row, side-at 4 col)

-- ---- differences, up to the sign of zeros
module _ (src : List Float) (start p : ℕ) where
  abbrev sample : ℕ → Float
  sample i = get_or src (start + (p + i)) nan

  -- a sample that comes `by` after index q less the one at q, and the other way round
  forward : (q by a b : ℕ) → q + by ≡ p + a → q ≡ p + b → EqualOrZeros (apart_by src start by q) (magnitude (sample a ⊖ sample b))
  unfolding apart_by
  forward q by a b e f = rw (e, f) (parted-alike (sample a) (sample b))

  backward : (q by a b : ℕ) → q ≡ p + a → q + by ≡ p + b → EqualOrZeros (apart_by src start by q) (magnitude (sample a ⊖ sample b))
  unfolding apart_by
  backward q by a b e f = rw (f, e) (subst (EqualOrZeros _) (difference-swap binary32 (sample b) (sample a)) (parted-alike (sample b) (sample a)))

module _ (src : List Float) (v : View) (p c row col : ℕ) (high : 1 ≤ row) (right : 1 ≤ col) where
  here : nat_abs (pos 3 +ℤ ((way row col).1 +ℤ pos 0)) ≡ row
  here = side 3 row 0 0 (omega arith) ∙ omega arith

  above : nat_abs (pos 3 +ℤ ((way row col).1 +ℤ negsuc 0)) ≡ row - 1
  above = side 3 row 0 1 (omega arith) ∙ omega arith

  below : nat_abs (pos 3 +ℤ ((way row col).1 +ℤ pos 1)) ≡ row + 1
  below = side 3 row 1 0 (omega arith) ∙ omega arith

  level : nat_abs (pos 4 +ℤ ((way row col).0 +ℤ pos 0)) ≡ col
  level = side 4 col 0 0 (omega arith) ∙ omega arith

  before : nat_abs (pos 4 +ℤ ((way row col).0 +ℤ negsuc 0)) ≡ col - 1
  before = side 4 col 0 1 (omega arith) ∙ omega arith

  after : nat_abs (pos 4 +ℤ ((way row col).0 +ℤ pos 1)) ≡ col + 1
  after = side 4 col 1 0 (omega arith) ∙ omega arith

  -- |difference| between the samples at two rows and columns
  abbrev gap : ℕ → ℕ → ℕ → ℕ → Float
  gap r k s m = magnitude (get_or src (c * v.plane + (p + (r * v.stride + k))) nan ⊖ get_or src (c * v.plane + (p + (s * v.stride + m))) nan)

  apart-is : (step j : ℕ) (d : ℕ → Float)
      → EqualOrZeros (d (j - v.stride)) (gap (row - 1) col 2 4) → EqualOrZeros (d (j + 1)) (gap row (col + 1) 3 5) → EqualOrZeros (d j) (gap row col 3 4)
      → EqualOrZeros (d (j - 1)) (gap row (col - 1) 3 3) → EqualOrZeros (d (j + v.stride)) (gap (row + 1) col 4 4)
      → EqualOrZeros (nearby v.stride step d j) (apart (dists step) (seen src v p) c (way row col))
  unfolding apart dists along seen nearby
  apart-is zero j d a b e f g =
      rw (here, above, below, level, before, after)
      (sums-alike (sums-alike (sums-alike (sums-alike (zeros-trans a (zeros-sym (zero-plus-magnitude _ _))) b) e) f) g)
  apart-is (suc zero) j d a b e f g =
      rw (here, above, below, level, before, after)
      (sums-alike (sums-alike (sums-alike (sums-alike (zeros-trans a (zeros-sym (zero-plus-magnitude _ _))) e) g) f) b)
  apart-is (suc (suc s)) j d a b e f g = rw (here, level) (zeros-trans e (zeros-sym (zero-plus-magnitude _ _)))

  -- a row more or less
  less : (row - 1) * v.stride + v.stride ≡ row * v.stride
  less =
      let z : row ≡ suc (row - 1) = omega arith in
      omega (arith, suc-mul (row - 1) v.stride, ap (λ (n : ℕ). n * v.stride) z)

  more : (row + 1) * v.stride ≡ row * v.stride + v.stride
  more =
      let z : row + 1 ≡ suc row = omega arith in
      omega (arith, suc-mul row v.stride, ap (λ (n : ℕ). n * v.stride) z)

  -- the neighbour that comes this far after the centre
  pub nearby-forward : (step j by : ℕ) → j ≡ p + (3 * v.stride + 4) → j + by ≡ p + (row * v.stride + col)
      → EqualOrZeros (nearby v.stride step (apart_by src (c * v.plane) by) j) (apart (dists step) (seen src v p) c (way row col))
  nearby-forward step j by e f =
      apart-is step j (apart_by src (c * v.plane) by)
      (forward src (c * v.plane) p _ by ((row - 1) * v.stride + col) (2 * v.stride + 4) (omega (arith, less)) (omega arith))
      (forward src (c * v.plane) p _ by (row * v.stride + (col + 1)) (3 * v.stride + 5) (omega arith) (omega arith))
      (forward src (c * v.plane) p _ by (row * v.stride + col) (3 * v.stride + 4) (omega arith) (omega arith))
      (forward src (c * v.plane) p _ by (row * v.stride + (col - 1)) (3 * v.stride + 3) (omega arith) (omega arith))
      (forward src (c * v.plane) p _ by ((row + 1) * v.stride + col) (4 * v.stride + 4) (omega (arith, more)) (omega arith))

  -- the neighbour that comes this far before it: the same differences with operands exchanged, from the neighbour's own index
  pub nearby-backward : (step j by : ℕ) → j ≡ p + (row * v.stride + col) → j + by ≡ p + (3 * v.stride + 4)
      → EqualOrZeros (nearby v.stride step (apart_by src (c * v.plane) by) j) (apart (dists step) (seen src v p) c (way row col))
  nearby-backward step j by e f =
      apart-is step j (apart_by src (c * v.plane) by)
      (backward src (c * v.plane) p _ by ((row - 1) * v.stride + col) (2 * v.stride + 4) (omega (arith, less)) (omega (arith, less)))
      (backward src (c * v.plane) p _ by (row * v.stride + (col + 1)) (3 * v.stride + 5) (omega arith) (omega arith))
      (backward src (c * v.plane) p _ by (row * v.stride + col) (3 * v.stride + 4) (omega arith) (omega arith))
      (backward src (c * v.plane) p _ by (row * v.stride + (col - 1)) (3 * v.stride + 3) (omega arith) (omega arith))
      (backward src (c * v.plane) p _ by ((row + 1) * v.stride + col) (4 * v.stride + 4) (omega (arith, more)) (omega (arith, more)))

-- ---- the distances of all channels: the definition's sum starts at 0, which the first channel's scaled sum is added to

along-alike : (f g : Scaled → Float) → ((a : Scaled) → EqualOrZeros (f a) (g a)) → (l : List Scaled) (x y : Float) → EqualOrZeros x y
    → EqualOrZeros (along (λ (s : Float) (a : Scaled). s ⊕ a.1 ⊗ f a) x l) (along (λ (s : Float) (a : Scaled). s ⊕ a.1 ⊗ g a) y l)
unfolding along
along-alike f g h [] x y e = e
along-alike f g h (a ∷ l) x y e = along-alike f g h l _ _ (sums-alike e (products-alike a.1 (h a)))

pub distance-alike : (src : List Float) (v : View) (step p j by : ℕ) (o : Offset) (cs : List Scaled)
    → ((c : ℕ) → EqualOrZeros (nearby v.stride step (apart_by src (c * v.plane) by) j) (apart (dists step) (seen src v p) c o))
    → EqualOrZeros (summed v.stride step cs (λ c. apart_by src (c * v.plane) by) j) (distance cs (dists step) (seen src v p) o)
unfolding summed distance along
distance-alike src v step p j by o [] h = inl refl
distance-alike src v step p j by o (a ∷ cs) h =
    along-alike _ _ (λ k. h k.0) cs _ _ (zeros-trans (products-alike a.1 (h a.0)) (zeros-sym (zero-plus _ (mul-fits binary32 a.1 _))))
