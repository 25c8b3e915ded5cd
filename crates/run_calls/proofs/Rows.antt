-- A set after a pass over rows of the result region, position by position: the pass's sample in those rows, unchanged elsewhere. Assumes
-- nothing.
use mathlib.Core.Path.{◌≡◌}
use mathlib.Core.Bool.{Bool, true, false, cond}
use mathlib.Core.List.{List}
use Prim.Native.Nat.{ℕ, ◌+◌, ◌-◌, ◌<◌, ◌≤◌}
use native.Mathlib.Omega.{arith}
use borrow.Author.Tests.{le-leb, lt-ltb}
use lib.Ieee.{Float}
use Rattle.planes.specs.declared.Layout.{Layout}
use Rattle.planes.specs.Picture.{Picture, in_rect}
use Rattle.planes.specs.Sets.{of}
use Rattle.planes.proofs.SetLaws.{of-set_of}
use Rattle.planes.specs.Band.{result_left, result_top, result_width, result_height, in_filter, written, passed}
use Rattle.planes.specs.Fits.{LayoutFits}

-- a set's samples by columns and rows of the image
abbrev pub sample_of : Layout → List Float → Picture
sample_of l s = of l.image.width l.image.height s

-- the sample that a pass writes: p inside the filter region, a copy outside it
abbrev pub filtered : Layout → Picture → List Float → Picture
filtered l p src c x y = cond (in_filter l x y) (p c (x - l.left) (y - l.top)) (sample_of l src c x y)

-- column x and row y of the image lie in the result region
pub record InResult (l : Layout) (x y : ℕ) : Type 0 where
  pub left : result_left l ≤ x
  pub right : x < result_left l + result_width l
  pub top : result_top l ≤ y
  pub bottom : y < result_top l + result_height l

-- ---- one axis: the result region has all n positions, or m of them from a on

module _ (n a m : ℕ) (fits : a + m ≤ n) where
  in-axis : (full : Bool) (x : ℕ) → x < cond full 0 a + cond full n m → x < n
  in-axis true x h = omega arith
  in-axis false x h = omega arith

  part-from : (full : Bool) (x : ℕ) → cond full 0 a ≤ a + x
  part-from true x = omega arith
  part-from false x = omega arith

  part-before : (full : Bool) (x : ℕ) → x < m → a + x < cond full 0 a + cond full n m
  part-before true x h = omega arith
  part-before false x h = omega arith

in-rect : (left n top m x y : ℕ) → left ≤ x → x < left + n → top ≤ y → y < top + m → in_rect left n top m x y ≡ true
unfolding in_rect
in-rect left n top m x y a b c d = rw (le-leb left x a, lt-ltb x (left + n) b, le-leb top y c, lt-ltb y (top + m) d)

-- ---- both axes

-- if the result region is the image region, it has every position of the image
pub image-in-result : (l : Layout) (x y : ℕ) → l.full ≡ true → x < l.image.width → y < l.image.height → InResult l x y
image-in-result l x y e i j = record { left = rw e (omega arith); right = rw e (omega arith); top = rw e (omega arith); bottom = rw e (omega arith) }

module _ (l : Layout) (fits : LayoutFits l) where
  -- a position of the filter region is in the result region
  pub filter-in-result : (x y : ℕ) → x < l.width → y < l.height → InResult l (l.left + x) (l.top + y)
  filter-in-result x y i j = record {
    left = part-from l.image.width l.left l.width fits.across l.full x;
    right = part-before l.image.width l.left l.width fits.across l.full x i;
    top = part-from l.image.height l.top l.height fits.down l.full y;
    bottom = part-before l.image.height l.top l.height fits.down l.full y j;
  }

  pub filtered-inside : (p : Picture) (src : List Float) (c x y : ℕ) → x < l.width → y < l.height → filtered l p src c (l.left + x) (l.top + y) ≡ p c x y
  unfolding in_filter
  filtered-inside p src c x y i j =
      let a : l.left + x - l.left ≡ x = omega arith in
      let b : l.top + y - l.top ≡ y = omega arith in
      rw (in-rect l.left l.width l.top l.height (l.left + x) (l.top + y) (omega arith) (omega arith) (omega arith) (omega arith), a, b)

  module _ (x y : ℕ) (place : InResult l x y) where
    -- a position is written if its row is among those of the pass
    pub written_at : (from to : ℕ) → from ≤ y - result_top l → y - result_top l < to → written l from to x y ≡ true
    unfolding written
    written_at from to a b =
        in-rect (result_left l) (result_width l) (result_top l + from) (to - from) x y place.left place.right (omega (arith, place.top)) (omega (arith, place.top))

    pub sample-after : (n from to : ℕ) (p : Picture) (src dst : List Float) (c : ℕ) → c < n
        → sample_of l (passed n l from to p src dst) c x y ≡ cond (written l from to x y) (filtered l p src c x y) (sample_of l dst c x y)
    unfolding passed
    sample-after n from to p src dst c h =
        of-set_of n l.image.width l.image.height _ c x y h
        (in-axis l.image.width l.left l.width fits.across l.full x place.right)
        (in-axis l.image.height l.top l.height fits.down l.full y place.bottom)
