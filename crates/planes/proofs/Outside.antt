-- Copying the samples outside the filter region: the results of the loops along rows, over rows and over planes. Assumes nothing.
use mathlib.Core.Path.{◌≡◌, refl, sym, ap, ◌∙◌}
use mathlib.Core.Bool.{true, false, and-false}
use mathlib.Core.List.{List}
use Prim.Native.Nat.{ℕ, zero, suc, ◌+◌, ◌-◌, ◌*◌, ◌<◌, ◌≤◌}
use native.Mathlib.Nat.{suc-mul, add-mul}
use native.Mathlib.Omega.{arith}
use borrow.Author.Tests.{lt-ltb, le-ltb, le-leb, lt-leb}
use lib.ListN.{length, get_or}
use lib.Ieee.{Float, nan}
use Rattle.planes.specs.declared.Layout.{Layout}
use Rattle.planes.specs.Picture.{in_rect}
use Rattle.planes.specs.Sets.{of}
use Rattle.planes.specs.Fill.{fill}
use Rattle.planes.proofs.Fill.{length-fill, fill-after, fill-cong, fill-then, fill-same}
use Rattle.planes.specs.Rect.{rows_fill, planes_fill}
use Rattle.planes.proofs.Rect.{planes-turn, planes-later, rows-cong}
use Rattle.planes.specs.Band.{in_filter}
use Rattle.planes.specs.Outside.{row_outside, rows_outside, planes_outside_of}

-- ---- one row of w samples from index o: s is the list read, d is the list written
module _ (l : Layout) (y o : ℕ) (s d : List Float) where
  above : (x : ℕ) → y < l.top → in_filter l x y ≡ false
  unfolding in_filter in_rect
  above x h = simp (lt-leb l.top y h, and-false)

  below : (x : ℕ) → l.top + l.height ≤ y → in_filter l x y ≡ false
  unfolding in_filter in_rect
  below x h = simp (le-ltb y (l.top + l.height) h, and-false)

  left-of : (x : ℕ) → x < l.left → in_filter l x y ≡ false
  unfolding in_filter in_rect
  left-of x h = rw (lt-leb l.left x h)

  right_of : (x : ℕ) → l.left ≤ x → l.left + l.width ≤ x → in_filter l x y ≡ false
  unfolding in_filter in_rect
  right_of x a h = rw (le-leb l.left x a, le-ltb x (l.left + l.width) h)

  among : (x : ℕ) → l.left ≤ x → x < l.left + l.width → l.top ≤ y → y < l.top + l.height → in_filter l x y ≡ true
  unfolding in_filter in_rect
  among x a b p q = rw (le-leb l.left x a, lt-ltb x (l.left + l.width) b, le-leb l.top y p, lt-ltb y (l.top + l.height) q)

  -- a row above or below the filter region
  pub row-above : (t : List Float) (w : ℕ) → y < l.top → t ≡ fill d o w (λ x. get_or s (o + x) nan) → t ≡ fill d o w (row_outside l y o s d)
  unfolding row_outside
  row-above t w h e = e ∙ fill-cong d o w _ _ (λ x p. rw (above x h))

  pub row_below : (t : List Float) (w : ℕ) → l.top + l.height ≤ y → t ≡ fill d o w (λ x. get_or s (o + x) nan) → t ≡ fill d o w (row_outside l y o s d)
  unfolding row_outside
  row_below t w h e = e ∙ fill-cong d o w _ _ (λ x p. rw (below x h))

  -- a row of the filter region: the samples left of it, then those right of it
  pub row-beside : (t u : List Float) (w r : ℕ) → r ≡ l.left + l.width → r ≤ w → o + w ≤ length d → l.top ≤ y → y < l.top + l.height
      → t ≡ fill d o l.left (λ x. get_or s (o + x) nan) → u ≡ fill t (o + r) (w - r) (λ x. get_or s (o + r + x) nan) → u ≡ fill d o w (row_outside l y o s d)
  unfolding row_outside
  row-beside t u w r q fits room p h et eu =
      let n : ℕ = l.left in
      let m : ℕ = l.width in
      let a : fill d o n (λ x. get_or s (o + x) nan) ≡ fill d o n (row_outside l y o s d) = fill-cong d o n _ _ (λ x i. rw (left-of x i)) in
      let t' : t ≡ fill d o n (row_outside l y o s d) = et ∙ a in
      let stays : fill t (o + n) m (λ x. get_or d (o + n + x) nan) ≡ t =
      fill-same t (o + n) m _ (omega (arith, ap length et, length-fill d o n (λ x. get_or s (o + x) nan)))
      (λ x i. rw et (sym (fill-after d o n _ (o + n + x) (omega arith)))) in
      let b : fill (fill d o n (row_outside l y o s d)) (o + n) m (λ x. get_or d (o + n + x) nan) ≡ fill d o (n + m) (row_outside l y o s d) =
      fill-then d o n m (row_outside l y o s d) _ (row_outside l y o s d) (λ x i. refl)
      (λ x i. let z : o + n + x ≡ o + (n + x) = omega arith in rw (among (n + x) (omega arith) (omega arith) p h, z)) in
      let z : t ≡ fill d o r (row_outside l y o s d) = sym stays ∙ rw (t', q) b in
      let e : r + (w - r) ≡ w = omega arith in
      eu ∙ rw z (fill-then d o r (w - r) (row_outside l y o s d) _ (row_outside l y o s d) (λ x i. refl)
      (λ x i. let k : o + r + x ≡ o + (r + x) = omega arith in rw (right_of (r + x) (omega arith) (omega arith), k)) ∙ rw e)

-- ---- rows

-- the samples after the written rows are unchanged
pub rows-ahead : (d : List Float) (at stride n m : ℕ) (v : ℕ → ℕ → Float) (k : ℕ) → n ≤ stride → at + m * stride ≤ k
    → get_or (rows_fill d at stride n m v) k nan ≡ get_or d k nan
unfolding rows_fill
rows-ahead d at stride n zero v k p q = refl
rows-ahead d at stride n (suc m) v k p q =
    fill-after (rows_fill d at stride n m v) (at + m * stride) n (v m) k (omega (arith, suc-mul m stride))
    ∙ rows-ahead d at stride n m v k p (omega (arith, suc-mul m stride))

module _ (l : Layout) (from at w : ℕ) (s d : List Float) where
  -- an iteration of the loop finds row i unchanged
  pub row_next : (a b : List Float) (i o : ℕ) → a ≡ rows_fill d at w w i (rows_outside l from at w s d) → o ≡ at + i * w
      → b ≡ fill a o w (row_outside l (from + i) o s a) → b ≡ fill a o w ((rows_outside l from at w s d) i)
  unfolding rows_outside row_outside
  row_next a b i o p e q = q ∙ fill-cong a o w _ _ (λ x h.
      let z : get_or a (o + x) nan ≡ get_or d (o + x) nan = rw p (rows-ahead d at w w i (rows_outside l from at w s d) (o + x) (omega arith) (omega arith)) in
      rw (z, e))

-- ---- planes

-- a row of a plane, counted from another row
pub of_row : (w h : ℕ) (s : List Float) (c x y i : ℕ) → get_or s ((c * h + y) * w + i * w + x) nan ≡ of w h s c x (y + i)
unfolding of
of_row w h s c x y i =
    let e : (c * h + y) * w + i * w + x ≡ (c * h + (y + i)) * w + x =
    let z : c * h + (y + i) ≡ c * h + y + i = omega arith in rw z (omega (arith, add-mul (c * h + y) i w)) in
    rw e

module _ (l : Layout) (w h from : ℕ) (s d : List Float) where
  pub plane-next : (m : ℕ) → from + m ≤ h → (a b : List Float) (k at : ℕ) → a ≡ planes_fill w h 0 w from m (planes_outside_of l w h from s d) d k → at ≡ (k * h + from) * w
      → b ≡ rows_fill a at w w m (rows_outside l from at w s a) → b ≡ planes_fill w h 0 w from m (planes_outside_of l w h from s d) d (k + 1)
  unfolding planes_outside_of rows_outside
  plane-next m high a b k at p e q =
      let z : at ≡ (k * h + from) * w + 0 = omega arith in
      planes-turn w h 0 w from m (planes_outside_of l w h from s d) d a b k p (q ∙ rw (← z) (rows-cong a at w w m _ _ (λ i x j r.
      let later : of w h a k x (from + i) ≡ of w h d k x (from + i) =
      rw p (planes-later w h 0 w from m (planes_outside_of l w h from s d) (omega arith) high d k k x (from + i) (omega arith) r (omega arith)) in
      rw (e, of_row w h a k x from i, of_row w h s k x from i, later))))
