-- The slice after the loops is what `result_of` says. Assumes nothing.
use mathlib.Core.Path.{◌≡◌, refl, sym, ap, ◌∙◌}
use mathlib.Core.Bool.{Bool, true, false, cond}
use mathlib.Core.List.{List}
use Prim.Native.Nat.{ℕ, ◌+◌, ◌-◌, ◌*◌, ◌<◌, ◌≤◌}
use native.Mathlib.Nat.{add-mul}
use native.Mathlib.Omega.{arith}
use borrow.Author.Tests.{le-leb, lt-ltb}
use lib.ListN.{length, get_or}
use lib.Ieee.{Float, nan}
use Rattle.planes_layout.specs.Outcome.{layout_of}
use Rattle.planes.specs.declared.Layout.{Layout}
use Rattle.planes.specs.Picture.{Picture, in_rect}
use Rattle.planes.specs.Sets.{of, set_of}
use Rattle.planes.proofs.SetLaws.{length-set_of, of-set_of, sets-ext}
use Rattle.planes.specs.Fill.{fill}
use Rattle.planes.specs.Rect.{rows_fill, planes_fill}
use Rattle.planes.proofs.Rect.{rows-turn, rows-cong, planes-turn, planes-at, length-planes_fill}
use Rattle.planes.specs.Fits.{LayoutFits}
use Rattle.planes.specs.Band.{result_width, result_height, inner}
use Rattle.run_setup.specs.declared.Setup.{Setup}
use Rattle.run_setup.specs.Setup.{full_planes, layout, set_length, result_length}
use Rattle.run_setup.specs.SetupFits.{SetupFits}
use Rattle.run_setup.proofs.Laws.{setup-layout}
use Rattle.run_outcomes.specs.Result.{result_of}
use Rattle.run_result.specs.Part.{part_of, rows_of}

-- ---- the layout of the result region

pub part-fits : (l : Layout) → LayoutFits l → LayoutFits (part_of l)
unfolding part_of
part-fits l f = record { width-le = f.width-le; height-le = f.height-le; across = go l.full; down = go-down l.full }
  where
    go : (b : Bool) → cond b 0 l.left + cond b l.image.width l.width ≤ l.image.width
    go true = omega arith
    go false = f.across

    go-down : (b : Bool) → cond b 0 l.top + cond b l.image.height l.height ≤ l.image.height
    go-down true = omega arith
    go-down false = f.down

-- the length of the slice, from that layout
pub part_length : (s : Setup) → result_length s ≡ s.planes * (part_of (layout s)).height * (part_of (layout s)).width
unfolding part_of layout_of
part_length s = go (full_planes s)
  where
    go : (b : Bool) → s.planes * (cond b s.image s.filter).height * (cond b s.image s.filter).width
        ≡ s.planes * cond b s.image.height s.filter.height * cond b s.image.width s.filter.width
    go true = refl
    go false = refl

-- ---- an iteration of the loop over rows, and of the loop over planes
module _ (l : Layout) (src : List Float) where
  pub row_next : (out a b : List Float) (from at y row o : ℕ) → a ≡ rows_fill out at l.width l.width y (rows_of l from src)
      → row ≡ from + y * l.image.width → o ≡ at + y * l.width → b ≡ fill a o l.width (λ (x : ℕ). get_or src (row + l.left + x) nan)
      → b ≡ rows_fill out at l.width l.width (y + 1) (rows_of l from src)
  unfolding rows_of
  row_next out a b from at y row o p e q h = rows-turn out a b at l.width l.width y o (rows_of l from src) p q
      (h ∙ ap (λ (k : ℕ). fill a o l.width (λ (x : ℕ). get_or src (k + l.left + x) nan)) e)

  pub plane-next : (out a b : List Float) (c from at : ℕ) → a ≡ planes_fill l.width l.height 0 l.width 0 l.height (inner l src) out c
      → from ≡ (c * l.image.height + l.top) * l.image.width → at ≡ c * l.height * l.width
      → b ≡ rows_fill a at l.width l.width l.height (rows_of l from src)
      → b ≡ planes_fill l.width l.height 0 l.width 0 l.height (inner l src) out (c + 1)
  unfolding rows_of inner of
  plane-next out a b c from at p e q h =
      let start : at ≡ (c * l.height + 0) * l.width + 0 = q ∙ let z : c * l.height + 0 ≡ c * l.height = omega arith in rw z (omega arith) in
      let same : (y x : ℕ) → y < l.height → x < l.width → rows_of l from src y x ≡ inner l src c x y = λ y x i j.
      ap (λ k. get_or src k nan) (omega (arith, e, add-mul (c * l.image.height + l.top) y l.image.width)) in
      planes-turn l.width l.height 0 l.width 0 l.height (inner l src) out a b c p
      (h ∙ rw start (rows-cong a ((c * l.height + 0) * l.width + 0) l.width l.width l.height (rows_of l from src) (λ i x. inner l src c x i) same))

-- ---- all planes overwritten

pub whole_set : (n w h : ℕ) (v : Picture) (d : List Float) → length d ≡ n * h * w → planes_fill w h 0 w 0 h v d n ≡ set_of n w h v
unfolding in_rect
whole_set n w h v d e =
    sets-ext n w h (planes_fill w h 0 w 0 h v d n) (set_of n w h v) (length-planes_fill w h 0 w 0 h v (omega arith) (omega arith) d n ∙ e) (length-set_of n w h v)
    (λ c x y i j k.
    let a : x - 0 ≡ x = omega arith in
    let b : y - 0 ≡ y = omega arith in
    planes-at w h 0 w 0 h v (omega arith) (omega arith) d n c x y i (omega arith) j k
    ∙ rw (le-leb 0 x (omega arith), lt-ltb x (0 + w) (omega arith), le-leb 0 y (omega arith), lt-ltb y (0 + h) (omega arith), a, b) (sym (of-set_of n w h v c x y i j k)))

pub result_copied : (n : ℕ) (l : Layout) (src out b : List Float) → length out ≡ n * (part_of l).height * (part_of l).width
    → b ≡ planes_fill (part_of l).width (part_of l).height 0 (part_of l).width 0 (part_of l).height (inner (part_of l) src) out n → b ≡ result_of n l src
unfolding result_of inner part_of
result_copied n l src out b e h = h ∙ whole_set n (result_width l) (result_height l) (inner (part_of l) src) out e

-- ---- for a setup in range: l is its layout, and p the layout of the result region
module _ (s : Setup) (f : SetupFits s) (full : Bool) (u : full ≡ full_planes s) (l : Layout) (e : l ≡ layout_of s.image s.filter full) (p : Layout) (q : p ≡ part_of l) where
  part-is : p ≡ part_of (layout s)
  part-is = q ∙ ap part_of (rw u at e)

  pub setup-part : LayoutFits p
  setup-part = rw part-is (part-fits (layout s) (setup-layout s f).fits)

  pub source-length : (k : ℕ) → k ≡ set_length s → k ≡ s.planes * p.image.height * p.image.width
  unfolding part_of layout_of
  source-length k h = rw part-is h

  pub target-length : (k : ℕ) → k ≡ result_length s → k ≡ s.planes * p.height * p.width
  target-length k h = rw part-is (h ∙ part_length s)

  pub setup-copied : (src out b : List Float) → length out ≡ result_length s
      → b ≡ planes_fill p.width p.height 0 p.width 0 p.height (inner p src) out s.planes → b ≡ result_of s.planes (layout s) src
  setup-copied src out b h k = result_copied s.planes (layout s) src out b (h ∙ part_length s) (rw part-is at k)
