-- Laws of the widened rectangle, and what holds of a setup that is accepted. Assumes nothing.
use mathlib.Core.Path.{◌≡◌, refl, sym, subst}
use mathlib.Core.Bool.{Bool, true, false, not, ◌&&◌, ◌||◌, true≢false}
use Prim.Native.Nat.{ℕ, ◌*◌, ◌≤◌}
use native.Mathlib.Nat.{mul-le-mul, pos_of_ne-zero}
use native.Mathlib.Omega.{arith}
use borrow.Author.Tests.{eqb-false}
use lib.Dec.{T, eqb, leb, le→leb}
use lib.Ieee.Fits.{and_l, and_r, and_i}
use lib.IntN.{ℤ, pos, ◌+ℤ◌}
use lib.Signed.{le_z, lt_z}
use Rattle.std.specs.Prelude.{Some}
use Rattle.refusals.specs.Numbers.{out_of_range}
use Rattle.refusals.specs.Checks.{always, first_of}
use Rattle.refusals.proofs.Tables.{met}
use Rattle.refusals.proofs.Rows.{here, below, row-passed}
use Rattle.region_interval.specs.declared.Span.{Span}
use Rattle.region_interval.specs.Integers.{least, greatest}
use Rattle.region_interval.specs.Interval.{extent, reaching}
use Rattle.region_interval.specs.Overlap.{covers, meet, In}
use Rattle.region_interval.proofs.Flags.{true_of}
use Rattle.region_interval.proofs.Order.{le_trans, lt-to, lt_of, sum_is, greatest-left, greatest-right, least-left, least-right}
use Rattle.region_axis.specs.Measures.{axis_of, corner_fits}
use Rattle.region_axis.proofs.Laws.{extent-back, axis-in}
use Rattle.region.specs.declared.Region.{Region}
use Rattle.region.specs.Measures.{bounds_fit, area_fits, picture_fits, rectangle_fits}
use Rattle.region.specs.Regions.{columns, rows, region_of, is_empty, inside}
use Rattle.region.proofs.Laws.{bounds-left, bounds-top, bounds-width, bounds-height, bounds_of, picture-bounds, picture-width, picture-height, picture-area}
use Rattle.region.proofs.Regions.{inside_of, inside-columns, inside-rows}
use Rattle.region_placement.specs.Blocks.{on_block, on_blocks}
use Rattle.run_passes.specs.Plan.{gabor_fits, iterations_fit, margin_checks}
use Rattle.loupe_region.specs.declared.LoupeSetup.{LoupeSetup}
use Rattle.loupe_region.specs.Widened.{widened}
use Rattle.loupe_region.specs.Fits.{WantedFits}
use Rattle.loupe_region.specs.Outcome.{bad_wanted, rectangle_checks}
use Rattle.loupe_region.proofs.Axis.{start-before, Clipped, clipped-facts, clipped-on-block}

-- ---- the widened rectangle

module _ (m : ℕ) (whole wanted : Region) (h : WantedFits whole wanted) where
  abbrev x : Span
  x = meet (reaching m 8 (columns wanted)) (columns whole)

  abbrev y : Span
  y = meet (reaching m 8 (rows wanted)) (rows whole)

  across : Clipped m (columns wanted) (columns whole)
  across = clipped-facts m wanted.left wanted.width (columns whole) (inside-columns whole wanted h.wanted-inside)

  down : Clipped m (rows wanted) (rows whole)
  down = clipped-facts m wanted.top wanted.height (rows whole) (inside-rows whole wanted h.wanted-inside)

  -- columns and rows

  pub widened-columns : columns (widened m whole wanted) ≡ meet (reaching m 8 (columns wanted)) (columns whole)
  unfolding widened region_of
  widened-columns = across.back

  pub widened-rows : rows (widened m whole wanted) ≡ meet (reaching m 8 (rows wanted)) (rows whole)
  unfolding widened region_of
  widened-rows = down.back

  -- it is in the whole, and the wanted rectangle is in it

  pub widened-inside : T (inside whole (widened m whole wanted))
  widened-inside =
      inside_of whole (widened m whole wanted)
      (subst (λ s. T (covers (columns whole) s)) (sym widened-columns) across.within)
      (subst (λ s. T (covers (rows whole) s)) (sym widened-rows) down.within)

  pub wanted-in-widened : T (inside (widened m whole wanted) wanted)
  wanted-in-widened =
      inside_of (widened m whole wanted) wanted
      (subst (λ s. T (covers s (columns wanted))) (sym widened-columns) across.around)
      (subst (λ s. T (covers s (rows wanted))) (sym widened-rows) down.around)

  -- limits

  whole-bounds : T (bounds_fit whole)
  whole-bounds = picture-bounds whole h.whole-fits

  wanted-bounds : T (bounds_fit wanted)
  wanted-bounds = picture-bounds wanted h.wanted-fits

  x-corner : T (corner_fits x.start)
  x-corner = across.corner (bounds-left whole whole-bounds) (bounds-left wanted wanted-bounds)

  y-corner : T (corner_fits y.start)
  y-corner = down.corner (bounds-top whole whole-bounds) (bounds-top wanted wanted-bounds)

  x-most : extent x ≤ whole.width
  x-most = omega (arith, across.most, extent-back whole.left whole.width)

  y-most : extent y ≤ whole.height
  y-most = omega (arith, down.most, extent-back whole.top whole.height)

  x-side : extent x ≤ 16384
  x-side = omega (arith, x-most, bounds-width whole whole-bounds)

  y-side : extent y ≤ 16384
  y-side = omega (arith, y-most, bounds-height whole whole-bounds)

  area : T (area_fits (extent x) (extent y))
  area =
      and_i (leb 1 (extent x)) (leb 1 (extent y) && leb (extent x * extent y) 16777216)
      (le→leb 1 (extent x) (omega (arith, across.least, extent-back wanted.left wanted.width, picture-width wanted h.wanted-fits)))
      (and_i (leb 1 (extent y)) (leb (extent x * extent y) 16777216)
      (le→leb 1 (extent y) (omega (arith, down.least, extent-back wanted.top wanted.height, picture-height wanted h.wanted-fits)))
      (le→leb (extent x * extent y) 16777216 (omega (arith, mul-le-mul x-most y-most, picture-area whole h.whole-fits))))

  pub widened-fits : T (picture_fits (widened m whole wanted))
  unfolding widened region_of picture_fits
  widened-fits =
      and_i (bounds_fit (region_of x y)) (area_fits (extent x) (extent y))
      (bounds_of (region_of x y) x-corner y-corner x-side y-side) area

  -- each axis is within the limits
  pub columns-fit : axis_of x ≡ Some (record { start = x.start; len = extent x })
  columns-fit = axis-in x (true_of (corner_fits x.start) x-corner) x-side

  pub rows_fit_lem : axis_of y ≡ Some (record { start = y.start; len = extent y })
  rows_fit_lem = axis-in y (true_of (corner_fits y.start) y-corner) y-side

  -- blocks

  pub widened-on-blocks : T (on_blocks whole) → T (on_blocks (widened m whole wanted))
  unfolding widened region_of
  widened-on-blocks t =
      and_i (on_block x.start) (on_block y.start)
      (clipped-on-block m (columns wanted) (columns whole) (and_l (on_block whole.left) (on_block whole.top) t))
      (clipped-on-block m (rows wanted) (rows whole) (and_r (on_block whole.left) (on_block whole.top) t))

-- ---- the margin lies between a wanted position and each end that is not the whole's

pub clear-start : (m : ℕ) (s w : Span) (p : ℤ) → In s p → ((meet (reaching m 8 s) w).start ≡ w.start → ⊥) → T (le_z ((meet (reaching m 8 s) w).start +ℤ pos m) p)
clear-start m s w p held f = go (le_z a w.start) refl
  where
    a : ℤ
    a = (reaching m 8 s).start

    go : (b : Bool) → le_z a w.start ≡ b → T (le_z (greatest a w.start +ℤ pos m) p)
    go true e = absurd (f (greatest-right a w.start e))
    go false e = rw (greatest-left a w.start e) (le_trans (a +ℤ pos m) s.start p (start-before m s) held.from)

pub clear-end : (m : ℕ) (s w : Span) (p : ℤ) → In s p → ((meet (reaching m 8 s) w).end ≡ w.end → ⊥) → T (lt_z (p +ℤ pos m) (meet (reaching m 8 s) w).end)
clear-end m s w p held f = go (le_z a w.end) refl
  where
    a : ℤ
    a = s.end +ℤ pos m

    go : (b : Bool) → le_z a w.end ≡ b → T (lt_z (p +ℤ pos m) (least a w.end))
    go false e = absurd (f (least-right a w.end e))
    go true e = rw (least-left a w.end e) (lt_of (p +ℤ pos m) a (omega (arith, sum_is p (pos m), sum_is s.end (pos m), lt-to p s.end held.before)))

-- ---- what holds of a setup that is accepted

neither : (a b : Bool) → (a || b) ≡ false → (a ≡ false) × (b ≡ false)
neither true b e = absurd (true≢false e)
neither false b e = (refl, e)

pub rectangle-bounds : (r : Region) → T (rectangle_fits r) → T (bounds_fit r)
unfolding rectangle_fits
rectangle-bounds r t = and_l (bounds_fit r) (leb (r.width * r.height) 16777216) t

-- a rectangle that a caller asks for is within the limits of a filter region if it is not empty
pub rectangle-picture : (r : Region) → T (rectangle_fits r) → is_empty r ≡ false → T (picture_fits r)
unfolding rectangle_fits picture_fits
rectangle-picture r t e =
    let n = neither (eqb r.width 0) (eqb r.height 0) e in
    and_i (bounds_fit r) (area_fits r.width r.height)
    (rectangle-bounds r t)
    (and_i (leb 1 r.width) (leb 1 r.height && leb (r.width * r.height) 16777216)
    (le→leb 1 r.width (pos_of_ne-zero (eqb-false r.width 0 n.0)))
    (and_i (leb 1 r.height) (leb (r.width * r.height) 16777216)
    (le→leb 1 r.height (pos_of_ne-zero (eqb-false r.height 0 n.1)))
    (and_r (bounds_fit r) (leb (r.width * r.height) 16777216) t)))

pub wanted-of : (whole wanted : Region) → T (picture_fits whole) → T (rectangle_fits wanted) → bad_wanted whole wanted ≡ false → WantedFits whole wanted
wanted-of whole wanted p q e =
    let n = neither (is_empty wanted) (not (inside whole wanted)) e in
    record { whole-fits = p; wanted-fits = rectangle-picture wanted q n.0; wanted-inside = met (inside whole wanted) n.1 }

module _ (s : LoupeSetup) (e : first_of (rectangle_checks s) ≡ 0) where
  pub accepted-gabor : T (gabor_fits s.settings)
  unfolding rectangle_checks margin_checks
  accepted-gabor = met (gabor_fits s.settings) (row-passed (rectangle_checks s) tt e (always out_of_range (not (gabor_fits s.settings))) (search (here, below) depth 20))

  pub accepted-iterations : T (iterations_fit s.settings)
  unfolding rectangle_checks margin_checks
  accepted-iterations = met (iterations_fit s.settings) (row-passed (rectangle_checks s) tt e (always out_of_range (not (iterations_fit s.settings))) (search (here, below) depth 20))
