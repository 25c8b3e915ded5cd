-- `loupe_region::widened` meets its contract: both axes are within the limits. Assumes nothing.
use mathlib.Core.Path.{◌≡◌, sym, ◌∙◌}
use mir.Facts.{to_z-of_z}
use Rattle.std.specs.Prelude.{Option, Some, IsSome}
use Rattle.region_interval.specs.declared.Axis.{Axis}
use Rattle.region_interval.specs.declared.Span.{Span}
use Rattle.region_interval.specs.Interval.{reaching}
use Rattle.region_interval.specs.Overlap.{meet}
use Rattle.region_axis.specs.Measures.{axis_of}
use Rattle.region_axis.proofs.Laws.{axis_some, axis_start}
use Rattle.region.specs.Regions.{columns, rows, region_of}
use Rattle.loupe_region.specs.Widened.{widened}
use Rattle.loupe_region.proofs.Laws.{columns-fit, rows_fit_lem}
use Rattle.loupe_region.proofs.widened.Goals as goal

-- o is what `check_span` answers for a span that is within the limits
present : (o : Option Axis) (s : Span) (a : Axis) → o ≡ axis_of s → axis_of s ≡ Some a → IsSome o
present o s a p q = rw (p, q)

pub unwrap-x-requires : goal.unwrap-x-requires
unwrap-x-requires c =
    let a = c.args in
    let across : c.clipped.result ≡ meet (reaching a.margin 8 (columns a.wanted)) (columns a.whole) = rw (c.columns.ensures, c.columns-2.ensures) at c.clipped.ensures in
    present _ _ _ (rw across at c.check_span.ensures) (columns-fit a.margin a.whole a.wanted c.requires)

pub unwrap-y-requires : goal.unwrap-y-requires
unwrap-y-requires c =
    let a = c.args in
    let down : c.clipped-2.result ≡ meet (reaching a.margin 8 (rows a.wanted)) (rows a.whole) = rw (c.rows.ensures, c.rows-2.ensures) at c.clipped-2.ensures in
    present _ _ _ (rw down at c.check_span-2.ensures) (rows_fit_lem a.margin a.whole a.wanted c.requires)

pub returns : goal.returns
unfolding widened region_of
returns c =
    let a = c.args in
    let across : c.clipped.result ≡ meet (reaching a.margin 8 (columns a.wanted)) (columns a.whole) = rw (c.columns.ensures, c.columns-2.ensures) at c.clipped.ensures in
    let down : c.clipped-2.result ≡ meet (reaching a.margin 8 (rows a.wanted)) (rows a.whole) = rw (c.rows.ensures, c.rows-2.ensures) at c.clipped-2.ensures in
    let e = sym c.unwrap-x.ensures ∙ rw across at c.check_span.ensures in
    let f = sym c.unwrap-y.ensures ∙ rw down at c.check_span-2.ensures in
    let x = axis_some _ c.unwrap-x.result e in
    let y = axis_some _ c.unwrap-y.result f in
    rw (to_z-of_z (axis_start _ c.unwrap-x.result e), to_z-of_z (axis_start _ c.unwrap-y.result f), x.1, y.1)
