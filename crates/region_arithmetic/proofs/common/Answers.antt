-- `common` meets its contract. Assumes nothing.
use mathlib.Core.Path.{◌≡◌, sym, ◌∙◌}
use Rattle.region_interval.proofs.Flags.{true_of}
use Rattle.region_interval.specs.Overlap.{meet}
use Rattle.region.specs.Measures.{bounds_fit}
use Rattle.region.specs.Regions.{columns, rows, region_of}
use Rattle.region.proofs.Answers.{given_holds}
use Rattle.region.proofs.Laws.{meet-bounds}
use Rattle.region_arithmetic.specs.Answers.{region_number}
use Rattle.region_arithmetic.specs.Arithmetic.{intersected}
use Rattle.region_arithmetic.proofs.common.Goals as goal

pub returns : goal.returns
unfolding intersected region_number
returns c =
    let a = c.args.a in
    let b = c.args.b in
    let across : c.meet-x.result ≡ meet (columns a) (columns b) = rw (c.span.ensures, c.columns.ensures, c.span-2.ensures, c.columns-2.ensures) at c.meet-x.ensures in
    let down : c.meet-y.result ≡ meet (rows a) (rows b) = rw (c.span-3.ensures, c.rows.ensures, c.span-4.ensures, c.rows-2.ensures) at c.meet-y.ensures in
    let v = rw across at (sym c.if-vacant.ensures) in
    let w = rw down at (sym c.if-vacant-2.ensures) in
    let e = rw (across, down) at c.check_made.ensures in
    let r = region_of (meet (columns a) (columns b)) (meet (rows a) (rows b)) in
    let z = given_holds r (true_of (bounds_fit r) (meet-bounds a b c.requires.0 c.requires.1 v w)) in
    rw (v, w) (e.0 ∙ z, e.1)
