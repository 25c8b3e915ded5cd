-- `check_made` meets its contract. Assumes nothing.
use mir.Facts.{to_z-of_z}
use Rattle.region_axis.proofs.Laws.{axis_some, axis_start}
use Rattle.region.proofs.Laws.{bounds_spans}
use Rattle.region.specs.Regions.{region_of}
use Rattle.region_arithmetic.specs.Answers.{region_number}
use Rattle.region_arithmetic.proofs.check_made.Goals as goal

pub returns : goal.returns
unfolding region_number region_of
returns c =
    let a = c.args in
    let x = axis_some a.x c.in-Some.across c.in-Some.ensures in
    let y = axis_some a.y c.in-Some-check_span.down c.in-Some-check_span.ensures in
    let l = to_z-of_z (axis_start a.x c.in-Some.across c.in-Some.ensures) in
    let m = to_z-of_z (axis_start a.y c.in-Some-check_span.down c.in-Some-check_span.ensures) in
    (rw (bounds_spans a.x a.y, x.0, y.0), rw (l, m, x.1, y.1))
