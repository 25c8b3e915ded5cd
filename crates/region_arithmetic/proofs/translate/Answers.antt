-- `translate` meets its contract. Assumes nothing.
use mir.Facts.{to_z-of_z}
use Rattle.region_arithmetic.specs.Arithmetic.{translated}
use Rattle.region_arithmetic.proofs.Answers.{made_outcome}
use Rattle.region_arithmetic.proofs.translate.Goals as goal

pub returns : goal.returns
unfolding translated
returns c =
    let x = rw (c.columns.ensures, to_z-of_z c.ranges.x) at c.moved.ensures in
    let y = rw (c.rows.ensures, to_z-of_z c.ranges.y) at c.moved-2.ensures in
    made_outcome c.args.r (translated c.args.x c.args.y c.args.r) c.check_made.result c.in_ok-check_bounds.ensures (rw (x, y) at c.check_made.ensures)
