-- `downsample` meets its contract. Assumes nothing.
use mathlib.Core.Path.{◌≡◌}
use Prim.Native.Nat.{min}
use native.Mathlib.Omega.{arith}
use borrow.Author.Tests.{le-leb}
use Rattle.region_arithmetic.specs.Answers.{is_factor}
use Rattle.region_arithmetic.specs.Arithmetic.{downsampled, shrunk_by}
use Rattle.region_arithmetic.proofs.Answers.{setting_outcome}
use Rattle.region_arithmetic.proofs.downsample.Goals as goal

pub returns : goal.returns
unfolding shrunk_by
returns c =
    let l : min c.args.factor 63 ≡ c.args.factor = omega (arith, c.if-factor-gt-LARGEST_FACTOR.false) in
    let x = rw (c.columns.ensures, l) at c.shrunk.ensures in
    let y = rw (c.rows.ensures, l) at c.shrunk-2.ensures in
    setting_outcome c.args.r (downsampled c.args.factor c.args.r) c.check_made.result c.in_ok-check_bounds.ensures (rw (x, y) at c.check_made.ensures)
    (is_factor c.args.factor) (le-leb c.args.factor 16 c.if-factor-gt-LARGEST_FACTOR.false)
