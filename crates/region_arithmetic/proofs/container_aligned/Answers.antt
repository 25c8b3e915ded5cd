-- `container_aligned` meets its contract. Assumes nothing.
use mathlib.Core.Path.{◌≡◌, sym}
use mathlib.Core.Bool.{true}
use Prim.Native.Nat.{min}
use native.Mathlib.Omega.{arith}
use lib.Count.{count_trailing_zeros}
use Rattle.region_interval.proofs.Powers.{power-found}
use Rattle.region_arithmetic.specs.Answers.{is_alignment}
use Rattle.region_arithmetic.specs.Arithmetic.{aligned_to}
use Rattle.region_arithmetic.proofs.Answers.{setting_outcome}
use Rattle.region_arithmetic.proofs.container_aligned.Goals as goal

pub returns : goal.returns
unfolding aligned_to
returns c =
    let sound : is_alignment c.args.grid_dim ≡ true = sym c.if-not-is_alignment.ensures in
    let p = power-found c.args.grid_dim sound in
    let l : min (count_trailing_zeros 32 c.args.grid_dim) 13 ≡ count_trailing_zeros 32 c.args.grid_dim = omega (arith, p.0) in
    let x = rw (c.columns.ensures, l, p.1) at c.aligned.ensures in
    let y = rw (c.rows.ensures, l, p.1) at c.aligned-2.ensures in
    setting_outcome c.args.r (aligned_to c.args.grid_dim c.args.r) c.check_made.result c.in_ok-check_bounds.ensures (rw (x, y) at c.check_made.ensures)
    (is_alignment c.args.grid_dim) sound
