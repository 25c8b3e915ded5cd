-- `frame::group_shift::GroupShift::dim` meets its contract. Assumes nothing.
use native.Mathlib.Omega.{arith}
use Rattle.frame.proofs.Laws.{group-dim-ge, group-dim-le}
use Rattle.frame.proofs.group_shift.GroupShift.dim.Goals as goal

pub returns-clause-range : goal.returns-clause-range
returns-clause-range c =
    let s = c.args.self in
    let low = group-dim-ge s.value in
    let high = group-dim-le s.value s.in_range in
    (omega arith, omega arith)
