-- `frame::groups_along` meets its contract. Assumes nothing.
use Prim.Native.Nat.{◌*◌}
use native.Mathlib.Omega.{arith}
use Rattle.frame.specs.Sizes.{group_dim_of}
use Rattle.frame.proofs.Laws.{div-ceil-is, group-dim-ge}
use Rattle.frame.proofs.groups_along.Goals as goal

pub returns-clause-groups : goal.returns-clause-groups
returns-clause-groups c =
    let a = c.args in
    rw c.div_ceil.ensures (rw c.dim.ensures.dim (div-ceil-is a.side (8 * group_dim_of a.shift.value) (omega (arith, group-dim-ge a.shift.value))))
