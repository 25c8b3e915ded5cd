-- `sigma_groups::groups::Groups::not_held` meets its contract. Assumes nothing.
use mathlib.Core.Path.{◌≡◌, ◌∙◌}
use mathlib.Core.Bool.{true}
use mathlib.Core.List.{List}
use Prim.Native.Nat.{ℕ, ◌+◌, ◌*◌, ◌<◌, ◌≤◌}
use borrow.Author.Tests.{le-leb, lt-leb}
use native.Mathlib.Omega.{arith}
use Rattle.frame.specs.declared.Frame.{Frame}
use Rattle.frame.specs.declared.GroupSizes.{GroupSizes}
use Rattle.frame.specs.Sizes.{group_of, inner_of}
use Rattle.sigma_grids.specs.Table.{grid_lacks_block}
use Rattle.sigma_groups.specs.Held.{not_held}
use Rattle.sigma_groups.specs.Fitting.{TableOf}
use Rattle.sigma_groups.proofs.Laws.{entry_lt, entries-le}
use Rattle.sigma_groups.proofs.groups.Groups.not_held.Goals as goal

module _ (f : Frame) (sizes : GroupSizes) (t : List ℕ) (h : TableOf f sizes t) (bx by k : ℕ) (ke : k ≡ f.group_size_shift) where
  past-column : sizes.groups_per_row ≤ group_of bx k → true ≡ not_held f t bx by
  unfolding not_held
  past-column l = rw (← h.sizes-are, ← ke, le-leb sizes.groups_per_row (group_of bx k) l)

  past_row : group_of bx k < sizes.groups_per_row → sizes.groups_per_column ≤ group_of by k → true ≡ not_held f t bx by
  unfolding not_held
  past_row in_row l = rw (← h.sizes-are, ← ke, lt-leb sizes.groups_per_row (group_of bx k) in_row, le-leb sizes.groups_per_column (group_of by k) l)

  in_frame : group_of bx k < sizes.groups_per_row → group_of by k < sizes.groups_per_column
      → grid_lacks_block t (group_of by k * sizes.groups_per_row + group_of bx k) (inner_of bx k) (inner_of by k) ≡ not_held f t bx by
  unfolding not_held
  in_frame in_row l = rw (← h.sizes-are, ← ke, lt-leb sizes.groups_per_row (group_of bx k) in_row, lt-leb sizes.groups_per_column (group_of by k) l)

pub returns-then-self-column : goal.returns-then-self-column
returns-then-self-column c = past-column _ _ _ c.args.self.entries _ _ _ c.shift-shift.ensures (rw c.split-column.ensures at c.if-self-column.true)

pub returns-then-self-row : goal.returns-then-self-row
returns-then-self-row c = past_row _ _ _ c.args.self.entries _ _ _ c.shift-shift.ensures (rw c.split-column.ensures at c.if-self-column.false) (rw c.split-row.ensures at c.if-self-row.true)

pub returns : goal.returns
returns c =
    c.grid_lacks_block.ensures
    ∙ rw (c.split-column.ensures, c.split-row.ensures)
    (in_frame _ _ _ c.args.self.entries _ _ _ c.shift-shift.ensures (rw c.split-column.ensures at c.if-self-column.false) (rw c.split-row.ensures at c.if-self-row.false))

pub overflow_mul-group : goal.overflow_mul-group
overflow_mul-group c = omega (arith, entry_lt _ _ _ c.args.self.entries _ _ c.if-self-column.false c.if-self-row.false, entries-le _ _ _ c.args.self.entries)

pub overflow_add-group : goal.overflow_add-group
overflow_add-group c = omega (arith, entry_lt _ _ _ c.args.self.entries _ _ c.if-self-column.false c.if-self-row.false, entries-le _ _ _ c.args.self.entries)

pub grid_lacks_block-requires : goal.grid_lacks_block-requires
grid_lacks_block-requires c =
    rw (c.split-column.ensures, c.split-row.ensures)
    (entry_lt _ _ _ c.args.self.entries _ _ (rw c.split-column.ensures at c.if-self-column.false) (rw c.split-row.ensures at c.if-self-row.false))
