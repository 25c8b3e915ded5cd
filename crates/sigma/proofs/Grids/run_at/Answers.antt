-- `sigma::Grids::run_at` meets its contract. Assumes nothing.
use mathlib.Core.Path.{◌≡◌, ap}
use Prim.Native.Nat.{ℕ, ◌+◌, ◌*◌, ◌<◌, ◌≤◌}
use native.Mathlib.Nat.{mul-le-mul}
use native.Mathlib.Omega.{arith}
use Rattle.frame.specs.declared.Frame.{Frame}
use Rattle.frame.specs.declared.GroupSizes.{GroupSizes}
use Rattle.frame.specs.declared.Split.{Split}
use Rattle.frame.specs.Sizes.{sizes_of, group_of, inner_of, split_of, group_dim_of}
use Rattle.frame.specs.Sound.{Sound}
use Rattle.frame.proofs.Laws.{Bounded, sizes-bounded, inner-lt}
use Rattle.sigma_groups.specs.Held.{group_at}
use Rattle.sigma.proofs.Grids.run_at.Goals as goal

number_is : (f : Frame) (sizes : GroupSizes) (bx by column row : ℕ) → sizes ≡ sizes_of f → row ≡ group_of by f.group_size_shift → column ≡ group_of bx f.group_size_shift
    → row * sizes.groups_per_row + column ≡ group_at f bx by
number_is f sizes bx by column row e r c = rw (e, r, c)

-- what `split` gives
module _ (b s k : ℕ) (a : Split) (e : a ≡ split_of b k) (ke : k ≡ s) where
  group-is : a.group ≡ group_of b s
  group-is = rw (e, ke)

  inner-is : a.inner ≡ inner_of b s
  inner-is = rw (e, ke)

-- group numbers are in the table
module _ (f : Frame) (sizes : GroupSizes) (sound : Sound f) (is : sizes ≡ sizes_of f) (row column : ℕ) (rl : row < (sizes_of f).groups_per_column) (cl : column < (sizes_of f).groups_per_row) where
  bounded : Bounded sizes
  bounded = rw is (sizes-bounded f sound)

  product-le : row * sizes.groups_per_row ≤ 256
  product-le =
      let r : row ≤ 16 = omega (arith, ap (λ (g : GroupSizes). g.groups_per_column) is, bounded.column-le) in
      omega (arith, mul-le-mul r bounded.row-le)

  column-le : column ≤ 16
  column-le = omega (arith, ap (λ (g : GroupSizes). g.groups_per_row) is, bounded.row-le)

pub returns : goal.returns
unfolding sizes_of
returns c =
    let g = c.args.self.groups in
    let shift : ℕ = g.frame.frame.group_size_shift in
    let column-inner : c.split-column.result.inner ≡ inner_of c.args.bx shift = inner-is _ _ _ _ c.split-column.ensures c.shift-shift.ensures in
    let dim-is : g.sizes.group_dim ≡ group_dim_of shift = ap (λ (s : GroupSizes). s.group_dim) g.entries.sizes-are in
    let inner-in : c.split-column.result.inner < g.sizes.group_dim = omega (arith, column-inner, dim-is, inner-lt c.args.bx shift) in
    record {
      group-is =
          number_is g.frame.frame g.sizes _ _ _ _ g.entries.sizes-are
          (group-is _ _ _ _ c.split-row.ensures c.shift-shift.ensures)
          (group-is _ _ _ _ c.split-column.ensures c.shift-shift.ensures);
      column-is = column-inner;
      row_is = inner-is _ _ _ _ c.split-row.ensures c.shift-shift.ensures;
      n_pos = omega (arith, c.min-n.ensures, inner-in, c.requires.limit);
      n-le = omega (arith, c.min-n.ensures);
      one-group = omega (arith, c.min-n.ensures, inner-in, dim-is);
    }

pub overflow_mul-group : goal.overflow_mul-group
overflow_mul-group c =
    let g = c.args.self.groups in
    let row = group-is _ g.frame.frame.group_size_shift _ _ c.split-row.ensures c.shift-shift.ensures in
    omega (arith, product-le g.frame.frame g.sizes g.frame.sound g.entries.sizes-are c.split-row.result.group _ (rw row c.requires.in_column) c.requires.in_row)

pub overflow_add-group : goal.overflow_add-group
overflow_add-group c =
    let g = c.args.self.groups in
    let row = group-is _ g.frame.frame.group_size_shift _ _ c.split-row.ensures c.shift-shift.ensures in
    let column = group-is _ g.frame.frame.group_size_shift _ _ c.split-column.ensures c.shift-shift.ensures in
    let in_row : c.split-column.result.group < (sizes_of g.frame.frame).groups_per_row = rw column c.requires.in_row in
    let in-column : c.split-row.result.group < (sizes_of g.frame.frame).groups_per_column = rw row c.requires.in_column in
    omega (
      arith,
      product-le g.frame.frame g.sizes g.frame.sound g.entries.sizes-are c.split-row.result.group c.split-column.result.group in-column in_row,
      column-le g.frame.frame g.sizes g.frame.sound g.entries.sizes-are c.split-row.result.group c.split-column.result.group in-column in_row,
    )

pub overflow_sub-sizes : goal.overflow_sub-sizes
unfolding sizes_of
overflow_sub-sizes c =
    let g = c.args.self.groups in
    let shift : ℕ = g.frame.frame.group_size_shift in
    let column-inner : c.split-column.result.inner ≡ inner_of c.args.bx shift = inner-is _ _ _ _ c.split-column.ensures c.shift-shift.ensures in
    let dim-is : g.sizes.group_dim ≡ group_dim_of shift = ap (λ (s : GroupSizes). s.group_dim) g.entries.sizes-are in
    omega (arith, column-inner, dim-is, inner-lt c.args.bx shift)
