-- The blocks of a filter region in the groups of a frame (Specification 7.5, 7.7).
use Rattle.std.specs.Prelude.{Bool, ◌||◌, List, ℕ, ◌+◌, ◌*◌, leb}
use Rattle.frame.specs.declared.Frame.{Frame}
use Rattle.frame.specs.Sizes.{group_of, inner_of, sizes_of}
use Rattle.sigma_groups.specs.declared.blocks.Blocks.{Blocks}
use Rattle.sigma_groups.specs.Measures.{blocks_across, blocks_down}
use Rattle.sigma_grids.specs.Table.{grid_lacks_block, some_below}

-- the group number of block (bx, by); groups are numbered row by row
abbrev pub group_at : Frame → ℕ → ℕ → ℕ
group_at f bx by = group_of by f.group_size_shift * (sizes_of f).groups_per_row + group_of bx f.group_size_shift

-- block (bx, by) is not held: its group is outside the frame, or the group's grid is present and lacks its cell
unfoldable pub not_held : Frame → List ℕ → ℕ → ℕ → Bool
not_held f t bx by =
    leb (sizes_of f).groups_per_row (group_of bx f.group_size_shift)
    || leb (sizes_of f).groups_per_column (group_of by f.group_size_shift)
    || grid_lacks_block t (group_at f bx by) (inner_of bx f.group_size_shift) (inner_of by f.group_size_shift)

-- some block of the filter region is not held
unfoldable pub some_not_held : Frame → Blocks → List ℕ → Bool
some_not_held f b t = some_below (blocks_down b) (λ y. some_below (blocks_across b) (λ x. not_held f t (b.left + x) (b.top + y)))
