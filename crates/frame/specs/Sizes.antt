-- The sizes of Specification 7.1 and 7.2: sample sides, group dimension and shift, LF groups, and the group and inner cell of a block.
use Rattle.std.specs.Prelude.{ℕ, ◌+◌, ◌-◌, ◌*◌, ◌/◌, ◌%◌, ◌^◌}
use Rattle.std.specs.Int.Count.{count_trailing_zeros}
use Rattle.frame.specs.declared.Frame.{Frame}
use Rattle.frame.specs.declared.GroupSizes.{GroupSizes}
use Rattle.frame.specs.declared.Split.{Split}

-- a divided by b, rounded up
abbrev pub divided_up : ℕ → ℕ → ℕ
divided_up a b = (a + (b - 1)) / b

-- blocks along a side: a block is 8 × 8 samples
abbrev pub blocks_along : ℕ → ℕ
blocks_along side = divided_up side 8

-- ⌈⌈frame side / upsampling⌉ / 8^lf_level⌉
abbrev pub sample_side : ℕ → ℕ → ℕ → ℕ
sample_side side upsampling level = divided_up (divided_up side upsampling) (8 ^ level)

-- 128 shifted left by the group size shift
abbrev pub group_dim_of : ℕ → ℕ
group_dim_of shift = 128 * 2 ^ shift

-- the number of trailing zero bits of the group dimension
abbrev pub group_shift_of : ℕ → ℕ
group_shift_of shift = count_trailing_zeros 32 (group_dim_of shift)

-- LF groups along a sample side: an LF group is G × G blocks, for the group dimension G
abbrev pub groups_along : ℕ → ℕ → ℕ
groups_along side shift = divided_up side (8 * group_dim_of shift)

-- the group of a column or row of blocks, and its cell in that group
abbrev pub group_of : ℕ → ℕ → ℕ
group_of block shift = block / group_dim_of shift

abbrev pub inner_of : ℕ → ℕ → ℕ
inner_of block shift = block % group_dim_of shift

abbrev pub split_of : ℕ → ℕ → Split
split_of block shift = record { group = group_of block shift; inner = inner_of block shift }

abbrev pub width_of : Frame → ℕ
width_of f = sample_side f.width f.upsampling f.lf_level

abbrev pub height_of : Frame → ℕ
height_of f = sample_side f.height f.upsampling f.lf_level

-- all sizes of a frame
unfoldable pub sizes_of : Frame → GroupSizes
sizes_of f =
    record {
      sample_width = width_of f;
      sample_height = height_of f;
      group_dim = group_dim_of f.group_size_shift;
      group_shift = group_shift_of f.group_size_shift;
      groups_per_row = groups_along (width_of f) f.group_size_shift;
      groups_per_column = groups_along (height_of f) f.group_size_shift;
      num_groups = groups_along (width_of f) f.group_size_shift * groups_along (height_of f) f.group_size_shift;
    }
