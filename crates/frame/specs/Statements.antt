-- Laws of a frame's sizes (Specification 7.1, 7.2), stated: division rounded up, and the group and cell of a block. proofs/Statements.antt proves them.
use Rattle.std.specs.Prelude.{◌≡◌, ℕ, ◌+◌, ◌*◌, ◌/◌, ◌<◌, ◌≤◌}
use Rattle.frame.specs.Sizes.{divided_up, group_dim_of, groups_along, group_of, inner_of}

-- division rounded up: q = ⌈a / b⌉ has a ≤ q × b,
abbrev pub DividedUpCovers : Type 0
DividedUpCovers = (a b : ℕ) → 0 < b → a ≤ divided_up a b * b

-- and no smaller q has that
abbrev pub DividedUpLeast : Type 0
DividedUpLeast = (a b q : ℕ) → 0 < b → a ≤ q * b → divided_up a b ≤ q

-- the group number and the cell determine the block
abbrev pub SplitWhole : Type 0
SplitWhole = (block s : ℕ) → block ≡ group_of block s * group_dim_of s + inner_of block s

-- the cell is below the group dimension
abbrev pub InnerBelow : Type 0
InnerBelow = (block s : ℕ) → inner_of block s < group_dim_of s

-- for a column or row inside the sample side, the group of its block is below the number of groups along the side
abbrev pub GroupBelow : Type 0
GroupBelow = (x side s : ℕ) → x < side → group_of (x / 8) s < groups_along side s
