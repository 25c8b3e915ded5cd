-- The blocks of a filter region, and its limits (Specification 2.3, 7.9). Definitions only.
use Rattle.std.specs.Prelude.{Bool, ◌||◌, ℕ, ◌*◌, ltb}
use Rattle.frame.specs.Sizes.{blocks_along}
use Rattle.frame.specs.Outcome.{bad_side}
use Rattle.sigma_groups.specs.declared.blocks.Blocks.{Blocks}

-- blocks across and down a filter region
abbrev pub blocks_across : Blocks → ℕ
blocks_across b = blocks_along b.width

abbrev pub blocks_down : Blocks → ℕ
blocks_down b = blocks_along b.height

-- a filter region outside the limits: a side outside 1 to 16,384, an area over 16,777,216, or a left or top over 131,072 blocks (1,048,576 samples)
unfoldable pub bad_blocks : Blocks → Bool
bad_blocks b =
    bad_side b.width || bad_side b.height || ltb 16777216 (b.width * b.height) || ltb 131072 b.left || ltb 131072 b.top
