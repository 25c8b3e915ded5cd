-- A filter region within the limits. Definitions only.
use Rattle.std.specs.Prelude.{◌*◌, ◌≤◌}
use Rattle.sigma_groups.specs.declared.blocks.Blocks.{Blocks}

-- the bounds of a filter region within the limits; left and top in blocks
pub record BlocksFit (b : Blocks) : Type 0 where
  pub width-pos : 1 ≤ b.width
  pub width-le : b.width ≤ 16384
  pub height-pos : 1 ≤ b.height
  pub height-le : b.height ≤ 16384
  pub area-le : b.width * b.height ≤ 16777216
  pub left_le : b.left ≤ 131072
  pub top-le : b.top ≤ 131072
