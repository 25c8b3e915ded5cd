-- A frame whose numbers are in range (Specification 7). Definitions only.
use Rattle.std.specs.Prelude.{◌≤◌}
use Rattle.frame.specs.declared.Frame.{Frame}

-- ---- a frame that is accepted

-- the numbers of a frame are in range
pub record Sound (f : Frame) : Type 0 where
  pub width-pos : 1 ≤ f.width
  pub width-le : f.width ≤ 16384
  pub height-pos : 1 ≤ f.height
  pub height-le : f.height ≤ 16384
  pub upsampling-pos : 1 ≤ f.upsampling
  pub upsampling-le : f.upsampling ≤ 8
  pub level-le : f.lf_level ≤ 4
  pub shift_le : f.group_size_shift ≤ 3
