-- A group table of the right length for a frame in range. Definitions only.
use Rattle.std.specs.Prelude.{◌≡◌, List, ℕ, ◌*◌, length}
use Rattle.frame.specs.declared.Frame.{Frame}
use Rattle.frame.specs.declared.GroupSizes.{GroupSizes}
use Rattle.frame.specs.Sizes.{sizes_of}
use Rattle.frame.specs.Sound.{Sound}

-- ---- blocks and the groups of a frame

-- a table that has an entry for each group of a frame in range
pub record TableOf (f : Frame) (sizes : GroupSizes) (t : List ℕ) : Type 0 where
  pub sound : Sound f
  pub sizes-are : sizes ≡ sizes_of f
  pub entries : length t ≡ 3 * (sizes_of f).num_groups
