-- Layouts and rows of the result region that fit. Definitions only.
use Rattle.std.specs.Prelude.{◌≡◌, List, ℕ, ◌+◌, ◌*◌, ◌≤◌, length, Float}
use Rattle.planes.specs.declared.Layout.{Layout}
use Rattle.planes.specs.Band.{result_height}

pub record LayoutFits (l : Layout) : Type 0 where
  pub width-le : l.image.width ≤ 16384
  pub height-le : l.image.height ≤ 16384
  pub across : l.left + l.width ≤ l.image.width
  pub down : l.top + l.height ≤ l.image.height

-- a pass over rows of the result region, from one set of n planes to another
pub record BandFits (l : Layout) (n from to : ℕ) (src dst : List Float) : Type 0 where
  pub layout : LayoutFits l
  pub planes : n ≤ 3
  pub source : length src ≡ n * l.image.height * l.image.width
  pub target : length dst ≡ n * l.image.height * l.image.width
  pub order : from ≤ to
  pub rows : to ≤ result_height l
