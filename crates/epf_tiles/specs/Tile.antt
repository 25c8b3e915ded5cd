-- A tile of a step: when its arguments fit, and what is stored. Definitions only.
use Rattle.std.specs.Prelude.{◌≡◌, false, List, ℕ, ◌+◌, ◌*◌, ◌/◌, ◌%◌, ◌<◌, ◌≤◌, get_or, Float}
use Rattle.std.specs.Float.{nan}
use Rattle.planes.specs.declared.Layout.{Layout}
use Rattle.planes.specs.Picture.{Picture}
use Rattle.planes.specs.Band.{inner}
use Rattle.frame.specs.Sizes.{blocks_along}
use Rattle.epf_rects.specs.declared.Rect.{Rect}
use Rattle.epf_rects.specs.Rects.{rect_filled, RectFits}
use Rattle.epf_step.specs.Steps.{scaled, copied, EpfPass, epf_pass}
use Rattle.epf_tiles.specs.declared.Pass.{Pass}
use Rattle.epf_tiles.specs.declared.Step.{Step}
use Rattle.epf_tiles.specs.Blocks.{block_side, block_columns, sigma_of}
use Rattle.epf_sizes.specs.Sizes.{lanes as tile_columns}

-- ---- the step over the filter region

-- the settings of a step on n planes
abbrev pub pass_of : ℕ → Step → EpfPass
pass_of n s = record { step = s.step; limit = s.limit; scales = scaled n s.scales; multiplier = s.scale; border_mul = s.edge }

-- row 0 of the filter region is at y = `top`
unfoldable pub step_over : ℕ → Layout → Step → ℕ → List Float → List Float → Picture
step_over n l s top sigmas src = epf_pass (pass_of n s) l.width l.height top (sigma_of (block_columns l) sigmas) (inner l src)

-- the same with what a pass holds
abbrev pub pass_over : Pass → List Float → List Float → Picture
pass_over p = step_over p.planes p.layout p.settings p.top

-- ---- a tile: its first column starts a block, its rows lie in one row of blocks

pub record TileFits (l : Layout) (n : ℕ) (q : Rect) : Type 0 where
  pub planes-le : n ≤ 3
  pub x-aligned : q.x % block_side ≡ 0
  pub rows-le : q.y % block_side + q.rows ≤ block_side
  pub rows-pos : 0 < q.rows
  pub cols-le : q.cols ≤ tile_columns
  pub cols-pos : 0 < q.cols
  pub across : q.x + q.cols ≤ l.width
  pub down : q.y + q.rows ≤ l.height

-- the top of a region, an i32, is below this
abbrev pub max_top : ℕ
max_top = 4294967296

-- a tile of a pass, and the lengths of its two sets
pub record TileInPass (p : Pass) (q : Rect) (src dst : ℕ) : Type 0 where
  pub tile : TileFits p.layout p.planes q
  pub room : RectFits p.layout p.planes q dst
  pub same : src ≡ dst
  pub step-lt : p.settings.step < 3
  pub top-le : p.top ≤ max_top

-- index of the sigma of the block at column x and row y
abbrev pub sigma_start : Layout → ℕ → ℕ → ℕ
sigma_start l x y = y / block_side * block_columns l + x / block_side

-- the same for a tile's first block, and for the block of its column i
abbrev pub sigma_first : Layout → Rect → ℕ
sigma_first l q = sigma_start l q.x q.y

abbrev pub sigma_in : Layout → Rect → List Float → ℕ → Float
sigma_in l q sigmas i = get_or sigmas (sigma_first l q + i / block_side) nan

-- no block of the tile is copied
abbrev pub NoneCopied : Pass → List Float → Rect → Type 0
NoneCopied p sigmas q = (b : ℕ) → b < blocks_along q.cols → copied (get_or sigmas (sigma_first p.layout q + b) nan) p.settings.limit ≡ false

-- ---- what the functions write

-- the set with a rectangle's samples of the step
abbrev pub tile_stepped : Pass → Rect → List Float → List Float → List Float → List Float
tile_stepped p q sigmas src d = rect_filled p.layout p.planes q (λ c i r. pass_over p sigmas src c (q.x + i) (q.y + r)) d
