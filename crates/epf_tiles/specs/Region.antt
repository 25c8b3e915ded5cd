-- A step over rows of a filter region: when its arguments fit, and the set after it. Definitions only.
use Rattle.std.specs.Prelude.{◌≡◌, Bool, true, not, cond, ◌&&◌, List, ℕ, ◌+◌, ◌-◌, ◌*◌, ◌/◌, ◌%◌, ◌<◌, ◌≤◌, min, leb, ltb, eqb, length, get_or, Float}
use Rattle.std.specs.Float.{nan}
use Rattle.planes.specs.declared.Layout.{Layout}
use Rattle.planes.specs.Rect.{planes_fill}
use Rattle.planes.specs.Band.{inner, set_fits}
use Rattle.planes.specs.Fits.{LayoutFits}
use Rattle.frame.specs.Sizes.{divided_up}
use Rattle.epf_rects.specs.Rects.{rect_filled}
use Rattle.epf_step.specs.Steps.{copied}
use Rattle.epf_tiles.specs.declared.Pass.{Pass}
use Rattle.epf_tiles.specs.declared.Step.{Step}
use Rattle.epf_tiles.specs.Tile.{max_top, step_over, pass_over}
use Rattle.epf_tiles.specs.Blocks.{block_side, tile_blocks, block_columns, block_rows}

-- the arguments fit a set of n planes: `len` is the number of its samples, `count` the number of sigmas
pub record RegionFits (l : Layout) (n : ℕ) (s : Step) (top len count : ℕ) : Type 0 where
  pub layout : LayoutFits l
  pub planes-le : n ≤ 3
  pub set : len ≡ n * l.image.height * l.image.width
  pub sigmas : count ≡ block_rows l * block_columns l
  pub step-lt : s.step < 3
  pub top-le : top ≤ max_top

-- a pass, the lengths of its two sets, and the number of sigmas
pub record PassFits (p : Pass) (src dst count : ℕ) : Type 0 where
  pub region : RegionFits p.layout p.planes p.settings p.top dst count
  pub same : src ≡ dst

-- a strip of rows within one row of blocks
pub record StripFits (l : Layout) (y rows : ℕ) : Type 0 where
  pub rows-le : y % block_side + rows ≤ block_side
  pub rows-pos : 0 < rows
  pub inside : y + rows ≤ l.height

-- the set with the step's samples in rows y up to y + rows
abbrev pub rows_stepped : Pass → ℕ → ℕ → List Float → List Float → List Float → List Float
rows_stepped p y rows sigmas src d =
    planes_fill p.layout.image.width p.layout.image.height p.layout.left p.layout.width (p.layout.top + y) rows (λ c i r. pass_over p sigmas src c i (y + r)) d p.planes

-- ---- the blocks of a strip

-- whether block b of the row of blocks at row y is copied
abbrev pub block_copied : Pass → List Float → ℕ → ℕ → Bool
block_copied p sigmas y b = copied (get_or sigmas (y / block_side * block_columns p.layout + b) nan) p.settings.limit

-- blocks `from` up to `to` are all copied, or all filtered
abbrev pub AllOfKind : Pass → List Float → ℕ → Bool → ℕ → ℕ → Type 0
AllOfKind p sigmas y kind from to = (b : ℕ) → from ≤ b → b < to → block_copied p sigmas y b ≡ kind

-- the longest run of such blocks that starts at block `from` ends at `to`
pub record RunEnd (p : Pass) (sigmas : List Float) (y : ℕ) (kind : Bool) (from to : ℕ) : Type 0 where
  pub order : from ≤ to
  pub within : to ≤ block_columns p.layout
  pub alike : AllOfKind p sigmas y kind from to
  pub longest : to < block_columns p.layout → block_copied p sigmas y to ≡ not kind

-- the number of blocks of a tile that starts a run of so many blocks: the fewest tiles, nearly equal
abbrev pub share_of : ℕ → ℕ
share_of blocks = divided_up blocks (divided_up blocks tile_blocks)

-- the first column of block b; the width, for the block after the last one
abbrev pub block_start : Layout → ℕ → ℕ
block_start l b = min (b * block_side) l.width

-- the set with the step's samples in rows y up to y + rows of columns u up to v
abbrev pub columns_stepped : Pass → ℕ → ℕ → ℕ → ℕ → List Float → List Float → List Float → List Float
columns_stepped p y rows u v sigmas src d =
    rect_filled p.layout p.planes (record { x = u; y = y; rows = rows; cols = v - u }) (λ c i r. pass_over p sigmas src c (u + i) (y + r)) d

-- the same of blocks `from` up to `to`
abbrev pub blocks_stepped : Pass → ℕ → ℕ → ℕ → ℕ → List Float → List Float → List Float → List Float
blocks_stepped p y rows from to = columns_stepped p y rows (block_start p.layout from) (block_start p.layout to)

-- the set holds the step's samples in the strip's copied blocks
abbrev pub HoldsCopied : Pass → List Float → List Float → ℕ → ℕ → List Float → Type 0
HoldsCopied p sigmas src y rows d = (c i r : ℕ) → c < p.planes → i < p.layout.width → r < rows → block_copied p sigmas y (i / block_side) ≡ true → inner p.layout d c i (y + r) ≡ pass_over p sigmas src c i (y + r)

-- ---- rows of the filter region, for every input

-- n planes in sets of these lengths, one sigma per block, a valid step, and rows of the filter region
abbrev pub region_fits : Layout → ℕ → Step → ℕ → ℕ → ℕ → ℕ → ℕ → ℕ → Bool
region_fits l n s top from to src dst count =
    set_fits l n src && (set_fits l n dst && (eqb count (block_rows l * block_columns l) && (ltb s.step 3 && (leb top max_top && (leb from to && leb to l.height)))))

-- the set after filtering: the step's samples in those rows; unchanged if the arguments do not fit
unfoldable pub region_of : ℕ → Layout → Step → ℕ → ℕ → ℕ → List Float → List Float → List Float → List Float
region_of n l s top from to sigmas src dst =
    cond (region_fits l n s top from to (length src) (length dst) (length sigmas))
    (planes_fill l.image.width l.image.height l.left l.width (l.top + from) (to - from) (λ c i r. step_over n l s top sigmas src c i (from + r)) dst n) dst
