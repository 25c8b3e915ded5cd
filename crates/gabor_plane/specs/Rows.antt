-- The samples that the row functions compute, from the indices of three rows in a list. Definitions only.
use Rattle.std.specs.Prelude.{List, ℕ, ◌+◌, ◌-◌, ◌*◌, ◌<◌, ◌≤◌, get_or, ℤ, pos, negsuc, ◌+ℤ◌, Float}
use Rattle.std.specs.Float.{nan}
use Rattle.mirror.specs.Mirror.{mirror}
use Rattle.planes.specs.Picture.{Picture, around}
use Rattle.gabor_kernel.specs.declared.Kernel.{Kernel}
use Rattle.gabor_kernel.specs.declared.Row3.{Row3}
use Rattle.gabor_kernel.specs.Ends.{End, inner, stands}
use Rattle.gabor_kernel.specs.Gabor.{gabor_by}
use Rattle.gabor_kernel.specs.Nine.{same, nine}
use Rattle.gabor_plane.specs.declared.PlaneRegion.{PlaneRegion}

-- ---- samples by index

-- the samples at columns l, m and r of the row that starts at index o
abbrev pub three : List Float → ℕ → ℕ → ℕ → ℕ → Row3
three s o l m r = record { left = get_or s (o + l) nan; centre = get_or s (o + m) nan; right = get_or s (o + r) nan }

-- the same of the rows that start at indices t, c and b
abbrev pub taps : List Float → ℕ → ℕ → ℕ → ℕ → ℕ → ℕ → ℤ → ℤ → Float
taps s t c b l m r = nine (three s t l m r) (three s c l m r) (three s b l m r)

-- the samples of a single column
abbrev pub column : List Float → ℕ → ℕ → ℕ → ℤ → ℤ → Float
column s t c b = nine (same (get_or s t nan)) (same (get_or s c nan)) (same (get_or s b nan))

-- the first w columns of the rows that start at indices t, c and b lie in a list of length len
abbrev pub RowsHold : ℕ → ℕ → ℕ → ℕ → ℕ → Type 0
RowsHold t c b w len = (t + w ≤ len) × (c + w ≤ len) × (b + w ≤ len)

-- column j + 1, which has neighbours on both sides; row is first, last, inner or only
unfoldable pub inner_sample : List Float → ℕ → ℕ → ℕ → Kernel → End → ℕ → Float
inner_sample s t c b k row j = gabor_by k (taps s t c b j (j + 1) (j + 2)) inner row

-- ---- column x of a row of w columns, mirrored at the ends of the row
unfoldable pub row_sample : List Float → ℕ → ℕ → ℕ → ℕ → Kernel → End → ℕ → Float
row_sample s t c b w k row x = gabor_by k (taps s t c b (mirror (pos x +ℤ negsuc 0) w) x (mirror (pos x +ℤ pos 1) w)) (stands w x) row

-- ---- a region of a list
unfoldable pub region : List Float → PlaneRegion → Picture
region s r = λ c x y. get_or s (r.at + y * r.stride + x) nan

-- the filtered sample at column x and row y of the region
unfoldable pub region_sample : List Float → PlaneRegion → Kernel → ℕ → ℕ → Float
region_sample s r k y x = gabor_by k (around r.width r.height (region s r) x y 0) (stands r.width x) (stands r.height y)

-- the longest side of a region, and the longest stride (Specification 4.1)
abbrev pub max_side : ℕ
max_side = 16384

-- ---- the region lies in a list of length len
pub record RegionFits (r : PlaneRegion) (len : ℕ) : Type 0 where
  pub width-pos : 0 < r.width
  pub height-pos : 0 < r.height
  pub width-le-stride : r.width ≤ r.stride
  pub stride-le : r.stride ≤ max_side
  pub height-le : r.height ≤ max_side
  pub end-le : r.at + ((r.height - 1) * r.stride + r.width) ≤ len
