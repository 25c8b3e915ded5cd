-- Fields of distances: for each pair of opposite neighbours, the distances at the places of a tile. Definitions only.
use Rattle.std.specs.Prelude.{Bool, cond, ◌&&◌, List, ℕ, zero, suc, ◌+◌, ◌-◌, ◌*◌, ◌≤◌, leb, ltb, length, Float}
use Rattle.planes.specs.Rect.{rows_fill, planes_fill}
use Rattle.epf_step.specs.Steps.{Scaled, scaled}
use Rattle.epf_distances.specs.declared.View.{View}
use Rattle.epf_distances.specs.declared.Pair.{Pair}
use Rattle.epf_distances.specs.Seen.{apart_by, summed}
use Rattle.epf_distances.specs.Taps.{half, pair_of, apart_in, field_vectors, field_start}
use Rattle.epf_sizes.specs.Sizes.{lanes, tile_rows, stride, margin_rows, difference_rows}

-- ---- a field

-- index in a plane of a pair's first sample, for the tile's first lane
abbrev pub first_place : View → Pair → ℕ
first_place v k = v.corner + (margin_rows - k.up) * v.stride + k.first

-- the distance at index p between samples that a pair compares
unfoldable pub dist_at : ℕ → List Scaled → List Float → View → Pair → ℕ → Float
dist_at step cs src v k p = summed v.stride step cs (λ c. apart_by src (c * v.plane) (apart_in v.stride k)) p

-- the first n fields of a tile
unfoldable pub fields_fill : ℕ → List Scaled → List Float → View → ℕ → ℕ → List Float → ℕ → List Float
fields_fill step cs src v rows cols e zero = e
fields_fill step cs src v rows cols e (suc h) =
    let k = pair_of step h in
    rows_fill (fields_fill step cs src v rows cols e h) (field_start h k) stride (4 * field_vectors cols k) (rows + k.up) (λ r i. dist_at step cs src v k (first_place v k + r * v.stride + i))

-- ---- the differences of a field, of n planes: those of its rows and of the rows above and below, one column more on the left and three on the right

abbrev pub field_differences : ℕ → List Float → View → ℕ → ℕ → Pair → List Float → List Float
field_differences n src v rows cols k d =
    planes_fill stride difference_rows 0 (4 * field_vectors cols k + 4) 0 (rows + k.up + 2) (λ c i r. apart_by src (c * v.plane) (apart_in v.stride k) (first_place v k - v.stride - 1 + r * v.stride + i)) d n

-- those of the first fields, one after another in the same place
unfoldable pub differences_fill : ℕ → ℕ → List Float → View → ℕ → ℕ → List Float → ℕ → List Float
differences_fill step n src v rows cols d zero = d
differences_fill step n src v rows cols d (suc h) = field_differences n src v rows cols (pair_of step h) (differences_fill step n src v rows cols d h)

-- ---- what `distances` leaves

-- a view with a larger distance of planes or rows, or a larger corner, is refused, so that positions do not overflow
abbrev pub max_index : ℕ
max_index = 4294967296

-- past every sample that is read, in the last plane: 3 rows below the tile's last one, 8 columns right of it
abbrev pub view_end : View → ℕ → ℕ → ℕ → ℕ
view_end v n rows cols = (n - 1) * v.plane + v.corner + (rows + 5) * v.stride + cols + 12

-- a tile of 1 to 8 rows and at most 64 columns in 1 to 3 planes, all of whose samples are there
abbrev pub view_fits : View → ℕ → ℕ → ℕ → ℕ → Bool
view_fits v n rows cols len =
    leb 1 n && (leb n 3 && (leb 1 rows && (leb rows tile_rows && (leb cols lanes && (leb 1 v.stride && (leb v.plane max_index && (leb v.corner max_index && (leb v.stride max_index && leb (view_end v n rows cols) len))))))))

-- the fields of a tile; unchanged if the arguments do not fit
unfoldable pub distances_of : ℕ → ℕ → List Float → List Float → View → ℕ → ℕ → List Float → List Float
distances_of step n scales src v rows cols e = cond (view_fits v n rows cols (length src)) (fields_fill step (scaled n scales) src v rows cols e (half step)) e

-- the differences that stay behind: those of the last field in steps 0 and 1
unfoldable pub differences_of : ℕ → ℕ → List Float → View → ℕ → ℕ → List Float → List Float
differences_of step n src v rows cols d = cond (view_fits v n rows cols (length src) && ltb step 2) (differences_fill step n src v rows cols d (half step)) d

-- ---- what the loops require

pub record ViewFits (v : View) (n rows cols len : ℕ) : Type 0 where
  pub planes-pos : 1 ≤ n
  pub planes-le : n ≤ 3
  pub rows-pos : 1 ≤ rows
  pub rows-le : rows ≤ tile_rows
  pub cols-le : cols ≤ lanes
  pub stride-pos : 1 ≤ v.stride
  pub plane-le : v.plane ≤ max_index
  pub corner-le : v.corner ≤ max_index
  pub stride-le : v.stride ≤ max_index
  pub end-le : view_end v n rows cols ≤ len
