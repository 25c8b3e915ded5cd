-- What the loops over a tile's lanes compute from fields, slopes and samples, one neighbour at a time. Definitions only.
use Rattle.std.specs.Prelude.{◌≡◌, Bool, cond, not, ◌&&◌, ◌||◌, List, ℕ, zero, suc, ◌+◌, ◌*◌, eqb, length, get_or, Float}
use Rattle.std.specs.Float.{nan}
use Rattle.std.specs.Simd.Lanes.{zip2}
use Rattle.planes.specs.declared.Layout.{Layout}
use Rattle.planes.specs.Samples.{◌⊕◌, ◌⊗◌, ◌⊘◌, b0, b1}
use Rattle.planes.specs.Picture.{Picture}
use Rattle.epf_rects.specs.declared.Rect.{Rect}
use Rattle.epf_rects.specs.Rects.{rect_filled, rect_fits, RectFits}
use Rattle.epf_step.specs.Steps.{kernel, weight_by}
use Rattle.epf_slopes.specs.Slopes.{first_slope}
use Rattle.epf_distances.specs.declared.View.{View}
use Rattle.epf_distances.specs.Taps.{tap_of}
use Rattle.epf_distances.specs.Fields.{view_fits, ViewFits}
use Rattle.epf_vectors.specs.Lanes.{lanes_of}
use Rattle.epf_sizes.specs.Sizes.{stride, window_plane, margin_rows, margin_columns}
use Rattle.epf_lanes.specs.declared.Four.{Four}
use Rattle.epf_lanes.specs.declared.LaneWeights.{LaneWeights}

-- ---- sums over the first q neighbours

-- f gives the weight of each neighbour
unfoldable pub weights_to : (ℕ → Float) → ℕ → Float
weights_to f zero = b1
weights_to f (suc q) = weights_to f q ⊕ f q

-- s gives the sample of each neighbour, x is the sample itself
unfoldable pub samples_to : (ℕ → Float) → (ℕ → Float) → Float → ℕ → Float
samples_to f s x zero = x
samples_to f s x (suc q) = samples_to f s x q ⊕ f q ⊗ s q

-- ---- a lane: column i of row r; its slopes start at index `first`

-- the distance between the lane and its neighbour q
abbrev pub distance_of : ℕ → List Float → ℕ → ℕ → ℕ → Float
distance_of step e r i q = get_or e ((tap_of step q).start + r * stride + i) nan

-- the weight of neighbour q, by the lane's slope
abbrev pub weight_in : ℕ → List Float → Float → ℕ → ℕ → ℕ → Float
weight_in step e slope r i q = weight_by slope (distance_of step e r i q)

unfoldable pub weight_of : ℕ → List Float → List Float → ℕ → ℕ → ℕ → ℕ → Float
weight_of step e slopes first r i q = weight_by (get_or slopes (first + i) nan) (get_or e ((tap_of step q).start + r * stride + i) nan)

-- the sample of lane i in channel c, `row` rows and `col` columns after its corner
abbrev pub sample_of : List Float → View → ℕ → ℕ → ℕ → ℕ → ℕ → Float
sample_of src v c r row col i = get_or src (c * v.plane + (v.corner + r * v.stride + i) + (row * v.stride + col)) nan

-- the sample of neighbour q
unfoldable pub neighbour_of : ℕ → List Float → View → ℕ → ℕ → ℕ → ℕ → Float
neighbour_of step src v c r i q = sample_of src v c r (tap_of step q).row (tap_of step q).col i

-- the sample plus its weighted neighbours, over the divisor: 1 plus the sum of the weights
unfoldable pub lane_of : ℕ → List Float → List Float → List Float → View → ℕ → ℕ → ℕ → ℕ → Float
lane_of step e slopes src v first c i r =
    samples_to (weight_of step e slopes first r i) (neighbour_of step src v c r i) (sample_of src v c r margin_rows margin_columns i) (length (kernel step))
    ⊘ weights_to (weight_of step e slopes first r i) (length (kernel step))

-- ---- the same by four neighbours and four lanes at a time, as the code has it

-- the sum, the product and the quotient of vectors
infixl 60 ◌⊞◌
infixl 70 ◌⊠◌ ◌⧄◌
abbrev pub ◌⊞◌ : List Float → List Float → List Float
xs ⊞ ys = zip2 (λ x y. x ⊕ y) xs ys

abbrev pub ◌⊠◌ : List Float → List Float → List Float
xs ⊠ ys = zip2 (λ x y. x ⊗ y) xs ys

abbrev pub ◌⧄◌ : List Float → List Float → List Float
xs ⧄ ys = zip2 (λ x y. x ⊘ y) xs ys

-- the weight of neighbour q of lane k after index j of a field, by the lanes' slopes
abbrev pub field_weight : ℕ → List Float → List Float → ℕ → ℕ → ℕ → Float
field_weight step e slopes j q k = weight_by (get_or slopes k nan) (get_or e ((tap_of step q).start + j + k) nan)

-- the same of lane i + k of row r
abbrev pub weights_in : ℕ → List Float → List Float → ℕ → ℕ → ℕ → ℕ → Float
weights_in step e slopes r i q k = weight_in step e (get_or slopes k nan) r (i + k) q

-- the weights of neighbours q to q + 3; f q k is that of neighbour q of lane k
abbrev pub four_of : (ℕ → ℕ → Float) → ℕ → Four
four_of f q = record { a = lanes_of (f q); b = lanes_of (f (q + 1)); c = lanes_of (f (q + 2)); d = lanes_of (f (q + 3)) }

-- x plus the weighted samples of neighbours q to q + 3
abbrev pub with_four : List Float → Four → (ℕ → List Float) → ℕ → List Float
with_four x w s q = x ⊞ w.a ⊠ s q ⊞ w.b ⊠ s (q + 1) ⊞ w.c ⊠ s (q + 2) ⊞ w.d ⊠ s (q + 3)

-- no neighbours
abbrev pub no_four : Four
no_four = four_of (λ q k. b0) 0

-- the divisors of four lanes with n neighbours: 1 plus the sum of the weights
abbrev pub sums_of : (ℕ → ℕ → Float) → ℕ → List Float
sums_of f n = lanes_of (λ k. weights_to (λ q. f q k) n)

-- all weights of a step and the divisors: twelve neighbours, or four
abbrev pub weights_of : ℕ → (ℕ → ℕ → Float) → LaneWeights
weights_of step f =
    cond (eqb step 0) (record { u = four_of f 0; v = four_of f 4; w = four_of f 8; sum = sums_of f 12 })
    (record { u = four_of f 0; v = no_four; w = no_four; sum = sums_of f 4 })

-- the samples of neighbour q of the four lanes whose corners start at index p, where rows lie `across` apart
abbrev pub sample_at : ℕ → List Float → ℕ → ℕ → ℕ → List Float
sample_at step src across p q = lanes_of (λ k. get_or src (p + ((tap_of step q).row * across + (tap_of step q).col) + k) nan)

-- the sums over the divisors
abbrev pub mix_of : ℕ → List Float → ℕ → ℕ → LaneWeights → List Float
mix_of step src across p w =
    let s = sample_at step src across p in
    let x = with_four (lanes_of (λ k. get_or src (p + (margin_rows * across + margin_columns) + k) nan)) w.u s 0 in
    cond (eqb step 0) (with_four (with_four x w.v s 4) w.w s 8 ⧄ w.sum) (x ⧄ w.sum)

-- ---- rows and tiles

-- the lanes of row r, whose slopes start at index `first`: sample i of plane c, as a picture of which each row is that one
abbrev pub row_of : ℕ → List Float → List Float → List Float → View → ℕ → ℕ → Picture
row_of step e slopes src v first r = λ c i y. lane_of step e slopes src v first c i r

-- a tile; its row 0 is at y = `top`
abbrev pub tile_of : ℕ → List Float → List Float → List Float → View → ℕ → Picture
tile_of step e slopes src v top = λ c i r. lane_of step e slopes src v (first_slope (top + r)) c i r

-- planes and rows lie as far apart as in windows; step 0 takes no other view
abbrev pub reads_windows : View → Bool
reads_windows v = eqb v.plane window_plane && eqb v.stride stride

-- the set after filtering a rectangle in n planes; unchanged if the rectangle, the set or the samples do not fit
unfoldable pub lanes_stored : ℕ → List Float → List Float → List Float → View → Layout → ℕ → ℕ → Rect → List Float → List Float
lanes_stored step e slopes src v l n top q d =
    cond (rect_fits l n q (length d) && (view_fits v n q.rows q.cols (length src) && (not (eqb step 0) || reads_windows v))) (rect_filled l n q (tile_of step e slopes src v top) d) d

-- ---- what the loops require

-- past the last lane of a tile in a field, counted from its first
abbrev pub past_lanes : ℕ
past_lanes = 568

-- a rectangle of n planes, and the view that it is read by
pub record LanesFit (step : ℕ) (l : Layout) (n : ℕ) (q : Rect) (v : View) (dst src : ℕ) : Type 0 where
  pub room : RectFits l n q dst
  pub view : ViewFits v n q.rows q.cols src
  pub windows : step ≡ 0 → (v.plane ≡ window_plane) × (v.stride ≡ stride)
