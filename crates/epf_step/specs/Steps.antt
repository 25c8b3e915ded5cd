-- One sample of a step of the edge-preserving filter (Specification 11; ISO/IEC 18181-1), and a step over a picture. The parameters are the
-- step, a reader of samples, the channels with their scales, and the copying limit. Each operation is rounded once. Definitions only.
use Rattle.std.specs.Prelude.{Bool, cond, ◌||◌, List, [], ◌∷◌, ℕ, zero, suc, ◌+◌, ◌-◌, ◌/◌, ◌%◌, eqb, get_or, ℤ, pos, negsuc, ◌+ℤ◌, Float}
use Rattle.std.specs.Float.{nan}
use Rattle.std.specs.Float.Ieee.{lt}
use Rattle.rounding.specs.Magnitude.{magnitude}
use Rattle.planes.specs.Samples.{◌⊕◌, ◌⊖◌, ◌⊗◌, ◌⊘◌, bits, b0, b1}
use Rattle.planes.specs.Picture.{Picture, Around, around}

-- columns to the right and rows down
abbrev pub Offset : Type 0
Offset = ℤ × ℤ

-- `epf_kernel_offsets`: the neighbours that a step weighs, in the original's order
unfoldable pub kernel : ℕ → List Offset
kernel zero =
    (pos 0, negsuc 1) ∷ (negsuc 0, negsuc 0) ∷ (pos 0, negsuc 0) ∷ (pos 1, negsuc 0)
    ∷ (negsuc 1, pos 0) ∷ (negsuc 0, pos 0) ∷ (pos 1, pos 0) ∷ (pos 2, pos 0)
    ∷ (negsuc 0, pos 1) ∷ (pos 0, pos 1) ∷ (pos 1, pos 1) ∷ (pos 0, pos 2) ∷ []
kernel (suc s) = (pos 0, negsuc 0) ∷ (pos 0, pos 1) ∷ (negsuc 0, pos 0) ∷ (pos 1, pos 0) ∷ []

-- `epf_dist_offsets`: the offsets at which a distance compares samples. Steps 0 and 1 have the same five in different orders.
unfoldable pub dists : ℕ → List Offset
dists zero = (pos 0, negsuc 0) ∷ (pos 1, pos 0) ∷ (pos 0, pos 0) ∷ (negsuc 0, pos 0) ∷ (pos 0, pos 1) ∷ []
dists (suc zero) = (pos 0, negsuc 0) ∷ (pos 0, pos 0) ∷ (pos 0, pos 1) ∷ (negsuc 0, pos 0) ∷ (pos 1, pos 0) ∷ []
dists (suc (suc s)) = (pos 0, pos 0) ∷ []

-- how far a step reads in each direction
abbrev pub reach : ℕ → ℕ
reach step = 3 - step

-- a fold from the first element on
unfoldable pub along : {A B : Type 0} → (B → A → B) → B → List A → B
along f b [] = b
along f b (a ∷ l) = along f (f b a) l

-- ---- the distance to a neighbour

-- a channel and its scale
abbrev pub Scaled : Type 0
Scaled = ℕ × Float

-- n channels from channel c on, with their scales
unfoldable pub scaled_from : ℕ → ℕ → List Float → List Scaled
scaled_from c zero ss = []
scaled_from c (suc n) ss = (c, get_or ss c nan) ∷ scaled_from (suc c) n ss

-- the first n channels with their scales
abbrev pub scaled : ℕ → List Float → List Scaled
scaled n ss = scaled_from 0 n ss

-- channel c: the sum of |differences| between the samples around the neighbour at k and those around the centre
unfoldable pub apart : List Offset → Around → ℕ → Offset → Float
apart ds v c k = along (λ (a : Float) (i : Offset). a ⊕ magnitude (v c (k.0 +ℤ i.0) (k.1 +ℤ i.1) ⊖ v c i.0 i.1)) b0 ds

-- the sum of the channels' scaled sums, in order
unfoldable pub distance : List Scaled → List Offset → Around → Offset → Float
distance cs ds v k = along (λ (d : Float) (c : Scaled). d ⊕ c.1 ⊗ apart ds v c.0 k) b0 cs

-- ---- the weight of a neighbour

-- NaN and negatives become 0
unfoldable pub positive : Float → Float
positive x = cond (lt b0 x) x b0

-- 6.6 × (s − 1), where 6.6 has bits 40D33333 and s, the square root of 1/2, has bits 3F3504F3
abbrev pub falloff : Float
falloff = bits 0x40d3_3333 ⊗ (bits 0x3f35_04f3 ⊖ b1)

-- 1 + distance × slope
unfoldable pub weight_by : Float → Float → Float
weight_by slope d = positive (b1 ⊕ d ⊗ slope)

-- 1 + distance × (((6.6 × (s − 1)) / sigma) × M)
abbrev pub weight : Float → Float → Float → Float
weight sigma m d = weight_by (falloff ⊘ sigma ⊗ m) d

-- ---- the sample

-- A sigma below the limit copies the sample. NaN is not below the limit.
unfoldable pub copied : Float → Float → Bool
copied sigma limit = lt sigma limit

-- 0.3, bits 3E99999A: the copying limit (Specification 11.4)
abbrev pub standard_limit : Float
standard_limit = bits 0x3e99_999a

module _ (cs : List Scaled) (ks ds : List Offset) (sigma m : Float) where
  -- the weight of the neighbour at k
  unfoldable pub weight_at : Around → Offset → Float
  weight_at v k = weight sigma m (distance cs ds v k)

  -- the sample of channel c plus its weighted neighbours
  unfoldable pub blend : Around → ℕ → Float
  blend v c = along (λ (s : Float) (k : Offset). s ⊕ weight_at v k ⊗ v c k.0 k.1) (v c (pos 0) (pos 0)) ks

  -- 1 plus the sum of the weights
  unfoldable pub divisor : Around → Float
  divisor v = along (λ (s : Float) (k : Offset). s ⊕ weight_at v k) b1 ks

  -- the step's sample of channel c
  unfoldable pub epf : Float → Around → ℕ → Float
  epf limit v c = cond (copied sigma limit) (v c (pos 0) (pos 0)) (blend v c ⊘ divisor v)

-- ---- a step over a picture

-- whether a row or a column is at the border of an 8 × 8 block
unfoldable pub border : ℕ → Bool
border p = eqb (p % 8) 0 || eqb (p % 8) 7

-- M: the step's scale, times the border multiplier if the row or the column is at a block's border; once, also if both are
unfoldable pub multiplier : Float → Float → ℕ → ℕ → Float
multiplier m b row col = cond (border row || border col) (m ⊗ b) m

-- everything that a step reads besides samples and sigmas: `multiplier` is the step's scale, `border_mul` the border multiplier
pub record EpfPass : Type 0 where
  pub step : ℕ
  pub limit : Float
  pub scales : List Scaled
  pub multiplier : Float
  pub border_mul : Float

-- The step over a filter region of w columns and h rows. Its row r is at y = top + r; `sigma` takes a block's column and row.
unfoldable pub epf_pass : EpfPass → ℕ → ℕ → ℕ → (ℕ → ℕ → Float) → Picture → Picture
epf_pass e w h top sigma g = λ c x y.
    epf e.scales (kernel e.step) (dists e.step) (sigma (x / 8) (y / 8)) (multiplier e.multiplier e.border_mul (top + y) x) e.limit (around w h g x y) c
