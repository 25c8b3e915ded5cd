-- Which samples a field compares, and which field has a neighbour's distances. Two opposite neighbours share a field. Definitions only.
use Rattle.std.specs.Prelude.{Bool, cond, [], ◌∷◌, ℕ, zero, suc, ◌+◌, ◌-◌, ◌*◌, ◌%◌, ◌/◌, min, leb, ltb, eqb, get_or, pos}
use Rattle.epf_step.specs.Steps.{Offset, kernel}
use Rattle.epf_distances.specs.declared.Pair.{Pair}
use Rattle.epf_distances.specs.declared.Tap.{Tap}
use Rattle.epf_sizes.specs.Sizes.{stride, margin_rows, margin_columns, field_plane}

-- the largest number of fields of a step, one per pair of opposite neighbours
abbrev pub pairs : ℕ
pairs = 6

-- the number of fields of a step
abbrev pub half : ℕ → ℕ
half zero = pairs
half (suc s) = 2

-- the two samples of a pair for the tile's first lane, in columns counted from the view's corner: the second one is in row 3, the first one `up` rows above it
abbrev pub pair_with : ℕ → ℕ → ℕ → Pair
pair_with up first second = record { up = up; first = first; second = second }

-- the pair that field h compares
abbrev pub pair_of : ℕ → ℕ → Pair
pair_of zero h = get_or (pair_with 0 3 4 ∷ pair_with 0 2 4 ∷ pair_with 1 4 3 ∷ pair_with 1 4 4 ∷ pair_with 1 3 4 ∷ []) h (pair_with 2 4 4)
pair_of (suc s) h = get_or (pair_with 0 3 4 ∷ []) h (pair_with 1 4 4)

-- how much later the second sample comes, where rows lie `across` apart
abbrev pub apart_in : ℕ → Pair → ℕ
apart_in across k = k.up * across + k.second - k.first

-- ---- where a field's distances are: for each row of the tile and the rows above it that the pair spans, whole vectors of four lanes, from the pair's first sample on

-- the number of vectors of a row: of the tile's columns and of those beside it that neighbours read
abbrev pub field_vectors : ℕ → Pair → ℕ
field_vectors cols k = (cols + (k.first - k.second + (k.second - k.first)) + 3) / 4

-- index of the first of them in field h
abbrev pub field_start : ℕ → Pair → ℕ
field_start h k = h * field_plane + (2 - k.up) * stride + k.first

-- ---- neighbours

-- the field that has the distances of neighbour q
abbrev pub field_of : ℕ → ℕ → ℕ
field_of zero q = cond (ltb q pairs) (pairs - 1 - q) (min (q - pairs) (pairs - 1))
field_of (suc s) q = cond (ltb q 2) 1 0

-- whether neighbour q comes after the centre
abbrev pub is_forward : ℕ → ℕ → Bool
is_forward zero q = leb pairs q
is_forward (suc s) q = eqb (q % 2) 1

-- The neighbour after the centre that field h's pair names, and the opposite one before it: the row and the column of its sample for the tile's first lane, from the view's corner, and the index of its
-- distance among the fields.
abbrev pub forward_of : ℕ → Pair → Tap
forward_of h k = record { row = margin_rows + k.up; col = margin_columns + k.second - k.first; start = h * field_plane + 2 * stride + margin_columns }

abbrev pub backward_of : ℕ → Pair → Tap
backward_of h k = record { row = margin_rows - k.up; col = margin_columns + k.first - k.second; start = h * field_plane + (2 - k.up) * stride + (margin_columns + k.first - k.second) }

unfoldable pub tap_of : ℕ → ℕ → Tap
tap_of step q =
    let h = field_of step q in
    cond (is_forward step q) (forward_of h (pair_of step h)) (backward_of h (pair_of step h))

-- the offset of neighbour q
abbrev pub neighbour : ℕ → ℕ → Offset
neighbour step q = get_or (kernel step) q (pos 0, pos 0)
