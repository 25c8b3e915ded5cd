-- The sixteen formulas of Specification 10.4, one for each case of the column and of the row, in the original's order of sums:
-- `run_gabor_row_generic` for inner rows, `gabor_row_edge` for the first, the last and the only row. In a single row the centre's weight is the
-- standard's, not the original's.
use Rattle.std.specs.Prelude.{ℤ, pos, negsuc, Float}
use Rattle.planes.specs.Samples.{◌⊕◌, ◌⊗◌, b1, b2, b3}
use Rattle.gabor_kernel.specs.Ends.{End, only, first, last, inner}

infixl 60 ◌⊞◌
infixl 70 ◌⊠◌
-- constants, the weights of the side neighbours (w0) and of the diagonal ones (w1), the sample at an offset (columns right, rows down),
-- sums and products
pub data Formula : Type 0 where
  one two three w0 w1 : Formula
  sample : ℤ → ℤ → Formula
  ◌⊞◌ ◌⊠◌ : Formula → Formula → Formula

-- the value in binary32: each node is rounded once, in the order of the tree
unfoldable pub evaluate : Float → Float → (ℤ → ℤ → Float) → Formula → Float
evaluate a b v one = b1
evaluate a b v two = b2
evaluate a b v three = b3
evaluate a b v w0 = a
evaluate a b v w1 = b
evaluate a b v (sample dx dy) = v dx dy
evaluate a b v (f ⊞ g) = evaluate a b v f ⊕ evaluate a b v g
evaluate a b v (f ⊠ g) = evaluate a b v f ⊗ evaluate a b v g

abbrev pub centre : Formula
centre = sample (pos 0) (pos 0)

abbrev pub up : ℤ
up = negsuc 0

abbrev pub down : ℤ
down = pos 1

abbrev pub left : ℤ
left = negsuc 0

abbrev pub right : ℤ
right = pos 1

-- ---- an inner row

-- l and r are the offsets of the left and right columns
abbrev pub around9 : ℤ → ℤ → Formula
around9 l r =
    centre
    ⊞ (sample (pos 0) up ⊞ sample l (pos 0) ⊞ sample r (pos 0) ⊞ sample (pos 0) down) ⊠ w0
    ⊞ (sample l up ⊞ sample r up ⊞ sample l down ⊞ sample r down) ⊠ w1

abbrev pub inner_row : End → Formula
inner_row only = centre ⊞ (sample (pos 0) up ⊞ two ⊠ centre ⊞ sample (pos 0) down) ⊠ w0 ⊞ two ⊠ (sample (pos 0) up ⊞ sample (pos 0) down) ⊠ w1
inner_row first = around9 right (pos 0)
inner_row last = around9 left (pos 0)
inner_row inner = around9 left right

-- ---- the first or last of several rows: a is the offset of the adjacent row

abbrev pub edge_end : ℤ → ℤ → Formula
edge_end a l = centre ⊠ (one ⊞ two ⊠ w0 ⊞ w1) ⊞ (sample (pos 0) a ⊞ sample l (pos 0)) ⊠ (w0 ⊞ w1) ⊞ sample l a ⊠ w1

abbrev pub edge_row : ℤ → End → Formula
edge_row a only = centre ⊠ (one ⊞ three ⊠ w0 ⊞ two ⊠ w1) ⊞ sample (pos 0) a ⊠ (w0 ⊞ two ⊠ w1)
edge_row a first = edge_end a right
edge_row a last = edge_end a left
edge_row a inner =
    centre
    ⊞ (sample (pos 0) a ⊞ sample left (pos 0) ⊞ centre ⊞ sample right (pos 0)) ⊠ w0
    ⊞ (sample left a ⊞ sample right a ⊞ sample left (pos 0) ⊞ sample right (pos 0)) ⊠ w1

-- ---- the only row

-- the weight of the centre: the rows above and below are mirrored to this one
abbrev pub solo_centre : Formula
solo_centre = one ⊞ two ⊠ w0

-- the weight of a neighbour
abbrev pub solo_side : Formula
solo_side = w0 ⊞ two ⊠ w1

abbrev pub solo_end : ℤ → Formula
solo_end l = centre ⊠ (solo_centre ⊞ solo_side) ⊞ sample l (pos 0) ⊠ solo_side

abbrev pub solo_row : End → Formula
solo_row only = centre
solo_row first = solo_end right
solo_row last = solo_end left
solo_row inner = centre ⊠ solo_centre ⊞ (sample left (pos 0) ⊞ sample right (pos 0)) ⊠ solo_side

-- ---- the formula for each case of the column and of the row

unfoldable pub formula : End → End → Formula
formula col only = solo_row col
formula col first = edge_row down col
formula col last = edge_row up col
formula col inner = inner_row col
