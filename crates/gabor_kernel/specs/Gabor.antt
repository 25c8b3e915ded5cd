-- The Gabor-like filter (Specification 10): one sample from its neighbours, and the pass over a picture.
use Rattle.std.specs.Prelude.{Bool, true, false, cond, List, [], ℕ, get_or, ℤ, pos, Float}
use Rattle.std.specs.Float.{nan}
use Rattle.planes.specs.Samples.{◌⊕◌, ◌⊗◌, ◌⊘◌, b1, b4}
use Rattle.planes.specs.Picture.{Picture, around}
use Rattle.gabor_kernel.specs.Ends.{End, only, first, last, inner, stands}
use Rattle.gabor_kernel.specs.Formula.{evaluate, formula}
use Rattle.gabor_kernel.specs.declared.Kernel.{Kernel}

-- the weights of the side neighbours (w0) and of the diagonal ones (w1), with the reciprocal of the sum of the kernel, (1 + w0 × 4) + w1 × 4
abbrev pub kernel_of : Float → Float → Kernel
kernel_of w0 w1 = record { w0 = w0; w1 = w1; g = b1 ⊘ (b1 ⊕ w0 ⊗ b4 ⊕ w1 ⊗ b4) }

-- the picture is a single sample
unfoldable pub alone : End → End → Bool
alone only only = true
alone only first = false
alone only last = false
alone only inner = false
alone first row = false
alone last row = false
alone inner row = false

-- the formula for this column and row, times g; a single sample is copied
unfoldable pub gabor_by : Kernel → (ℤ → ℤ → Float) → End → End → Float
gabor_by k v col row = cond (alone col row) (v (pos 0) (pos 0)) (evaluate k.w0 k.w1 v (formula col row) ⊗ k.g)

-- v dx dy is the sample at offset (dx, dy)
abbrev pub gabor : Float → Float → (ℤ → ℤ → Float) → End → End → Float
gabor w0 w1 v col row = gabor_by (kernel_of w0 w1) v col row

-- channel c's weights: of the side neighbours, and of the diagonal ones
abbrev pub side_weight : List (List Float) → ℕ → Float
side_weight ws c = get_or (get_or ws c []) 0 nan

abbrev pub diagonal_weight : List (List Float) → ℕ → Float
diagonal_weight ws c = get_or (get_or ws c []) 1 nan

-- the pass over a picture of w columns and h rows, mirrored at its edges
unfoldable pub gabor_pass : List (List Float) → ℕ → ℕ → Picture → Picture
gabor_pass ws w h p = λ c x y. gabor (side_weight ws c) (diagonal_weight ws c) (around w h p x y c) (stands w x) (stands h y)
