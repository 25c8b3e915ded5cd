-- A sample and its eight neighbours, as a function of the offset. Definitions only.
use Rattle.std.specs.Prelude.{zero, suc, ℤ, pos, negsuc, Float}
use Rattle.gabor_kernel.specs.declared.Row3.{Row3}

-- selects one of three by an offset of −1, 0 or 1
unfoldable pub pick : {A : Type 0} → A → A → A → ℤ → A
pick a b c (pos zero) = b
pick a b c (pos (suc n)) = c
pick a b c (negsuc n) = a

-- a row of a single column: mirrored, the sample is its own neighbour on both sides
abbrev pub same : Float → Row3
same v = record { left = v; centre = v; right = v }

-- an end v of a row and its only neighbour l: mirrored, the end is its own neighbour on the other side
abbrev pub ending : Float → Float → Row3
ending l v = record { left = l; centre = v; right = v }

-- a row's sample by its offset
abbrev pub sample_in : Row3 → ℤ → Float
sample_in r = pick r.left r.centre r.right

-- nine samples by offset: the rows above, here and below
unfoldable pub nine : Row3 → Row3 → Row3 → ℤ → ℤ → Float
nine t c b = λ dx dy. pick (sample_in t dx) (sample_in c dx) (sample_in b dx) dy
