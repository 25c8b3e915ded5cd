-- Whether a filter region starts on block boundaries (Specification 3.1, number 6). Definitions only.
use Rattle.std.specs.Prelude.{Bool, false, ◌&&◌, ℕ, ◌%◌, eqb, ℤ, pos, negsuc}
use Rattle.region.specs.declared.Region.{Region}

-- a left or top, 0 if it is negative
abbrev pub clamp_to_zero : ℤ → ℕ
clamp_to_zero (pos k) = k
clamp_to_zero (negsuc k) = 0

-- not negative, and a multiple of 8
abbrev pub on_block : ℤ → Bool
on_block (pos k) = eqb (k % 8) 0
on_block (negsuc k) = false

-- Specification 3.1, number 6
abbrev pub on_blocks : Region → Bool
on_blocks r = on_block r.left && on_block r.top
