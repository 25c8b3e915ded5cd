-- A picture, the neighbours of a sample as a filter reads them (Specification 8.2), and rectangles. Definitions only.
use Rattle.std.specs.Prelude.{ℕ, ◌+◌, ℤ, pos, ◌+ℤ◌, Float, Bool, ◌&&◌, leb, ltb}
use Rattle.mirror.specs.Mirror.{mirror}

-- the sample of a channel at a column and row
abbrev pub Picture : Type 0
Picture = ℕ → ℕ → ℕ → Float

-- the sample of a channel at an offset (dx, dy): dx columns right, dy rows down
abbrev pub Around : Type 0
Around = ℕ → ℤ → ℤ → Float

-- the neighbours of column x and row y in a picture of w columns and h rows, mirrored at its edges (Specification 8.2)
unfoldable pub around : ℕ → ℕ → Picture → ℕ → ℕ → Around
around w h g x y = λ c dx dy. g c (mirror (pos x +ℤ dx) w) (mirror (pos y +ℤ dy) h)

-- column x and row y lie in the rectangle
unfoldable pub in_rect : ℕ → ℕ → ℕ → ℕ → ℕ → ℕ → Bool
in_rect left n top m x y = (leb left x && ltb x (left + n)) && (leb top y && ltb y (top + m))
