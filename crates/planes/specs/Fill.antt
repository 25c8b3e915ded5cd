-- A list with a run of its samples overwritten. Definitions only.
use Rattle.std.specs.Prelude.{List, ℕ, zero, suc, ◌+◌, set, Float}

-- d with f i at index at + i, for each i below n
unfoldable pub fill : List Float → ℕ → ℕ → (ℕ → Float) → List Float
fill d at zero f = d
fill d at (suc n) f = set (fill d at n f) (at + n) (f n)
