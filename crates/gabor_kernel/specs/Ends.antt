-- Whether a column or row is the only one, the first, the last or an inner one, which selects the formula (Specification 10.3, 10.4). Definitions only.
use Rattle.std.specs.Prelude.{cond, ℕ, ◌+◌, eqb}

-- the only one, the first or last of several, or one with a neighbour on each side
pub data End : Type 0 where
  only first last inner : End

unfoldable pub stands : ℕ → ℕ → End
stands n x = cond (eqb n 1) only (cond (eqb x 0) first (cond (eqb (x + 1) n) last inner))
