-- A run (consecutive samples) copied from one list to another. Definitions only.
use Rattle.std.specs.Prelude.{cond, ◌&&◌, List, ℕ, ◌+◌, leb, length, get_or, Float}
use Rattle.std.specs.Float.{nan}
use Rattle.planes.specs.Fill.{fill}

-- d with n samples of s, from index `from`, copied to index `at`; d unchanged if either list is too short for the run
unfoldable pub copied_run : List Float → ℕ → List Float → ℕ → ℕ → List Float
copied_run d at s from n = cond (leb (at + n) (length d) && leb (from + n) (length s)) (fill d at n (λ i. get_or s (from + i) nan)) d
