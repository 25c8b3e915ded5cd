-- The index in the grids slice at which a group's grid starts, as `grid_start` returns it.
use Rattle.std.specs.Prelude.{Bool, cond, not, ◌||◌, List, [], ◌∷◌, ℕ, ◌*◌, ltb, eqb, length}
use Rattle.refusals.specs.Numbers.{out_of_limits, wrong_length}
use Rattle.refusals.specs.Checks.{Check, always, given, first_of}
use Rattle.sigma_grids.specs.Table.{grid_start, bad_grid, some_below}

-- the table lacks an entry for a group before this one, or has more entries than a frame has groups
unfoldable pub no_entries : List ℕ → ℕ → Bool
no_entries t group = ltb 768 (length t) || ltb (length t) (3 * group)

-- 4 for a grid before this one with a side out of range, 7 for a table of the wrong length
abbrev pub start_checks : List ℕ → ℕ → List Check
start_checks t group =
    given (not (no_entries t group)) out_of_limits (some_below group (bad_grid t))
    ∷ always wrong_length (no_entries t group)
    ∷ []

-- a number, and a start
pub record StartAnswer : Type 0 where
  pub number : ℕ
  pub start : ℕ

-- a refusal has start 0
abbrev pub start_answered : ℕ → ℕ → StartAnswer
start_answered number start = record { number = number; start = cond (eqb number 0) start 0 }

abbrev pub start_outcome : List ℕ → ℕ → StartAnswer
start_outcome t group = start_answered (first_of (start_checks t group)) (grid_start t group)
