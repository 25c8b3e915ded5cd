-- The answer of each test of regions (Specification 6.1, 6.4): the number of the first check that applies, and the value, zeros if refused.
use Rattle.std.specs.Prelude.{Bool, false, cond, ℕ, eqb, ℤ, pos}
use Rattle.refusals.specs.Checks.{first_of}
use Rattle.region.specs.Regions.{columns, rows, is_empty, contains}
use Rattle.region.specs.Answers.{given_checks, pair_checks}
use Rattle.region.specs.declared.Region.{Region}
use Rattle.export_region.specs.declared.BoolAnswer.{BoolAnswer}
use Rattle.export_region.specs.declared.EdgeAnswer.{EdgeAnswer}

abbrev pub bool_answer : ℕ → Bool → BoolAnswer
bool_answer n b = record { number = n; holds = cond (eqb n 0) b false }

abbrev pub edge_answer : ℕ → ℤ → EdgeAnswer
edge_answer n z = record { number = n; edge = cond (eqb n 0) z (pos 0) }

-- ---- the outcome of each public method, for every input

abbrev pub is_empty_outcome : Region → BoolAnswer
is_empty_outcome r = bool_answer (first_of (given_checks r)) (is_empty r)

-- left + width, the first column outside
abbrev pub right_outcome : Region → EdgeAnswer
right_outcome r = edge_answer (first_of (given_checks r)) (columns r).end

-- top + height, the first row outside
abbrev pub bottom_outcome : Region → EdgeAnswer
bottom_outcome r = edge_answer (first_of (given_checks r)) (rows r).end

abbrev pub contains_outcome : Region → Region → BoolAnswer
contains_outcome r target = bool_answer (first_of (pair_checks r target)) (contains r target)
