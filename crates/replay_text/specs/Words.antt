-- The end of a word or a line.
use Rattle.std.specs.Prelude.{ℕ, ◌+◌, ◌==◌, min, List, length, drop}
use Rattle.std.specs.List.{position_or_len}

-- the index of the first b from `at` on, or the end of the text
abbrev pub end_of : List ℕ → ℕ → ℕ → ℕ
end_of text at b = min at (length text) + position_or_len (λ x. x == b) (drop at text)
