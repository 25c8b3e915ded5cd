-- The end of a word, from the index of the first such byte if there is one; it ends within its text. Assumes nothing.
use Rattle.std.proofs.Common.{◌≡◌, ℕ, ◌+◌, ◌-◌, ◌<◌, ◌≤◌, ◌==◌, Bool, List, Option, not, length, length-drop, drop, take, position, arith, le_of_lt, refl}
use native.Mathlib.Nat.{min-eq_left, min-eq_right}
use Rattle.std.specs.List.{position_or_len}
use Rattle.std.specs.Option.{unwrap_or}
use Rattle.std.proofs.lemmas.Grind.{common_steps}
use Rattle.std.proofs.lemmas.List.Sums.{prefix_len-le-length}
use Rattle.replay_text.specs.Words.{end_of}

pub end_is : (p : ℕ → Bool) (xs : List ℕ) (o : Option ℕ) → o ≡ position p xs → unwrap_or o (length xs) ≡ position_or_len p xs
end_is p xs o h = let k = prefix_len-le-length (λ x. not (p x)) xs in grind (arith, common_steps)

-- from `at` on
pub end_at : (text : List ℕ) (at b : ℕ) → at < length text → at + position_or_len (λ x. x == b) (take (length text - at) (drop at text)) ≡ end_of text at b
end_at text at b l =
    let n = length-drop at text in
    let whole : take (length text - at) (drop at text) ≡ drop at text = grind (arith, common_steps) in
    rw (whole, min-eq_left (le_of_lt l)) refl

-- the end lies between `at` and the end of the text
pub end-within : (text : List ℕ) (at b : ℕ) → at ≤ length text → (at ≤ end_of text at b) × (end_of text at b ≤ length text)
end-within text at b h =
    let k = prefix_len-le-length (λ x. not (x == b)) (drop at text) in
    let n = length-drop at text in
    rw (min-eq_left h) (omega arith, omega arith)

-- past the end of the text
pub end-past : (text : List ℕ) (at b : ℕ) → length text ≤ at → length text ≡ end_of text at b
end-past text at b h =
    let k = prefix_len-le-length (λ x. not (x == b)) (drop at text) in
    let n = length-drop at text in
    rw (min-eq_right h) (omega arith)
