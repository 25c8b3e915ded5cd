-- The outcome of a header reader (Specification 3.3, 5.3): an accepted reading has number 0, the value and the next bit position; a refusal has its number and 0 in all other fields.
use Rattle.std.specs.Prelude.{ℕ, cond, eqb}

pub data Outcome (A : Type 0) : Type 0 where
  accepted : A → ℕ → Outcome A
  refused : ℕ → Outcome A

-- number, value and next position (Specification 5.3); `zero` is the value that a refusal has
abbrev pub number : {A : Type 0} → Outcome A → ℕ
number (accepted a next) = 0
number (refused n) = n

abbrev pub value : {A : Type 0} → A → Outcome A → A
value zero (accepted a next) = a
value zero (refused n) = zero

abbrev pub next : {A : Type 0} → Outcome A → ℕ
next (accepted a n) = n
next (refused n) = 0

-- a reading is accepted if its number is 0 and refused with it otherwise
abbrev pub checked : {A : Type 0} → ℕ → A → ℕ → Outcome A
checked n a next = cond (eqb n 0) (accepted a next) (refused n)

-- one reading after another: the second starts where the first ends, and a refusal ends the sequence
abbrev pub and_then : {A B : Type 0} → Outcome A → (A → ℕ → Outcome B) → Outcome B
and_then (accepted a next) k = k a next
and_then (refused n) k = refused n
