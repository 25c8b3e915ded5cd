-- A run as a list of calls: the state, what each call returns and writes, and when calls are unaltered (Specification 13.7). Definitions
-- only.
use Rattle.std.specs.Prelude.{◌≡◌, cond, List, [], ◌∷◌, ℕ, ◌+◌, eqb, Float}
use Rattle.run_record.specs.declared.Run.{Run}
use Rattle.run_outcomes.specs.declared.RunAnswer.{RunAnswer}
use Rattle.run_outcomes.specs.Start.{Handed, StartOutcome, start_outcome}
use Rattle.run_outcomes.specs.Band.{State, BandOutcome, band_outcome, advance_outcome}
use Rattle.run_outcomes.specs.Result.{ResultOutcome, result_outcome}

-- ---- the start

-- start accepts the arguments h
abbrev pub StartAccepted : Handed → Type 0
StartAccepted h = (start_outcome h).answer.number ≡ 0

-- the state after a start: record, block sigmas and first set from its outcome; the second set, which start only reads, is unchanged
abbrev pub left_by_start : StartOutcome → List Float → State
left_by_start o second = record { run = o.answer.run; sigmas = o.sigmas; first = o.first; second = second }

abbrev pub start_state : Handed → State
start_state h = left_by_start (start_outcome h) h.second

-- ---- the calls after it (Specification 13.7)

-- A call with all its arguments. For functions other than these four only the returned number counts, whatever their arguments are, parts
-- of the state included.
pub data LibraryCall : Type 0 where
  band : State → ℕ → LibraryCall
  advance : Run → LibraryCall
  result : Run → List Float → List Float → List Float → LibraryCall
  start : Handed → LibraryCall
  other : ℕ → LibraryCall

-- everything that a call returns and writes: the outcome that its contract cites. The number of planes is that of the call's own record: a
-- refused call may be given the record of another run.
pub data LibraryAnswer : Type 0 where
  of_band : BandOutcome → LibraryAnswer
  of_advance : RunAnswer → LibraryAnswer
  of_result : ResultOutcome → LibraryAnswer
  of_start : StartOutcome → LibraryAnswer
  of_other : ℕ → LibraryAnswer

abbrev pub answer : LibraryCall → LibraryAnswer
answer (band t k) = of_band (band_outcome t k)
answer (advance r) = of_advance (advance_outcome r)
answer (result r first second out) = of_result (result_outcome r first second out)
answer (start h) = of_start (start_outcome h)
answer (other k) = of_other k

-- the number in an answer
abbrev pub number_in : LibraryAnswer → ℕ
number_in (of_band o) = o.number
number_in (of_advance o) = o.number
number_in (of_result o) = o.number
number_in (of_start o) = o.answer.number
number_in (of_other k) = k

-- the state after an accepted call that was given state t: what the call returned and wrote, and the rest of t
abbrev pub left_by : State → LibraryAnswer → State
left_by t (of_band o) = o.state
left_by t (of_advance o) = record { run = o.run; sigmas = t.sigmas; first = t.first; second = t.second }
left_by t (of_result o) = t
left_by t (of_start o) = left_by_start o t.second
left_by t (of_other k) = t

-- The call is given the record, the block sigmas and the sets of state t. No other start and no other function may be accepted during the
-- run.
abbrev pub PassesState : State → LibraryCall → Type 0
PassesState t (band u k) = u ≡ t
PassesState t (advance r) = r ≡ t.run
PassesState t (result r first second out) = (r ≡ t.run) × (first ≡ t.first) × (second ≡ t.second)
PassesState t (start h) = ⊥
PassesState t (other k) = ⊥

abbrev pub as_bands : LibraryCall → ℕ
as_bands (band t k) = 1
as_bands (advance r) = 0
as_bands (result r first second out) = 0
as_bands (start h) = 0
as_bands (other k) = 0

abbrev pub as_advances : LibraryCall → ℕ
as_advances (band t k) = 0
as_advances (advance r) = 1
as_advances (result r first second out) = 0
as_advances (start h) = 0
as_advances (other k) = 0

-- ---- calls of any kind; those of Specification 13.7 are one instance

-- What an accepted call may do to the state: complete a band, advance, or nothing. The two numbers count accepted bands and accepted
-- advances.
pub data Effect (t : State) : ℕ → ℕ → State → Type 0 where
  one_band : (k : ℕ) → (band_outcome t k).number ≡ 0 → Effect t 1 0 (band_outcome t k).state
  one_advance : (advance_outcome t.run).number ≡ 0 → Effect t 0 1 (left_by t (of_advance (advance_outcome t.run)))
  nothing : Effect t 0 0 t

-- A kind of calls, each with its answer. The answer determines the number and, for an accepted call that was given a state, the state after
-- it. `Lent` says which calls were given a state; `Effects` says what those do to it.
pub record Calls : Type 1 where
  pub Call : Type 0
  pub Answer : Type 0
  pub answer : Call → Answer
  pub number : Answer → ℕ
  pub leaves : State → Answer → State
  pub Lent : State → Call → Type 0
  pub bands : Call → ℕ
  pub advances : Call → ℕ

-- each accepted call that was given a state has one of these effects on it, and counts as the bands and advances of that effect
abbrev pub Effects : Calls → Type 0
Effects K = (t : State) (c : K.Call) → K.number (K.answer c) ≡ 0 → K.Lent t c → Effect t (K.bands c) (K.advances c) (K.leaves t (K.answer c))

abbrev pub library_calls : Calls
library_calls = record {
  Call = LibraryCall;
  Answer = LibraryAnswer;
  answer = answer;
  number = number_in;
  leaves = left_by;
  Lent = PassesState;
  bands = as_bands;
  advances = as_advances;
}

-- ---- lists of calls of kind K

module _ (K : Calls) where
  -- the state after a call; a refused call changes nothing
  unfoldable pub state_after : State → K.Call → State
  state_after t c = cond (eqb (K.number (K.answer c)) 0) (K.leaves t (K.answer c)) t

  -- the state after a list of calls
  unfoldable pub end : State → List K.Call → State
  end t [] = t
  end t (c ∷ cs) = end (state_after t c) cs

  -- unaltered (Specification 13.7): each accepted call is given the state after the accepted calls before it; a refused one may be given
  -- anything
  abbrev pub Unaltered : State → List K.Call → Type 0
  Unaltered t [] = Unit {0}
  Unaltered t (c ∷ cs) = (K.number (K.answer c) ≡ 0 → K.Lent t c) × Unaltered (state_after t c) cs

  -- each call of a list is accepted
  abbrev pub AllAccepted : List K.Call → Type 0
  AllAccepted [] = Unit {0}
  AllAccepted (c ∷ cs) = (K.number (K.answer c) ≡ 0) × AllAccepted cs

  -- the number of accepted bands, and of accepted advances, in a list
  unfoldable pub bands_in : List K.Call → ℕ
  bands_in [] = 0
  bands_in (c ∷ cs) = cond (eqb (K.number (K.answer c)) 0) (K.bands c) 0 + bands_in cs

  unfoldable pub advances_in : List K.Call → ℕ
  advances_in [] = 0
  advances_in (c ∷ cs) = cond (eqb (K.number (K.answer c)) 0) (K.advances c) 0 + advances_in cs
