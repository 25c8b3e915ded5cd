-- The theorem on rectangles for a state, however its run reached it, and that lists of calls lead to such states (Specification 13.6).
-- Statements only.
use Rattle.std.specs.Prelude.{◌≡◌, List, ℕ, T, length, Float}
use Rattle.run_setup.specs.Setup.{layout, result_length}
use Rattle.run_record.specs.Record.{finished}
use Rattle.run_outcomes.specs.Start.{Handed}
use Rattle.run_outcomes.specs.Band.{State, source}
use Rattle.run_outcomes.specs.Result.{result_of}
use Rattle.run_calls.specs.Calls.{StartAccepted, start_state, Effect, Calls, end, Unaltered}
use Rattle.run_calls.specs.Theorem.{CutFrom, result_on, Delivers}

-- the states that a start and the effects of accepted calls lead to
pub data StateReached (h : Handed) : State → Type 0 where
  from_start : StateReached h (start_state h)
  by_effect : (t u : State) (bands advances : ℕ) → StateReached h t → Effect t bands advances u → StateReached h u

-- the state after a list of calls of any kind is one of them
module _ (K : Calls) where
  abbrev pub EndReached : Type 0
  EndReached = (h : Handed) (cs : List K.Call) → Unaltered K (start_state h) cs → StateReached h (end K (start_state h) cs)

-- in a finished run the result call is accepted and copies the result region of the set that the next pass would read
abbrev pub ResultAt : Type 0
ResultAt = (h : Handed) → StartAccepted h → (t : State) → StateReached h t → T (finished t.run)
    → (out : List Float) → length out ≡ result_length h.setup → ((result_on t out).number ≡ 0) × ((result_on t out).out ≡ result_of h.setup.planes (layout h.setup) (source t))

-- the theorem on rectangles for a state; the theorem for a list of calls follows from it
abbrev pub RectangleTheoremAt : Type 0
RectangleTheoremAt = (small large : Handed) → StartAccepted small → CutFrom small large → (t : State) → StateReached small t → T (finished t.run)
    → (out : List Float) → length out ≡ result_length small.setup → Delivers small large (result_on t out)
