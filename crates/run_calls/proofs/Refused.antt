-- A refused call leaves its arguments unchanged, and the states of a list are those of the calls' outcomes. Assumes nothing.
use mathlib.Core.Path.{◌≡◌, refl, ap}
use mathlib.Core.Bool.{Bool, true, false, cond}
use borrow.Author.Tests.{eqb-false}
use lib.Dec.{eqb}
use Rattle.run_record.specs.declared.Run.{Run}
use Rattle.run_outcomes.specs.Start.{StartOutcome}
use Rattle.run_outcomes.specs.Band.{State}
use Rattle.run_outcomes.proofs.Laws.{start-refused, band-refused, advance-refused, result-refused}
use Rattle.run_calls.specs.Calls.{LibraryCall, band, advance, result, start, other, answer, number_in, left_by, PassesState, state_after}
use Rattle.run_calls.specs.Rules.{StartTied, CallsTied, RefusedUntouched}

pub refused-untouched : RefusedUntouched
refused-untouched (band t k) e = band-refused t k e
refused-untouched (advance r) e = advance-refused r e
refused-untouched (result r first second out) e = result-refused r first second out e
refused-untouched (start h) e = (ap (λ (o : StartOutcome). o.first) (start-refused h e), ap (λ (o : StartOutcome). o.sigmas) (start-refused h e))
refused-untouched (other k) e = tt

pub start-tied : StartTied
start-tied h = (refl, refl, refl, refl)

-- a refused call that is given the state leaves it unchanged
refused-left : (t : State) (c : LibraryCall) → PassesState t c → (number_in (answer c) ≡ 0 → ⊥) → left_by t (answer c) ≡ t
refused-left t (band u k) l e = rw l (band-refused t k (rw l at e))
refused-left t (advance r) l e = rw l (ap (λ (q : Run). record { run = q; sigmas = t.sigmas; first = t.first; second = t.second }) (advance-refused t.run (rw l at e)))
refused-left t (result r first second out) l e = refl
refused-left t (start h) l e = absurd l
refused-left t (other k) l e = absurd l

pub calls-tied : CallsTied
unfolding state_after
calls-tied t c l = go (eqb (number_in (answer c)) 0) refl
  where
    go : (b : Bool) → eqb (number_in (answer c)) 0 ≡ b → left_by t (answer c) ≡ cond b (left_by t (answer c)) t
    go true e = refl
    go false e = refused-left t c l (eqb-false (number_in (answer c)) 0 e)
