-- What an accepted call after the start does to the state that it was given: a band, an advance, or nothing. Assumes nothing.
use Rattle.std.proofs.Common.{◌≡◌}
use Rattle.run_outcomes.specs.Band.{State}
use Rattle.run_calls.specs.Calls.{LibraryCall, band, advance, result, start, other, answer, number_in, left_by, PassesState, as_bands, as_advances, Effect, one_band, one_advance, nothing}

pub library_effect : (t : State) (c : LibraryCall) → number_in (answer c) ≡ 0 → PassesState t c → Effect t (as_bands c) (as_advances c) (left_by t (answer c))
library_effect t (band u k) e l = rw l (one_band k (rw l at e))
library_effect t (advance r) e l = rw l (one_advance (rw l at e))
library_effect t (result r first second out) e l = nothing
library_effect t (start h) e l = absurd l
library_effect t (other k) e l = absurd l
