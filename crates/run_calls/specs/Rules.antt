-- How many calls finish a run, how many bands are left, which records accepted calls lead to, and that refused calls change nothing
-- (Specification 3.3, 12.5, 12.8, 12.13). Statements only.
use Rattle.std.specs.Prelude.{◌≡◌, ◌↔◌, cond, List, ◌-◌, ◌*◌, T, length}
use Rattle.run_setup.specs.declared.Setup.{Setup}
use Rattle.run_record.specs.declared.Run.{Run}
use Rattle.run_setup.specs.Setup.{pass_count, max_bands, band_count, setup_fits}
use Rattle.run_record.specs.Record.{is_done, count_below, finished, run_fits, Reached}
use Rattle.run_outcomes.specs.Start.{Handed, start_outcome}
use Rattle.run_outcomes.specs.Band.{State, band_outcome, advance_outcome}
use Rattle.run_outcomes.specs.Result.{result_outcome}
use Rattle.run_calls.specs.Calls.{StartAccepted, start_state, LibraryCall, band, advance, result, start, other, answer, number_in, left_by, PassesState, Calls, library_calls, state_after, end, Unaltered, AllAccepted, bands_in, advances_in}

-- ---- the calls (Specification 13.7)

-- the state after a start is that of its outcome, with the second set unchanged
abbrev pub StartTied : Type 0
StartTied = (h : Handed) → let t = start_state h in
    let o = start_outcome h in
    (t.run ≡ o.answer.run) × (t.first ≡ o.first) × (t.sigmas ≡ o.sigmas) × (t.second ≡ h.second)

-- if a call is given the state, accepted or not, what it returns and writes is the state after it
abbrev pub CallsTied : Type 0
CallsTied = (t : State) (c : LibraryCall) → PassesState t c → left_by t (answer c) ≡ state_after library_calls t c

-- a call leaves all its arguments unchanged; the contracts of functions other than these four say it themselves
abbrev pub Untouched : LibraryCall → Type 0
Untouched (band t k) = (band_outcome t k).state ≡ t
Untouched (advance r) = (advance_outcome r).run ≡ r
Untouched (result r first second out) = (result_outcome r first second out).out ≡ out
Untouched (start h) = ((start_outcome h).first ≡ h.first) × ((start_outcome h).sigmas ≡ h.sigmas)
Untouched (other k) = Unit {0}

-- every refused call does
abbrev pub RefusedUntouched : Type 0
RefusedUntouched = (c : LibraryCall) → (number_in (answer c) ≡ 0 → ⊥) → Untouched c

-- after every accepted start some list of calls finishes the run
abbrev pub CanFinish : Type 0
CanFinish = (h : Handed) → StartAccepted h
    → (cs : List LibraryCall) × Unaltered library_calls (start_state h) cs × T (finished (end library_calls (start_state h) cs).run)

-- ---- runs with calls of kind K

module _ (K : Calls) where
  -- A run with p passes and b bands is finished after exactly p × b accepted bands and p accepted advances.
  abbrev pub CountRule : Type 0
  CountRule = (h : Handed) → StartAccepted h → (cs : List K.Call) → Unaltered K (start_state h) cs
      → T (finished (end K (start_state h) cs).run)
      ↔ ((bands_in K cs ≡ pass_count h.setup * band_count h.setup) × (advances_in K cs ≡ pass_count h.setup))

  -- The record after any unaltered list of calls has as its number of bands left the band count less the bands done, and 0 if the run is
  -- finished.
  abbrev pub LeftCounts : Type 0
  LeftCounts = (h : Handed) → StartAccepted h → (cs : List K.Call) → Unaltered K (start_state h) cs
      → let r = (end K (start_state h) cs).run in r.bands_left ≡ cond (finished r) 0 (band_count h.setup - count_below max_bands (is_done r))

  -- the record after any unaltered list of calls is valid
  abbrev pub EndFits : Type 0
  EndFits = (h : Handed) → StartAccepted h → (cs : List K.Call) → Unaltered K (start_state h) cs
      → let r = (end K (start_state h) cs).run in (r.setup ≡ h.setup) × T (run_fits r) × (length r.done ≡ max_bands)

-- the calls of Specification 13.7
abbrev pub LibraryCountRule : Type 0
LibraryCountRule = CountRule library_calls

-- ---- the records to which accepted calls lead

-- accepted calls return valid records
abbrev pub ReachedFits : Type 0
ReachedFits = (s : Setup) (r : Run) → T (setup_fits s) → Reached s r → T (run_fits r)

-- each valid record is reached from the one that start returns
abbrev pub FitsReached : Type 0
FitsReached = (r : Run) → length r.done ≡ max_bands → T (run_fits r) → Reached r.setup r

-- a list of calls (Specification 13.7) after an accepted start, all accepted and unaltered, that ends in record r
pub record LeadsTo (h : Handed) (cs : List LibraryCall) (r : Run) : Type 0 where
  pub accepted : AllAccepted library_calls cs
  pub unaltered : Unaltered library_calls (start_state h) cs
  pub ends : (end library_calls (start_state h) cs).run ≡ r

-- there is such a list for each valid record with that start's setup: the converse of EndFits
abbrev pub EachReached : Type 0
EachReached = (h : Handed) → StartAccepted h → (r : Run) → r.setup ≡ h.setup → T (run_fits r) → length r.done ≡ max_bands
    → (cs : List LibraryCall) × LeadsTo h cs r
