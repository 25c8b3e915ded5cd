-- The passes of a run with one band: each is accepted, and after the last one the run is finished. Assumes nothing.
use mathlib.Core.Path.{◌≡◌, refl, sym, ap, ◌∙◌}
use mathlib.Core.Bool.{Bool, true, false, cond}
use mathlib.Core.List.{List}
use Prim.Native.Nat.{ℕ, zero, suc, ◌<◌, ◌≤◌}
use native.Mathlib.Omega.{arith}
use borrow.Author.Tests.{eq-eqb, ne_eqb}
use lib.Dec.{T}
use lib.ListN.{length}
use lib.Ieee.{Float}
use Rattle.planes.specs.Band.{passed}
use Rattle.planes.proofs.SetLaws.{length-set_of}
use Rattle.planes_layout.specs.Outcome.{layout_of}
use Rattle.run_setup.specs.declared.Setup.{Setup}
use Rattle.run_setup.specs.Setup.{pass_count, band_count, set_length, sigma_length}
use Rattle.run_record.specs.declared.Run.{Run}
use Rattle.run_record.specs.Record.{is_done, none_done, run_of, started, marked, advanced, finished}
use Rattle.run_record.specs.RunFits.{RunFits}
use Rattle.run_record.proofs.Laws.{Open, Over, started-fits, marked-fits, advanced-fits}
use Rattle.run_outcomes.specs.Start.{Handed, StartOutcome}
use Rattle.run_outcomes.specs.Band.{State, reads_first, banded, band_accepted, band_outcome, advance_outcome}
use Rattle.run_outcomes.proofs.Laws.{PictureFits, picture-fits, sigmas-length, leaves-length, start-picture, start-number, start-accepted, band-number, band-leaves, band-accepted, advance-number, advance-leaves, advance-accepted}
use Rattle.run_calls.specs.Calls.{StartAccepted, left_by_start, start_state, one_band, one_advance}
use Rattle.run_calls.specs.Theorem.{Unrefused}
use Rattle.run_calls.specs.States.{StateReached, from_start, by_effect}
use Rattle.loupe.specs.Outcome.{after_pass, after_passes}

-- the set that a band writes keeps its length
banded-length : (t : State) (k : ℕ) → length (banded t k) ≡ set_length t.run.setup
unfolding banded passed layout_of
banded-length t k = length-set_of t.run.setup.planes t.run.setup.image.width t.run.setup.image.height _

pub either-length : (b : Bool) (p q : List Float) (m : ℕ) → length p ≡ m → length q ≡ m → length (cond b p q) ≡ m
either-length true p q m e f = e
either-length false p q m e f = f

-- no band of a new pass is done, and band 0 is after it has run
first-fresh : (s : Setup) (k : ℕ) → is_done (run_of s k none_done) 0 ≡ false
unfolding is_done
first-fresh s k = refl

first_done : (s : Setup) (k j : ℕ) → j < 1 → is_done (marked (run_of s k none_done) 0) j ≡ true
unfolding is_done marked
first_done s k zero l = refl
first_done s k (suc j) l = absurd (omega arith)

module _ (h : Handed) (accepted : StartAccepted h) where
  abbrev s : Setup
  s = h.setup

  pub unrefused : Unrefused h
  unrefused = start-picture h (sym (start-number h) ∙ accepted)

  pub handed-fits : PictureFits h
  handed-fits = picture-fits h unrefused

  -- a state of the run after k passes
  pub record After (k : ℕ) (t : State) : Type 0 where
    pub reached : StateReached h t
    pub run : t.run ≡ run_of s k none_done
    pub fits : RunFits t.run
    pub first-length : length t.first ≡ set_length s
    pub second-length : length t.second ≡ set_length s
    pub sigma-length : length t.sigmas ≡ sigma_length s

  pub begun : After 0 (start_state h)
  unfolding started
  begun =
      let e = ap (λ (o : StartOutcome). left_by_start o h.second) (start-accepted h accepted) in
      record {
        reached = from_start;
        run = ap (λ (t : State). t.run) e;
        fits = rw e (started-fits s handed-fits.setup);
        first-length = ap (λ (t : State). length t.first) e ∙ leaves-length h ∙ handed-fits.first;
        second-length = handed-fits.second;
        sigma-length = ap (λ (t : State). length t.sigmas) e ∙ sigmas-length h handed-fits;
      }

  module _ (one : band_count s ≡ 1) (k : ℕ) (left : k < pass_count s) (t : State) (a : After k t) where
    setup-is : t.run.setup ≡ s
    setup-is = ap (λ (r : Run). r.setup) a.run

    unfinished : finished t.run ≡ false
    unfinished = rw a.run (ne_eqb k (pass_count s) (λ e. omega arith))

    open-band : Open t.run 0
    open-band = record { unfinished = unfinished; below = rw (setup-is, one) (omega arith); fresh = ap (λ (r : Run). is_done r 0) a.run ∙ first-fresh s k }

    taken : (band_outcome t 0).number ≡ 0
    taken =
        band-number t 0
        ∙ band-accepted t 0 (rw setup-is a.first-length) (rw setup-is a.second-length) (rw setup-is a.sigma-length) a.fits open-band

    abbrev u : State
    u = (band_outcome t 0).state

    state-is : u ≡ band_accepted t 0
    state-is = band-leaves t 0 taken

    run_is : u.run ≡ marked t.run 0
    run_is = ap (λ (t : State). t.run) state-is

    fits-marked : RunFits u.run
    fits-marked = rw run_is (marked-fits t.run 0 a.fits open-band)

    all_done : Over (marked t.run 0)
    unfolding marked
    all_done = record { unfinished = unfinished; done = λ j l. ap (λ (r : Run). is_done (marked r 0) j) a.run ∙ first_done s k j (rw (setup-is, one) at l) }

    over : (advance_outcome u.run).number ≡ 0
    over = advance-number u.run ∙ advance-accepted u.run fits-marked (rw run_is all_done)

    run-next : (advance_outcome u.run).run ≡ advanced u.run
    run-next = advance-leaves u.run over

    written-length : length (banded t 0) ≡ set_length s
    written-length = banded-length t 0 ∙ ap (λ (s : Setup). set_length s) setup-is

    next : After (suc k) (after_pass t)
    unfolding after_pass marked advanced
    next = record {
      reached = by_effect u _ 0 1 (by_effect t u 1 0 a.reached (one_band 0 taken)) (one_advance over);
      run = run-next ∙ ap advanced (run_is ∙ ap (λ (r : Run). marked r 0) a.run);
      fits = rw run-next (advanced-fits u.run fits-marked (rw run_is all_done));
      first-length = ap (λ (t : State). length t.first) state-is ∙ either-length (reads_first t.run) t.first (banded t 0) _ a.first-length written-length;
      second-length = ap (λ (t : State). length t.second) state-is ∙ either-length (reads_first t.run) (banded t 0) t.second _ written-length a.second-length;
      sigma-length = ap (λ (t : State). length t.sigmas) state-is ∙ a.sigma-length;
    }

  pub after-passes : band_count s ≡ 1 → (k : ℕ) → k ≤ pass_count s → After k (after_passes k (start_state h))
  unfolding after_passes
  after-passes one zero l = begun
  after-passes one (suc k) l = next one k l (after_passes k (start_state h)) (after-passes one k (omega arith))

  pub ended : band_count s ≡ 1 → (t : State) → After (pass_count s) t → T (finished t.run)
  ended one t a = rw (a.run, eq-eqb (pass_count s) (pass_count s) refl) tt
