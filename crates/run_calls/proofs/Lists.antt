-- Accepted calls of any kind keep the invariant that holds after start, and so do lists of them. Assumes nothing.
use mathlib.Core.Path.{◌≡◌, refl, sym, ap, ◌∙◌}
use mathlib.Core.Bool.{Bool, true, false, cond}
use mathlib.Core.List.{List, [], ◌∷◌}
use Prim.Native.Nat.{ℕ}
use borrow.Author.Tests.{eqb-true}
use lib.Dec.{eqb}
use lib.Ieee.{Float}
use Rattle.run_record.specs.Record.{started, marked, advanced}
use Rattle.run_record.proofs.Laws.{fits-run}
use Rattle.run_outcomes.specs.Start.{Handed, StartOutcome, start_leaves, sigmas_filled}
use Rattle.run_outcomes.specs.Band.{State}
use Rattle.run_outcomes.proofs.Laws.{PictureFits, picture-fits, start-picture, start-number, start-accepted, band-number, band-leaves, band-fits, advance-number, advance-leaves, advance-fits}
use Rattle.run_calls.specs.Calls.{StartAccepted, left_by_start, start_state, Effect, one_band, one_advance, nothing, Calls, Effects, state_after, end, Unaltered}
use Rattle.run_calls.specs.Theorem.{Unrefused}
use Rattle.run_calls.specs.States.{StateReached, from_start, by_effect, EndReached}
use Rattle.run_calls.specs.Rules.{EndFits}
use Rattle.run_calls.proofs.Sound.{Sound, begun, sound-start, sound-band, sound-advance}

-- ---- one call

-- state u follows state t
pub record Kept (first : List Float) (t u : State) : Type 0 where
  pub sound : Sound first u
  pub setup : u.run.setup ≡ t.run.setup
  pub sigmas : u.sigmas ≡ t.sigmas

pub effect-kept : {t : State} {a b : ℕ} {u : State} (first : List Float) → Effect t a b u → Sound first t → Kept first t u
unfolding marked advanced
effect-kept {t} first (one_band k e) i = rw (band-leaves t k e) (record { sound = sound-band first t k i (band-fits t k (sym (band-number t k) ∙ e)).band; setup = refl; sigmas = refl })
effect-kept {t} first (one_advance e) i = rw (advance-leaves t.run e) (record { sound = sound-advance first t i (advance-fits t.run (sym (advance-number t.run) ∙ e)).pass; setup = refl; sigmas = refl })
effect-kept {t} first nothing i = record { sound = i; setup = refl; sigmas = refl }

module _ (K : Calls) (E : Effects K) (first : List Float) where
  pub after_kept : (t : State) (c : K.Call) → Sound first t → (K.number (K.answer c) ≡ 0 → K.Lent t c) → Kept first t (state_after K t c)
  unfolding state_after
  after_kept t c i l = go (eqb (K.number (K.answer c)) 0) refl
    where
      go : (b : Bool) → eqb (K.number (K.answer c)) 0 ≡ b → Kept first t (cond b (K.leaves t (K.answer c)) t)
      go true e = let z = eqb-true (K.number (K.answer c)) 0 e in effect-kept first (E t c z (l z)) i
      go false e = record { sound = i; setup = refl; sigmas = refl }

-- ---- from the start on

pub start-unrefused : (h : Handed) → StartAccepted h → Unrefused h
start-unrefused h e = start-picture h (sym (start-number h) ∙ e)

pub picture-accepted : (h : Handed) → StartAccepted h → PictureFits h
picture-accepted h e = picture-fits h (start-unrefused h e)

-- the state after an accepted start
pub start-state : (h : Handed) → StartAccepted h → start_state h ≡ begun h
start-state h e = ap (λ (o : StartOutcome). left_by_start o h.second) (start-accepted h e)

pub start-sound : (h : Handed) → StartAccepted h → Sound (start_leaves h) (start_state h)
start-sound h e = rw (start-state h e) (sound-start h (picture-accepted h e))

-- a state that the calls after an accepted start lead to
pub record KeptFrom (h : Handed) (t : State) : Type 0 where
  pub sound : Sound (start_leaves h) t
  pub setup : t.run.setup ≡ h.setup
  pub sigmas : t.sigmas ≡ sigmas_filled h

start-kept : (h : Handed) → StartAccepted h → KeptFrom h (start_state h)
unfolding started
start-kept h e = record {
  sound = start-sound h e;
  setup = ap (λ (u : State). u.run.setup) (start-state h e);
  sigmas = ap (λ (u : State). u.sigmas) (start-state h e);
}

pub reached-kept : (h : Handed) → StartAccepted h → (t : State) → StateReached h t → KeptFrom h t
reached-kept h e t from_start = start-kept h e
reached-kept h e t (by_effect s u a b r f) =
    let k = reached-kept h e s r in
    let i = effect-kept (start_leaves h) f k.sound in
    record { sound = i.sound; setup = i.setup ∙ k.setup; sigmas = i.sigmas ∙ k.sigmas }

-- lists of calls lead to such states; refused calls among them change nothing
module _ (K : Calls) (E : Effects K) (h : Handed) where
  after-reached : (t : State) (c : K.Call) → StateReached h t → (K.number (K.answer c) ≡ 0 → K.Lent t c) → StateReached h (state_after K t c)
  unfolding state_after
  after-reached t c r l = go (eqb (K.number (K.answer c)) 0) refl
    where
      go : (b : Bool) → eqb (K.number (K.answer c)) 0 ≡ b → StateReached h (cond b (K.leaves t (K.answer c)) t)
      go true e = let z = eqb-true (K.number (K.answer c)) 0 e in by_effect t (K.leaves t (K.answer c)) (K.bands c) (K.advances c) r (E t c z (l z))
      go false e = r

  list-reached : (t : State) (cs : List K.Call) → StateReached h t → Unaltered K t cs → StateReached h (end K t cs)
  unfolding end
  list-reached t [] r u = r
  list-reached t (c ∷ cs) r u = list-reached (state_after K t c) cs (after-reached t c r u.0) u.1

pub end-reached : (K : Calls) → Effects K → EndReached K
end-reached K E h cs u = list-reached K E h (start_state h) cs from_start u

pub after-start : (K : Calls) → Effects K → (h : Handed) → StartAccepted h → (cs : List K.Call) → Unaltered K (start_state h) cs → KeptFrom h (end K (start_state h) cs)
after-start K E h e cs u = reached-kept h e _ (end-reached K E h cs u)

pub end_fits : (K : Calls) → Effects K → EndFits K
end_fits K E h e cs u =
    let k = after-start K E h e cs u in
    (k.setup, fits-run _ k.sound.run, k.sound.flags)
