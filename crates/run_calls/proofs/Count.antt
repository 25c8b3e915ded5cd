-- A run with p passes and b bands is finished after exactly p × b accepted bands and p accepted advances, and its record has the number of
-- bands left. Assumes nothing.
use mathlib.Core.Path.{◌≡◌, refl, sym, ap, ◌∙◌}
use mathlib.Core.Bool.{Bool, true, false, cond}
use mathlib.Core.List.{List, [], ◌∷◌}
use Prim.Native.Nat.{ℕ, ◌+◌, ◌-◌, ◌*◌, ◌≤◌}
use native.Mathlib.Nat.{suc-mul}
use native.Mathlib.Omega.{arith}
use borrow.Author.Tests.{eqb-true, eq-eqb}
use lib.Dec.{T, eqb, eqb→eq}
use lib.ListN.{length}
use lib.Ieee.{Float}
use Rattle.run_setup.specs.declared.Setup.{Setup}
use Rattle.run_record.specs.declared.Run.{Run}
use Rattle.run_setup.specs.Setup.{pass_count, band_count}
use Rattle.run_record.specs.Record.{is_done, started, marked, advanced, finished, count_below}
use Rattle.run_record.proofs.Counts.{count-more, count-all, count-none, left-counted}
use Rattle.run_record.proofs.Done.{started_none, marked-same, marked_other, advanced-none}
use Rattle.refusals.proofs.Tables.{is_true}
use Rattle.run_setup.proofs.Laws.{setup-fits}
use Rattle.run_record.specs.RunFits.{RunFits}
use Rattle.run_outcomes.specs.Start.{start_leaves}
use Rattle.run_outcomes.specs.Band.{State}
use Rattle.run_outcomes.proofs.Laws.{BandFits, band-number, band-leaves, band-fits, AdvanceFits, advance-number, advance-leaves, advance-fits}
use Rattle.run_calls.specs.Calls.{start_state, Effect, one_band, one_advance, nothing, Calls, Effects, library_calls, state_after, end, Unaltered, bands_in, advances_in}
use Rattle.run_calls.proofs.Effects.{library_effect}
use Rattle.run_calls.specs.Rules.{CountRule, LibraryCountRule, LeftCounts}
use Rattle.run_calls.proofs.Sound.{Sound}
use Rattle.run_calls.proofs.Lists.{after_kept, start-state, start-sound, after-start}

-- ---- the record determines how many calls were accepted

none-counted : (f : ℕ → Bool) → ((k : ℕ) → f k ≡ false) → count_below 256 f ≡ 0
none-counted f o = count-none 256 f (λ k l. o k)

-- accepted bands so far: all bands of each completed pass, and those that are done
abbrev bands_done : Run → ℕ
bands_done r = r.pass * band_count r.setup + count_below 256 (is_done r)

-- record q follows record r after a accepted bands and b accepted advances
record Counted (r q : Run) (a b : ℕ) : Type 0 where
  bands : bands_done q ≡ bands_done r + a
  advances : q.pass ≡ r.pass + b

band-counted : (t : State) (k : ℕ) (f : BandFits t k) → length t.run.done ≡ 256 → Counted t.run (marked t.run k) 1 0
unfolding marked
band-counted t k f l =
    let c : band_count t.run.setup ≤ 256 = (setup-fits t.run.setup f.run.setup).count in
    let more = count-more 256 k (is_done t.run) (is_done (marked t.run k)) (omega (arith, f.band.below)) f.band.fresh (marked-same t.run k (omega (arith, f.band.below))) (λ j z. marked_other t.run k j z) in
    record { bands = omega (arith, more); advances = omega arith }

advance-counted : (r : Run) → AdvanceFits r → Counted r (advanced r) 0 1
unfolding advanced
advance-counted r f =
    let c : band_count r.setup ≤ 256 = (setup-fits r.setup f.run.setup).count in
    let all = count-all (band_count r.setup) 256 (is_done r) c f.pass.done (λ k l o. f.run.none-past-count k l (rw f.pass.unfinished o)) in
    record { bands = omega (arith, all, none-counted (is_done (advanced r)) (advanced-none r), suc-mul r.pass (band_count r.setup)); advances = omega arith }

effect-counted : {t : State} {a b : ℕ} {u : State} → Effect t a b u → length t.run.done ≡ 256 → Counted t.run u.run a b
effect-counted {t} (one_band k e) l = rw (band-leaves t k e) (band-counted t k (band-fits t k (sym (band-number t k) ∙ e)) l)
effect-counted {t} (one_advance e) l = rw (advance-leaves t.run e) (advance-counted t.run (advance-fits t.run (sym (advance-number t.run) ∙ e)))
effect-counted {t} nothing l = record { bands = omega arith; advances = omega arith }

module _ (K : Calls) (E : Effects K) (first : List Float) where
  next-counted : (t : State) (c : K.Call) → Sound first t → (K.number (K.answer c) ≡ 0 → K.Lent t c)
      → Counted t.run (state_after K t c).run (cond (eqb (K.number (K.answer c)) 0) (K.bands c) 0) (cond (eqb (K.number (K.answer c)) 0) (K.advances c) 0)
  unfolding state_after
  next-counted t c i l = go (eqb (K.number (K.answer c)) 0) refl
    where
      go : (b : Bool) → eqb (K.number (K.answer c)) 0 ≡ b → Counted t.run (cond b (K.leaves t (K.answer c)) t).run (cond b (K.bands c) 0) (cond b (K.advances c) 0)
      go true e = let z = eqb-true (K.number (K.answer c)) 0 e in effect-counted (E t c z (l z)) i.flags
      go false e = record { bands = omega arith; advances = omega arith }

  end-counted : (t : State) (cs : List K.Call) → Sound first t → Unaltered K t cs → Counted t.run (end K t cs).run (bands_in K cs) (advances_in K cs)
  unfolding end bands_in advances_in
  end-counted t [] i u = record { bands = omega arith; advances = omega arith }
  end-counted t (c ∷ cs) i u =
      let s = next-counted t c i u.0 in
      let r = end-counted (state_after K t c) cs (after_kept K E first t c i u.0).sound u.1 in
      record { bands = omega (arith, r.bands, s.bands); advances = omega (arith, r.advances, s.advances) }

-- a finished run has no done band
finished-bands_done : (r : Run) → RunFits r → T (finished r) → bands_done r ≡ r.pass * band_count r.setup
finished-bands_done r f z =
    let e : finished r ≡ true = is_true (finished r) z in
    let none = count-none 256 (is_done r) (λ k l. f.none-past-count k l (rw e (omega arith))) in
    omega arith

-- nor has a run just started
started-bands_done : (s : Setup) → (bands_done (started s) ≡ 0) × ((started s).pass ≡ 0)
unfolding started
started-bands_done s = (omega (arith, none-counted (is_done (started s)) (started_none s)), refl)

pub count-rule : (K : Calls) → Effects K → CountRule K
count-rule K E h e cs u =
    let s : Setup = h.setup in
    let kept = after-start K E h e cs u in
    let first : (bands_done (start_state h).run ≡ 0) × ((start_state h).run.pass ≡ 0) = rw (start-state h e) (started-bands_done s) in
    let c = end-counted K E (start_leaves h) (start_state h) cs (start-sound h e) u in
    let r : Run = (end K (start_state h) cs).run in
    let p : pass_count r.setup ≡ pass_count s = ap pass_count kept.setup in (
      λ z.
          let over : r.pass ≡ pass_count s = eqb→eq r.pass (pass_count r.setup) z ∙ p in
          let product : r.pass * band_count r.setup ≡ pass_count s * band_count s = rw (over, kept.setup) in
          (omega (arith, c.bands, first.0, finished-bands_done r kept.sound.run z), omega (arith, c.advances, first.1)),
      λ w. rw (eq-eqb r.pass (pass_count r.setup) (omega (arith, c.advances, first.1, w.1))) tt,
    )

pub library-count-rule : LibraryCountRule
library-count-rule = count-rule library_calls library_effect

-- the number of bands left in the record
pub left-counts : (K : Calls) → Effects K → LeftCounts K
left-counts K E h e cs u =
    let k = after-start K E h e cs u in
    let r : Run = (end K (start_state h) cs).run in
    left-counted r k.sound.run ∙ ap (λ (s : Setup). cond (finished r) 0 (band_count s - count_below 256 (is_done r))) k.setup
