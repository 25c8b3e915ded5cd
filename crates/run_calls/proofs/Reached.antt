-- Accepted calls lead exactly to the valid records, and each of these has a list of accepted calls. Assumes nothing.
use mathlib.Core.Path.{◌≡◌, refl, sym, ap, subst, ◌∙◌}
use mathlib.Core.Bool.{Bool, true, false, false≢true, cond}
use mathlib.Core.List.{List, [], ◌∷◌, ◌++◌}
use mathlib.Core.Logic.{◌⊎◌, inl, inr}
use Prim.Native.Nat.{ℕ, zero, suc, ◌<◌, ◌≤◌}
use native.Mathlib.Nat.{eq-or-lt_of_le, le_of_suc-le-suc}
use native.Mathlib.Decide.{dec_lt}
use native.Mathlib.Omega.{arith}
use borrow.Author.Tests.{eqb-true, eqb-false, eq-eqb, ne_eqb}
use lib.Dec.{T, eqb, eqb_refl}
use lib.ListN.{length, get_or, set, replicate, length-set, length-replicate, get_or-replicate}
use lib.Seq.{get_or-set_same, get_or-set_other, ext_get_or}
use Rattle.refusals.specs.Flags.{flag_set}
use Rattle.run_setup.specs.declared.Setup.{Setup}
use Rattle.run_record.specs.declared.Run.{Run}
use Rattle.run_setup.specs.Setup.{pass_count, band_count, setup_fits}
use Rattle.run_record.specs.Record.{is_done, none_done, run_of as at, started, marked, advanced, finished, Reached, at_start, by_band, by_advance}
use Rattle.run_setup.specs.SetupFits.{SetupFits}
use Rattle.run_setup.proofs.Laws.{setup-fits}
use Rattle.run_record.specs.RunFits.{RunFits}
use Rattle.run_record.proofs.Laws.{run_fits_lem, fits-run, none_done_lem, started-fits, marked-fits, advanced-fits, Open, band-open, open-band, Over, pass-over, over-pass}
use Rattle.run_outcomes.specs.Start.{Handed, start_leaves}
use Rattle.run_outcomes.specs.Band.{State}
use Rattle.run_outcomes.proofs.Laws.{band-number, band-leaves, band-accepted, advance-number, advance-leaves, advance-accepted}
use Rattle.run_calls.specs.Calls.{StartAccepted, start_state, LibraryCall, band, advance, Calls, library_calls, state_after, end, Unaltered, AllAccepted}
use Rattle.run_calls.proofs.Effects.{library_effect}
use Rattle.run_calls.specs.Rules.{ReachedFits, FitsReached, LeadsTo, EachReached, CanFinish}
use Rattle.run_calls.proofs.Sound.{Sound}
use Rattle.run_calls.proofs.Lists.{picture-accepted, start-state, after-start}

-- ---- accepted calls return valid records

reached : (s : Setup) → T (setup_fits s) → (r : Run) → Reached s r → RunFits r
reached s t r at_start = started-fits s t
reached s t r (by_band q k h e) = marked-fits q k (reached s t q h) (band-open q k e)
reached s t r (by_advance q h e) = advanced-fits q (reached s t q h) (pass-over q e)

pub reached-fits : ReachedFits
reached-fits s r t h = fits-run r (reached s t r h)

-- ---- each valid record is reached

-- the flags of l below m, and 0 from m on
unfoldable part : List ℕ → ℕ → List ℕ
part l zero = none_done
part l (suc m) = cond (flag_set (get_or l m 0)) (set (part l m) m 1) (part l m)

length_part : (l : List ℕ) (m : ℕ) → length (part l m) ≡ 256
unfolding part
length_part l zero = length-replicate {A = ℕ} 256 0
length_part l (suc m) = go (flag_set (get_or l m 0)) (length_part l m)
  where
    go : (b : Bool) → length (part l m) ≡ 256 → length (cond b (set (part l m) m 1) (part l m)) ≡ 256
    go true e = length-set (part l m) m 1 ∙ e
    go false e = e

part-above : (l : List ℕ) (m k : ℕ) → m ≤ k → get_or (part l m) k 0 ≡ 0
unfolding part
part-above l zero k h = none_done_lem k
part-above l (suc m) k h = go (flag_set (get_or l m 0)) (part-above l m k (omega arith))
  where
    go : (b : Bool) → get_or (part l m) k 0 ≡ 0 → get_or (cond b (set (part l m) m 1) (part l m)) k 0 ≡ 0
    go true e = get_or-set_other (part l m) m k 1 0 (λ (z : k ≡ m). omega arith) ∙ e
    go false e = e

flag-none : (f : ℕ) → f ≤ 1 → flag_set f ≡ false → f ≡ 0
flag-none f h e = let n = eqb-false f 1 e in omega arith

-- 256 flags are each 0 or 1
abbrev Flags : List ℕ → Type 0
Flags l = (k : ℕ) → k < 256 → get_or l k 0 ≤ 1

part-below : (l : List ℕ) → Flags l → (m k : ℕ) → m ≤ 256 → k < m → get_or (part l m) k 0 ≡ get_or l k 0
unfolding part
part-below l f zero k b h = absurd (omega arith)
part-below l f (suc m) k b h = go (flag_set (get_or l m 0)) refl (λ (p : k < m). part-below l f m k (omega arith) p) (eq-or-lt_of_le (le_of_suc-le-suc h))
  where
    go : (v : Bool) → flag_set (get_or l m 0) ≡ v → (k < m → get_or (part l m) k 0 ≡ get_or l k 0) → k ≡ m ⊎ k < m
        → get_or (cond v (set (part l m) m 1) (part l m)) k 0 ≡ get_or l k 0
    go true e ih (inl z) = rw z (get_or-set_same (part l m) m 1 0 (omega (arith, length_part l m)) ∙ sym (eqb-true (get_or l m 0) 1 e))
    go true e ih (inr p) = get_or-set_other (part l m) m k 1 0 (λ (z : k ≡ m). omega arith) ∙ ih p
    go false e ih (inl z) = rw z (part-above l m m (omega arith) ∙ sym (flag-none (get_or l m 0) (f m (omega arith)) e))
    go false e ih (inr p) = ih p

-- all flags
part-whole : (l : List ℕ) → Flags l → length l ≡ 256 → part l 256 ≡ l
part-whole l f e = ext_get_or 0 (part l 256) l (length_part l 256 ∙ sym e) (λ k h. part-below l f 256 k (omega arith) (omega (arith, length_part l 256)))

-- the bands of a pass whose flags l has set, one after another
marks : (s : Setup) (p : ℕ) (l : List ℕ) → eqb p (pass_count s) ≡ false → Reached s (at s p none_done)
    → (m : ℕ) → m ≤ 256 → ((k : ℕ) → k < m → flag_set (get_or l k 0) ≡ true → k < band_count s) → Reached s (at s p (part l m))
unfolding part marked is_done
marks s p l e h zero b f = h
marks s p l e h (suc m) b f = go (flag_set (get_or l m 0)) refl (marks s p l e h m (omega arith) (λ k q. f k (omega arith)))
  where
    go : (v : Bool) → flag_set (get_or l m 0) ≡ v → Reached s (at s p (part l m)) → Reached s (at s p (cond v (set (part l m) m 1) (part l m)))
    go true z r = by_band (at s p (part l m)) m r (open-band (at s p (part l m)) m (record { unfinished = e; below = f m (omega arith) z; fresh = rw (part-above l m m (omega arith)) }))
    go false z r = r

-- a whole pass, and all passes before a pass
module _ (s : Setup) (fits : SetupFits s) where
  whole-pass : (p : ℕ) → eqb p (pass_count s) ≡ false → Reached s (at s p none_done) → Reached s (at s (suc p) none_done)
  unfolding advanced is_done
  whole-pass p e h =
      let b : ℕ = band_count s in
      let l : List ℕ = replicate 256 1 in
      let one : (k : ℕ) → k < 256 → get_or l k 0 ≡ 1 = λ k h. get_or-replicate 256 k 1 0 h in
      let r = marks s p l e h b fits.count (λ k q z. q) in
      by_advance (at s p (part l b)) r (over-pass (at s p (part l b)) (record {
        unfinished = e;
        done = λ k q. rw (part-below l (λ k h. rw (one k h) (omega arith)) b k fits.count q, one k (omega (arith, fits.count)));
      }))

  passes-before : (p : ℕ) → p ≤ pass_count s → Reached s (at s p none_done)
  unfolding started
  passes-before zero h = at_start
  passes-before (suc p) h = whole-pass p (ne_eqb p (pass_count s) (λ (e : p ≡ pass_count s). omega arith)) (passes-before p (omega arith))

pub fits-reached : FitsReached
unfolding is_done
fits-reached r e t = subst (λ (q : Run). Reached r.setup q) same (go (finished r) refl)
  where
    f : RunFits r
    f = run_fits_lem r t

    -- its number of bands left is the one that its flags give
    same : at r.setup r.pass r.done ≡ r
    same = rw (← f.left) refl

    fresh : Reached r.setup (at r.setup r.pass none_done)
    fresh = passes-before r.setup (setup-fits r.setup f.setup) r.pass f.pass

    zero-at : finished r ≡ true → (k : ℕ) → k < 256 → get_or r.done k 0 ≡ 0
    zero-at z k l = flag-none (get_or r.done k 0) (f.flag k l) (f.none-past-count k l (rw z (omega arith)))

    go : (b : Bool) → finished r ≡ b → Reached r.setup (at r.setup r.pass r.done)
    go true z =
        let none : none_done ≡ r.done = ext_get_or 0 none_done r.done (length-replicate {A = ℕ} 256 0 ∙ sym e) (λ k l. none_done_lem k ∙ sym (zero-at z k (omega (arith, length-replicate {A = ℕ} 256 0)))) in
        subst (λ (l : List ℕ). Reached r.setup (at r.setup r.pass l)) none fresh
    go false z =
        let low : (k : ℕ) → k < 256 → flag_set (get_or r.done k 0) ≡ true → k < band_count r.setup = λ k l d. below_of k l d in
        subst (λ (l : List ℕ). Reached r.setup (at r.setup r.pass l)) (part-whole r.done f.flag e) (marks r.setup r.pass r.done z fresh 256 (omega arith) low)
      where
        below_of : (k : ℕ) → k < 256 → flag_set (get_or r.done k 0) ≡ true → k < band_count r.setup
        below_of k l d = at-dec (dec_lt k (band_count r.setup))
          where
            at-dec : Dec (k < band_count r.setup) → k < band_count r.setup
            at-dec (yes p) = p
            at-dec (no p) = let o : band_count r.setup ≤ k = omega arith in absurd (false≢true (sym (f.none-past-count k l (rw z o)) ∙ d))

-- ---- lists of accepted calls

-- one more call
module _ (K : Calls) (c : K.Call) (ok : K.number (K.answer c) ≡ 0) where
  after-accepted : (t : State) → state_after K t c ≡ K.leaves t (K.answer c)
  unfolding state_after
  after-accepted t = rw (eq-eqb (K.number (K.answer c)) 0 ok)

  end_more : (t : State) (cs : List K.Call) → end K t (cs ++ (c ∷ [])) ≡ K.leaves (end K t cs) (K.answer c)
  unfolding end
  end_more t [] = after-accepted t
  end_more t (d ∷ cs) = end_more (state_after K t d) cs

  unaltered-more : (t : State) (cs : List K.Call) → Unaltered K t cs → K.Lent (end K t cs) c → Unaltered K t (cs ++ (c ∷ []))
  unfolding end
  unaltered-more t [] u l = (λ e. l, tt)
  unaltered-more t (d ∷ cs) u l = (u.0, unaltered-more (state_after K t d) cs u.1 l)

  accepted-more : (cs : List K.Call) → AllAccepted K cs → AllAccepted K (cs ++ (c ∷ []))
  accepted-more [] a = (ok, tt)
  accepted-more (d ∷ cs) a = (a.0, accepted-more cs a.1)

module _ (h : Handed) (start : StartAccepted h) where
  more : (cs : List LibraryCall) (q : Run) (c : LibraryCall) (r : Run) → LeadsTo h cs q → library_calls.number (library_calls.answer c) ≡ 0
      → library_calls.Lent (end library_calls (start_state h) cs) c → (library_calls.leaves (end library_calls (start_state h) cs) (library_calls.answer c)).run ≡ r
      → (ds : List LibraryCall) × LeadsTo h ds r
  more cs q c r l ok lent ends = (
    cs ++ (c ∷ []),
    record {
      accepted = accepted-more library_calls c ok cs l.accepted;
      unaltered = unaltered-more library_calls c ok (start_state h) cs l.unaltered lent;
      ends = ap (λ (t : State). t.run) (end_more library_calls c ok (start_state h) cs) ∙ ends;
    },
  )

  leads : (r : Run) → Reached h.setup r → (cs : List LibraryCall) × LeadsTo h cs r
  unfolding end
  leads r at_start = ([], record { accepted = tt; unaltered = tt; ends = ap (λ (t : State). t.run) (start-state h start) })
  leads r (by_band q k w e) =
      let l = leads q w in
      let t : State = end library_calls (start_state h) l.0 in
      let i : Sound (start_leaves h) t = (after-start library_calls library_effect h start l.0 l.1.unaltered).sound in
      let same : t.run ≡ q = l.1.ends in
      let o : Open t.run k = rw same (band-open q k e) in
      let taken = band-number t k ∙ band-accepted t k i.first-length i.second-length i.sigma-length i.run o in
      more l.0 q (band t k) (marked q k) l.1 taken refl (ap (λ (u : State). u.run) (band-leaves t k taken) ∙ ap (λ (z : Run). marked z k) same)
  leads r (by_advance q w e) =
      let l = leads q w in
      let t : State = end library_calls (start_state h) l.0 in
      let i : Sound (start_leaves h) t = (after-start library_calls library_effect h start l.0 l.1.unaltered).sound in
      let same : t.run ≡ q = l.1.ends in
      let o : Over t.run = rw same (pass-over q e) in
      let taken = advance-number t.run ∙ advance-accepted t.run i.run o in
      more l.0 q (advance t.run) (advanced q) l.1 taken refl (advance-leaves t.run taken ∙ ap advanced same)

pub each-reached : EachReached
each-reached h start r e t l = leads h start r (subst (λ (s : Setup). Reached s r) e (fits-reached r l t))

-- the record of a finished run
pub can-finish : CanFinish
unfolding is_done
can-finish h start =
    let s : Setup = h.setup in
    let r : Run = at s (pass_count s) none_done in
    let fits : RunFits r = record { setup = (picture-accepted h start).setup; pass = omega arith; flag = λ k l. rw (none_done_lem k) (omega arith); none-past-count = λ k l o. rw (none_done_lem k); left = refl } in
    let w = each-reached h start r refl (fits-run r fits) (length-replicate {A = ℕ} 256 0) in
    (w.0, w.1.unaltered, rw w.1.ends (eqb_refl (pass_count s)))
