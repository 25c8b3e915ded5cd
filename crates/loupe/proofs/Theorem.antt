-- The outcome of a call of `loupe_smooth` from those of its parts, and that an accepted one has the whole picture's samples. Assumes
-- nothing.
use mathlib.Core.Path.{◌≡◌, refl, sym, ap, ◌∙◌}
use mathlib.Core.Bool.{Bool, true, false, true≢false, cond, not, ◌&&◌}
use Prim.Native.Nat.{ℕ, ◌%◌}
use borrow.Author.Tests.{eqb-true, eqb-false, eq-eqb, ne_eqb}
use lib.Dec.{eqb, eqb→eq}
use lib.ListN.{length}
use Rattle.refusals.proofs.Tables.{met-given}
use Rattle.planes.specs.Band.{planes_fit}
use Rattle.refusals.proofs.Rows.{here, below, row-passed, or_else}
use Rattle.run_outcomes.specs.Start.{start_number, start_outcome}
use Rattle.run_record.specs.declared.Run.{Run}
use Rattle.run_outcomes.specs.Band.{reads_first}
use Rattle.run_outcomes.proofs.Laws.{start-number, start-refused}
use Rattle.run_calls.specs.Calls.{StartAccepted, start_state}
use Rattle.loupe_region.specs.Fits.{WantedFits}
use Rattle.loupe_region.specs.Outcome.{regions_in_limits, wanted_inside, widened_region}
use Rattle.loupe.specs.Outcome.{LoupeHanded, LoupeOutcome, run_setup_of, as_run, final_state, wanted_length, wanted_samples, slice_length, loupe_number, loupe_accepted, loupe_refused, loupe_outcome}
use Rattle.loupe.specs.Pieces.{early_checks, passed_outcome}
use Rattle.loupe.specs.Whole.{WholeEqual, LoupeTheorem}
use Rattle.loupe.proofs.Numbers.{early, parted}
use Rattle.loupe.proofs.Early.{wanted-passed}
use Rattle.loupe.proofs.Samples.{after}
use Rattle.loupe.proofs.Copy.{few, copied-wanted, wanted-whole}
use Rattle.loupe.proofs.Passes.{begun}
use Rattle.run_setup.specs.Setup.{pass_count}

both-none : (a b : ℕ) → or_else a b ≡ 0 → (a ≡ 0) × (b ≡ 0)
both-none a b e = go (eqb a 0) refl e
  where
    go : (t : Bool) → eqb a 0 ≡ t → cond t b a ≡ 0 → (a ≡ 0) × (b ≡ 0)
    go true p q = (eqb-true a 0 p, q)
    go false p q = absurd (eqb-false a 0 p q)

met-unless : (g i : Bool) → ((not (g && i) && true) && true) ≡ false → (not g ≡ false) × (not i ≡ false)
met-unless true true e = (refl, refl)
met-unless true false e = absurd (true≢false e)
met-unless false i e = absurd (true≢false e)

module _ (h : LoupeHanded) where
  -- ---- an accepted call

  record Taken : Type 0 where
    wanted : WantedFits h.setup.whole h.setup.wanted
    room : length h.out ≡ wanted_length h.setup

  taken_of : early h ≡ 0 → StartAccepted (as_run h) → Taken
  unfolding early_checks
  taken_of e f =
      let passed = row-passed (early_checks h.setup h.frame h.table h.grids (length h.sigmas) (length h.out)) tt e in
      record {
        wanted = wanted-passed h.setup (passed (regions_in_limits h.setup) here) (passed (wanted_inside h.setup) (search (here, below) depth 20));
        room = eqb→eq (length h.out) (wanted_length h.setup) (met-given (planes_fit h.setup.planes) (eqb (length h.out) (wanted_length h.setup)) (passed (slice_length h) (search (here, below) depth 20)) (few h f));
      }

  accepted-number : early h ≡ 0 → (start_outcome (as_run h)).answer.number ≡ 0 → loupe_number h ≡ 0
  accepted-number e f = parted h ∙ rw (e, sym (start-number (as_run h)) ∙ f)

  -- the set that a next pass would read
  read-last : (w : WantedFits h.setup.whole h.setup.wanted) (f : StartAccepted (as_run h)) → reads_first (final_state h).run ≡ eqb (pass_count (run_setup_of h.setup) % 2) 0
  unfolding reads_first
  read-last w f = ap (λ (r : Run). reads_first r) (after h w f).run

  pub accepted-outcome : early h ≡ 0 → (start_outcome (as_run h)).answer.number ≡ 0
      → passed_outcome (pass_count (run_setup_of h.setup)) (start_state (as_run h)) (widened_region h.setup) h.setup.wanted h.out ≡ loupe_outcome h
  unfolding loupe_outcome passed_outcome
  accepted-outcome e f =
      let t = taken_of e f in
      rw (eq-eqb (loupe_number h) 0 (accepted-number e f), ← read-last t.wanted f, ap (λ (r : Run). r.setup.planes) (begun (as_run h) f).run, copied-wanted h t.wanted f t.room)

  -- ---- a refused one

  pub refused-early : (early h ≡ 0 → ⊥) → loupe_refused (early h) h ≡ loupe_outcome h
  unfolding loupe_outcome
  refused-early e =
      let q : loupe_number h ≡ early h = parted h ∙ rw (ne_eqb (early h) 0 e) in
      let z : eqb (early h) 0 ≡ false = ne_eqb (early h) 0 e in
      rw (q, z)

  pub refused-start : early h ≡ 0 → ((start_outcome (as_run h)).answer.number ≡ 0 → ⊥)
      → ◌≡◌ {A = LoupeOutcome} (record {
        number = (start_outcome (as_run h)).answer.number;
        first = (start_outcome (as_run h)).first;
        second = h.second;
        sigmas = (start_outcome (as_run h)).sigmas;
        out = h.out;
      }) (loupe_outcome h)
  unfolding loupe_outcome
  refused-start e f =
      let q : loupe_number h ≡ start_number (as_run h) = parted h ∙ rw e in
      let z : eqb (start_number (as_run h)) 0 ≡ false = ne_eqb (start_number (as_run h)) 0 (λ k. f (start-number (as_run h) ∙ k)) in
      rw (start-refused (as_run h) f, q, z)

  -- ---- the theorem

  number_is : (loupe_outcome h).number ≡ loupe_number h
  unfolding loupe_outcome
  number_is = go (eqb (loupe_number h) 0) refl
    where
      go : (b : Bool) → eqb (loupe_number h) 0 ≡ b → (cond b (loupe_accepted h) (loupe_refused (loupe_number h) h)).number ≡ loupe_number h
      go true e = sym (eqb-true (loupe_number h) 0 e)
      go false e = refl

  out-is : loupe_number h ≡ 0 → (loupe_outcome h).out ≡ wanted_samples h
  unfolding loupe_outcome
  out-is e = rw (eq-eqb (loupe_number h) 0 e)

  whole-equal : WholeEqual h (loupe_outcome h).number (loupe_outcome h).out
  whole-equal z whole part c x y l held =
      let e : loupe_number h ≡ 0 = sym number_is ∙ z in
      let b = both-none (early h) (start_number (as_run h)) (sym (parted h) ∙ e) in
      let f : StartAccepted (as_run h) = start-number (as_run h) ∙ b.1 in
      rw (out-is e) (wanted-whole h (taken_of b.0 f).wanted f whole part c x y l held)

pub loupe-theorem : LoupeTheorem
loupe-theorem h = whole-equal h

-- the same of any answer that is the outcome
pub answer-whole : (h : LoupeHanded) (o : LoupeOutcome) → o ≡ loupe_outcome h → WholeEqual h o.number o.out
answer-whole h o e = rw e (loupe-theorem h)
