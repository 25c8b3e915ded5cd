-- Laws of the checks of a table. Assumes nothing.
use mathlib.Core.Path.{◌≡◌, refl, sym, ◌∙◌}
use mathlib.Core.Bool.{Bool, true, false, cond, not}
use mathlib.Core.List.{List}
use Prim.Native.Nat.{ℕ, zero, suc, ◌+◌, ◌≤◌, ◌<◌}
use native.Mathlib.Omega.{arith}
use borrow.Author.Tests.{ltb-true, ltb-false, lt-ltb, le-ltb, eq-eqb, ne_eqb}
use lib.Dec.{T, ltb, eqb}
use lib.ListN.{length}
use lib.Ieee.Fits.{and_l, and_r, and_i}
use Rattle.std.specs.Prelude.{Result, Ok, Err}
use Rattle.refusals.specs.Checks.{first_of}
use Rattle.refusals.specs.Refusals.{refusal_number as number, IsOutcome}
use Rattle.refusals.specs.declared.Refusal.{Refusal}
use Rattle.refusals.proofs.Outcomes.{number-nonzero}
use Rattle.refusals.proofs.Tables.{is_true, of-true, met, numbered, zero-none}
use Rattle.refusals.proofs.Rows.{joined-passed, joined-refused}
use Rattle.planes.specs.Band.{planes_fit}
use Rattle.planes.proofs.Stored.{planes-few}
use Rattle.region.specs.declared.Region.{Region}
use Rattle.region.specs.Measures.{picture_fits}
use Rattle.cut_file.specs.declared.CutTable.{CutTable}
use Rattle.cut_file.specs.File.{max_file, file_length, file_of}
use Rattle.cut_file.specs.Read.{bad_count}
use Rattle.cut_file.specs.Write.{rectangle, rectangles_fit, samples_before, table_checks, length_checks, write_checks}
use Rattle.cut_file.proofs.Laws.{count-range}
use Rattle.cut_write.specs.Fits.{TableFits}
use Rattle.cut_write.specs.Outcome.{length_answer_of, length_outcome, WriteOutcome, write_outcome}

-- ---- all rectangles within the limits

module _ (rs : ℕ → Region) where
  pub each_fits : (n i : ℕ) → T (rectangles_fit rs n) → i < n → T (picture_fits (rs i))
  unfolding rectangles_fit
  each_fits zero i t l = absurd (omega arith)
  each_fits (suc n) i t l = go (λ h. each_fits n i (and_l (rectangles_fit rs n) (picture_fits (rs n)) t) h) (ltb i n) refl
    where
      go : (i < n → T (picture_fits (rs i))) → (b : Bool) → ltb i n ≡ b → T (picture_fits (rs i))
      go before true e = before (ltb-true i n e)
      go before false e =
          let h : n ≤ i = ltb-false i n e in
          let s : i ≡ n = omega arith in
          rw s (and_r (rectangles_fit rs n) (picture_fits (rs n)) t)

  pub one-misfits : (n i : ℕ) → i < n → picture_fits (rs i) ≡ false → rectangles_fit rs n ≡ false
  one-misfits n i l f = go (rectangles_fit rs n) refl
    where
      go : (b : Bool) → rectangles_fit rs n ≡ b → b ≡ false
      go false e = refl
      go true e = absurd (rw f at (each_fits n i (of-true (rectangles_fit rs n) e) l))

  pub one_more : (i : ℕ) → T (rectangles_fit rs i) → picture_fits (rs i) ≡ true → T (rectangles_fit rs (i + 1))
  unfolding rectangles_fit
  one_more i t f =
      let s : i + 1 ≡ suc i = omega arith in
      rw s (and_i (rectangles_fit rs i) (picture_fits (rs i)) t (of-true (picture_fits (rs i)) f))

-- ---- the number of a table

module _ (t : CutTable) where
  pub count-refused : bad_count t.count ≡ true → first_of (table_checks t) ≡ 12
  unfolding table_checks
  count-refused e = rw e

  pub limits-refused : bad_count t.count ≡ false → rectangles_fit (rectangle t) t.count ≡ false → first_of (table_checks t) ≡ 4
  unfolding table_checks
  limits-refused e f = rw (e, f)

  pub table-accepted : bad_count t.count ≡ false → rectangles_fit (rectangle t) t.count ≡ true → first_of (table_checks t) ≡ 0
  unfolding table_checks
  table-accepted e f = rw (e, f)

  numbers : T (numbered (table_checks t))
  unfolding table_checks
  numbers = tt

-- ---- the number of planes

pub planes-good : (fits : Bool) → ◌≡◌ {A = ℕ} 0 (cond fits 0 9) → fits ≡ true
planes-good true e = refl
planes-good false e = absurd (omega arith)

pub planes-bad : (fits : Bool) (e : Refusal) → number e ≡ cond fits 0 9 → (fits ≡ false) × (number e ≡ 9)
planes-bad true e n = absurd (number-nonzero e n)
planes-bad false e n = (refl, n)

module _ (planes : ℕ) (t : CutTable) where
  pub table_fits_lem : (len : ℕ) → first_of (table_checks t) ≡ 0 → planes_fit planes ≡ true → len ≡ file_length planes (rectangle t) t.count → len ≤ max_file → TableFits planes t len
  unfolding table_checks
  table_fits_lem len z p e l =
      let n = zero-none (table_checks t) (numbers t) z in
      record {
        few-planes = (planes-few planes p).1;
        count-le = (count-range t.count n.0).1;
        rectangles-fit = is_true (rectangles_fit (rectangle t) t.count) (met (rectangles_fit (rectangle t) t.count) n.1.0);
        length-is = e;
        length-le = l;
      }

  -- ---- the number of a length

  pub length-table : (n : ℕ) → first_of (table_checks t) ≡ n → (n ≡ 0 → ⊥) → first_of (length_checks planes t) ≡ n
  unfolding length_checks
  length-table n p h = joined-refused (table_checks t) _ (numbers t) (λ z. h (sym p ∙ z)) ∙ p

  pub length-planes : first_of (table_checks t) ≡ 0 → planes_fit planes ≡ false → first_of (length_checks planes t) ≡ 9
  unfolding length_checks
  length-planes p e = joined-passed (table_checks t) _ (numbers t) p ∙ rw e

  pub length-long : first_of (table_checks t) ≡ 0 → planes_fit planes ≡ true → max_file < file_length planes (rectangle t) t.count → first_of (length_checks planes t) ≡ 7
  unfolding length_checks
  length-long p e l = joined-passed (table_checks t) _ (numbers t) p ∙ rw (e, lt-ltb max_file (file_length planes (rectangle t) t.count) l)

  pub length-accepted : first_of (table_checks t) ≡ 0 → planes_fit planes ≡ true → file_length planes (rectangle t) t.count ≤ max_file → first_of (length_checks planes t) ≡ 0
  unfolding length_checks
  length-accepted p e l = joined-passed (table_checks t) _ (numbers t) p ∙ rw (e, le-ltb max_file (file_length planes (rectangle t) t.count) l)

  -- ---- the answer at the C boundary

  pub length_answer : (r : Result ℕ Refusal) → IsOutcome r (first_of (length_checks planes t)) (file_length planes (rectangle t) t.count) → length_answer_of r ≡ length_outcome t planes
  unfolding length_outcome
  length_answer (Ok n) (e, v) = rw (sym e) (λ j. record { number = 0; length = v j })
  length_answer (Err x) (e, v) = rw (sym e, ne_eqb (number x) 0 (number-nonzero x))

-- ---- the number of a call that writes

either : (x : Bool) → ◌≡◌ {A = ℕ} (cond x 7 7) 7
either true = refl
either false = refl

module _ (planes : ℕ) (t : CutTable) (a b : ℕ) where
  pub write-table : (n : ℕ) → first_of (table_checks t) ≡ n → (n ≡ 0 → ⊥) → first_of (write_checks planes t a b) ≡ n
  unfolding write_checks
  write-table n p h = joined-refused (table_checks t) _ (numbers t) (λ z. h (sym p ∙ z)) ∙ p

  -- a table that is accepted
  module _ (p : first_of (table_checks t) ≡ 0) where
    pub write-long : max_file < b → first_of (write_checks planes t a b) ≡ 7
    unfolding write_checks
    write-long l = joined-passed (table_checks t) _ (numbers t) p ∙ rw (lt-ltb max_file b l)

    -- and a slice for the file that is not too long
    module _ (l : b ≤ max_file) where
      pub write-planes : planes_fit planes ≡ false → first_of (write_checks planes t a b) ≡ 9
      unfolding write_checks
      write-planes e = joined-passed (table_checks t) _ (numbers t) p ∙ rw (le-ltb max_file b l, e)

      -- and a number of planes in range
      module _ (e : planes_fit planes ≡ true) where
        pub write-file : (b ≡ file_length planes (rectangle t) t.count → ⊥) → first_of (write_checks planes t a b) ≡ 7
        unfolding write_checks
        write-file h =
            joined-passed (table_checks t) _ (numbers t) p
            ∙ rw (le-ltb max_file b l, e, ne_eqb b (file_length planes (rectangle t) t.count) h, either (not (eqb a (samples_before planes (rectangle t) t.count))))
            (either (ltb max_file (file_length planes (rectangle t) t.count)))

        pub write-samples : (a ≡ samples_before planes (rectangle t) t.count → ⊥) → first_of (write_checks planes t a b) ≡ 7
        unfolding write_checks
        write-samples h =
            joined-passed (table_checks t) _ (numbers t) p
            ∙ rw (le-ltb max_file b l, e, ne_eqb a (samples_before planes (rectangle t) t.count) h) (either (ltb max_file (file_length planes (rectangle t) t.count)))

        pub write-passed : a ≡ samples_before planes (rectangle t) t.count → b ≡ file_length planes (rectangle t) t.count → first_of (write_checks planes t a b) ≡ 0
        unfolding write_checks
        write-passed f g =
            joined-passed (table_checks t) _ (numbers t) p
            ∙ rw (
              le-ltb max_file b l,
              e,
              le-ltb max_file (file_length planes (rectangle t) t.count) (omega (arith, g, l)),
              eq-eqb a (samples_before planes (rectangle t) t.count) f,
              eq-eqb b (file_length planes (rectangle t) t.count) g,
            )

module _ (planes : ℕ) (t : CutTable) (s f : List ℕ) where
  pub write-refused : (n : ℕ) → first_of (write_checks planes t (length s) (length f)) ≡ n → (n ≡ 0 → ⊥) → ◌≡◌ {A = WriteOutcome} (record { number = n; file = f }) (write_outcome t planes s f)
  unfolding write_outcome
  write-refused n p h = rw (p, ne_eqb n 0 h)

  pub write-accepted : (g : List ℕ) → first_of (write_checks planes t (length s) (length f)) ≡ 0 → g ≡ file_of planes (rectangle t) t.count s → ◌≡◌ {A = WriteOutcome} (record { number = 0; file = g }) (write_outcome t planes s f)
  unfolding write_outcome
  write-accepted g p e = rw (p, e)
