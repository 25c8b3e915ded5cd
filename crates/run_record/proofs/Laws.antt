-- What a valid record has, and that accepted calls keep it valid. Assumes nothing.
use mathlib.Core.Path.{◌≡◌, refl}
use mathlib.Core.Bool.{Bool, true, false, not, ◌&&◌, ◌||◌}
use mathlib.Core.List.{List, [], ◌∷◌}
use Prim.Native.Nat.{ℕ, zero, suc, ◌<◌, ◌≤◌}
use native.Mathlib.Omega.{arith}
use borrow.Author.Tests.{lt-leb, leb-false, eqb-false, eq-eqb, ltb-false, le-ltb, not-true, not-false}
use lib.Dec.{T, eqb, leb, ltb, eqb→eq, leb→le, le→leb}
use lib.ListN.{get_or, set, replicate}
use lib.Seq.{get_or-set_other}
use lib.Ieee.Fits.{and_l, and_r, and_i}
use Rattle.sigma_grids.proofs.Laws.{neither, none_below, none-found}
use Rattle.run_passes.specs.Plan.{one_if}
use Rattle.run_setup.specs.declared.Setup.{Setup}
use Rattle.run_record.specs.declared.Run.{Run}
use Rattle.refusals.proofs.Tables.{is_true, of-true}
use Rattle.run_setup.specs.Setup.{pass_count, max_bands, band_count, setup_fits}
use Rattle.run_setup.specs.SetupFits.{SetupFits}
use Rattle.run_setup.proofs.Laws.{setup-fits}
use Rattle.run_record.specs.Record.{is_done, none_done, started, marked, advanced, finished, band_missing, not_open, not_over, open_bands, left_by_flags, bad_flag, bad_done, run_fits}
use Rattle.run_record.specs.RunFits.{RunFits}

-- a flag of a valid record is 0 or 1, and 0 from the open bands on
pub flag-most : (bands k f : ℕ) → bad_flag bands k f ≡ false → f ≤ 1
flag-most bands k f e = go (ltb k bands) (ltb-false _ f e)
  where
    go : (b : Bool) → f ≤ one_if b → f ≤ 1
    go true h = h
    go false h = omega (arith, h)

flag-none : (bands k f : ℕ) → bad_flag bands k f ≡ false → bands ≤ k → f ≡ 0
flag-none bands k f e h = let z : ltb 0 f ≡ false = rw (le-ltb k bands h) at e in omega (arith, ltb-false 0 f z)

not-bad-flag : (bands k f : ℕ) → f ≤ 1 → (bands ≤ k → eqb f 1 ≡ false) → bad_flag bands k f ≡ false
not-bad-flag bands k f h n = go (ltb k bands) refl
  where
    go : (b : Bool) → ltb k bands ≡ b → ltb (one_if b) f ≡ false
    go true e = le-ltb 1 f h
    go false e = let z = eqb-false f 1 (n (ltb-false k bands e)) in le-ltb 0 f (omega arith)

pub run_fits_lem : (r : Run) → T (run_fits r) → RunFits r
unfolding run_fits bad_done is_done
run_fits_lem r t =
    let passes = leb r.pass (pass_count r.setup) in
    let flags = not (bad_done r) in
    let counted = eqb r.bands_left (left_by_flags r) in
    let p = and_r (setup_fits r.setup) (passes && (flags && counted)) t in
    let q = and_r passes (flags && counted) p in
    let none : bad_done r ≡ false = not-true (bad_done r) (is_true flags (and_l flags counted q)) in
    record {
      setup = and_l (setup_fits r.setup) (passes && (flags && counted)) t;
      pass = leb→le r.pass (pass_count r.setup) (and_l passes (flags && counted) p);
      flag = λ k l. flag-most (open_bands r) k (get_or r.done k 0) (fair none k l);
      none-past-count = λ k l o. let z : get_or r.done k 0 ≡ 0 = flag-none (open_bands r) k (get_or r.done k 0) (fair none k l) o in rw z;
      left = eqb→eq r.bands_left (left_by_flags r) (and_r flags counted q);
    }
  where
    fair : bad_done r ≡ false → (k : ℕ) → k < max_bands → bad_flag (open_bands r) k (get_or r.done k 0) ≡ false
    fair none k l = none_below max_bands k (λ k. bad_flag (open_bands r) k (get_or r.done k 0)) none l

-- the same from the answer of a test
pub fits-setup-of : (r : Run) → run_fits r ≡ true → SetupFits r.setup
fits-setup-of r e = setup-fits r.setup (run_fits_lem r (of-true (run_fits r) e)).setup

pub fits-run : (r : Run) → RunFits r → T (run_fits r)
unfolding run_fits bad_done is_done
fits-run r f =
    let passes = leb r.pass (pass_count r.setup) in
    let flags = not (bad_done r) in
    let counted = eqb r.bands_left (left_by_flags r) in
    let none : bad_done r ≡ false = none-found max_bands (λ k. bad_flag (open_bands r) k (get_or r.done k 0)) (λ k l. not-bad-flag (open_bands r) k (get_or r.done k 0) (f.flag k l) (f.none-past-count k l)) in
    and_i (setup_fits r.setup) (passes && (flags && counted)) f.setup
    (and_i passes (flags && counted) (le→leb r.pass (pass_count r.setup) f.pass)
    (and_i flags counted (rw none tt) (rw (eq-eqb r.bands_left (left_by_flags r) f.left) tt)))

-- a band that may run
pub record Open (r : Run) (k : ℕ) : Type 0 where
  pub unfinished : finished r ≡ false
  pub below : k < band_count r.setup
  pub fresh : is_done r k ≡ false

pub band-open : (r : Run) (k : ℕ) → not_open r k ≡ false → Open r k
band-open r k e =
    let p = neither (finished r) (leb (band_count r.setup) k || is_done r k) e in
    let q = neither (leb (band_count r.setup) k) (is_done r k) p.1 in
    record { unfinished = p.0; below = leb-false (band_count r.setup) k q.0; fresh = q.1 }

pub open-band : (r : Run) (k : ℕ) → Open r k → not_open r k ≡ false
open-band r k o = rw (o.unfinished, lt-leb (band_count r.setup) k o.below, o.fresh)

-- a pass whose bands are all done
pub record Over (r : Run) : Type 0 where
  pub unfinished : finished r ≡ false
  pub done : (k : ℕ) → k < band_count r.setup → is_done r k ≡ true

pub pass-over : (r : Run) → not_over r ≡ false → Over r
unfolding band_missing
pass-over r e =
    let p = neither (finished r) (band_missing r) e in
    record { unfinished = p.0; done = λ k l. not-false (is_done r k) (none_below (band_count r.setup) k (λ k. not (is_done r k)) p.1 l) }

pub over-pass : (r : Run) → Over r → not_over r ≡ false
unfolding band_missing
over-pass r o =
    let none : band_missing r ≡ false = none-found (band_count r.setup) (λ k. not (is_done r k)) (λ k l. rw (o.done k l)) in
    rw (o.unfinished, none)

-- ---- how calls change it

-- no band is done after a start or an advance
pub none_done_lem : (k : ℕ) → ◌≡◌ {A = ℕ} (get_or none_done k 0) 0
none_done_lem k = go max_bands k
  where
    go : (n k : ℕ) → ◌≡◌ {A = ℕ} (get_or (replicate n 0) k 0) 0
    go zero k = refl
    go (suc n) zero = refl
    go (suc n) (suc k) = go n k

-- an unfinished run has a pass left
pub pass-left : (r : Run) → RunFits r → finished r ≡ false → r.pass < pass_count r.setup
pass-left r f e = let n = eqb-false r.pass (pass_count r.setup) e in omega (arith, f.pass)

pub started-fits : (s : Setup) → T (setup_fits s) → RunFits (started s)
unfolding started is_done
started-fits s t = record { setup = t; pass = omega arith; flag = λ k l. rw (none_done_lem k) (omega arith); none-past-count = λ k l o. rw (none_done_lem k); left = refl }

set-most : (l : List ℕ) (k j : ℕ) → get_or l j 0 ≤ 1 → get_or (set l k 1) j 0 ≤ 1
set-most [] k j h = h
set-most (x ∷ l) zero zero h = omega arith
set-most (x ∷ l) zero (suc j) h = h
set-most (x ∷ l) (suc k) zero h = h
set-most (x ∷ l) (suc k) (suc j) h = set-most l k j h

pub marked-fits : (r : Run) (k : ℕ) → RunFits r → Open r k → RunFits (marked r k)
unfolding marked is_done
marked-fits r k f o =
    record {
      setup = f.setup;
      pass = f.pass;
      flag = λ j l. set-most r.done k j (f.flag j l);
      none-past-count = λ j l p. rw (get_or-set_other r.done k j 1 0 (λ (e : j ≡ k). omega (arith, e, o.below, rw o.unfinished at p))) (f.none-past-count j l p);
      left = refl;
    }

pub advanced-fits : (r : Run) → RunFits r → Over r → RunFits (advanced r)
unfolding advanced is_done
advanced-fits r f o = record { setup = f.setup; pass = pass-left r f o.unfinished; flag = λ k l. rw (none_done_lem k) (omega arith); none-past-count = λ k l p. rw (none_done_lem k); left = refl }
