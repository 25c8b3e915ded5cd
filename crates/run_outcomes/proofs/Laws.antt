-- When calls are accepted, and what holds of the arguments of accepted calls. Assumes nothing.
use mathlib.Core.Path.{◌≡◌, refl, sym, ◌∙◌}
use mathlib.Core.Bool.{Bool, true, false, cond, not, ◌&&◌, ◌||◌}
use mathlib.Core.List.{List}
use Prim.Native.Nat.{ℕ, ◌*◌}
use borrow.Author.Tests.{eqb-true, eq-eqb, ne_eqb}
use lib.Dec.{T, eqb, leb, leb→le, eqb→eq}
use lib.ListN.{length}
use lib.Ieee.{Float}
use lib.Ieee.Fits.{and_l, and_r, and_i}
use Rattle.refusals.specs.Checks.{first_of}
use Rattle.region.specs.Regions.{inside}
use Rattle.region.specs.Measures.{picture_fits}
use Rattle.planes_layout.specs.Outcome.{layout_of}
use Rattle.epf_tiles.specs.Blocks.{block_columns, block_rows}
use Rattle.sigma.specs.Sigma.{block_sigmas}
use Rattle.sigma.proofs.Laws.{length-sigmas}
use Rattle.region_placement.specs.Blocks.{on_blocks}
use Rattle.planes.specs.Band.{planes_fit}
use Rattle.run_passes.specs.Plan.{gabor_fits}
use Rattle.run_record.specs.declared.Run.{Run}
use Rattle.run_setup.specs.Setup.{max_bands, layout, epf_on, iters_fit, full_fits, height_fits, count_fits, band_count, setup_fits, size_fits, set_length, sigma_length, result_region, result_length}
use Rattle.run_record.specs.Record.{advanced, finished, run_fits, run_in_range, band_open, pass_done, over_checks}
use Rattle.refusals.proofs.Tables.{is_true, met, met-given, none-zero}
use Rattle.refusals.proofs.Rows.{here, below, row-passed, or_else, first-joined, joined-none}
use Rattle.run_setup.proofs.Laws.{fits-setup}
use Rattle.run_record.specs.RunFits.{RunFits}
use Rattle.run_record.proofs.Laws.{run_fits_lem, fits-run, Open, band-open, open-band, Over, pass-over, over-pass}
use Rattle.run_outcomes.specs.Start.{Handed, blocks_of, region_sides, filter_inside, filter_on_blocks, set_lengths, sigmas_length, iters_in_range, planes_in_range, full_in_range, gabor_in_range, height_in_range, count_in_range, picture_checks, tail_checks, start_checks, start_number, start_leaves, sigmas_filled, start_accepted, start_refused, start_outcome}
use Rattle.run_outcomes.specs.Band.{State, reads_first, band_checks, band_number, band_accepted, band_outcome, advance_number, advance_outcome}
use Rattle.run_outcomes.specs.Result.{result_checks, result_number, result_of, result_outcome}

-- ---- start

-- a picture that would not be refused under 4 to 9: its record is valid and its lengths are right
pub record PictureFits (h : Handed) : Type 0 where
  pub setup : T (setup_fits h.setup)
  pub first : length h.first ≡ set_length h.setup
  pub second : length h.second ≡ set_length h.setup
  pub sigmas : length h.sigmas ≡ sigma_length h.setup

pub picture-fits : (h : Handed) → first_of (picture_checks h) ≡ 0 → PictureFits h
unfolding picture_checks
picture-fits h e =
    let s = h.setup in
    let passed = row-passed (picture_checks h) tt e in
    let pictures = met (picture_fits s.image && picture_fits s.filter) (passed (region_sides s) (search (here, below) depth 20)) in
    let iters : T (iters_fit s) = met (iters_fit s) (passed (iters_in_range s) (search (here, below) depth 20)) in
    let planes : T (planes_fit s.planes) = met (planes_fit s.planes) (passed (planes_in_range s) (search (here, below) depth 20)) in
    let set = met-given (planes_fit s.planes) (eqb (length h.first) (set_length s) && eqb (length h.second) (set_length s)) (passed (set_lengths h) (search (here, below) depth 20)) planes in
    let full : T (full_fits s) = met (full_fits s) (passed (full_in_range s) (search (here, below) depth 20)) in
    let height : T (height_fits s) = met (height_fits s) (passed (height_in_range s) (search (here, below) depth 20)) in
    let count : T (count_fits s) = met-given (full_fits s && height_fits s) (count_fits s) (passed (count_in_range s) (search (here, below) depth 20)) (and_i (full_fits s) (height_fits s) full height) in
    record {
      setup = fits-setup s (record {
        image = and_l (picture_fits s.image) (picture_fits s.filter) pictures;
        filter = and_r (picture_fits s.image) (picture_fits s.filter) pictures;
        contained = met (inside s.image s.filter) (passed (filter_inside s) (search (here, below) depth 20));
        blocks = λ on. met-given (iters_fit s && epf_on s) (on_blocks s.filter) (passed (filter_on_blocks s) (search (here, below) depth 20)) (and_i (iters_fit s) (epf_on s) iters on);
        iterations = leb→le s.settings.epf.iters 3 iters;
        planes = planes;
        full = full;
        gabor = met (gabor_fits s.settings) (passed (gabor_in_range s) (search (here, below) depth 20));
        height-least = leb→le 1 s.band_height (and_l (leb 1 s.band_height) (leb s.band_height 16384) height);
        height-most = leb→le s.band_height 16384 (and_r (leb 1 s.band_height) (leb s.band_height 16384) height);
        count = leb→le (band_count s) max_bands count;
      });
      first = eqb→eq (length h.first) (set_length s) (and_l (eqb (length h.first) (set_length s)) (eqb (length h.second) (set_length s)) set);
      second = eqb→eq (length h.second) (set_length s) (and_r (eqb (length h.first) (set_length s)) (eqb (length h.second) (set_length s)) set);
      sigmas = eqb→eq (length h.sigmas) (sigma_length s) (met-given (iters_fit s) (eqb (length h.sigmas) (sigma_length s)) (passed (sigmas_length h) (search (here, below) depth 20)) iters);
    }

-- start fills the block sigmas without changing their number
pub sigmas-length : (h : Handed) → PictureFits h → length (sigmas_filled h) ≡ sigma_length h.setup
unfolding sigmas_filled layout_of
sigmas-length h f = go (epf_on h.setup) f.sigmas
  where
    go : (on : Bool) → length h.sigmas ≡ cond on (block_rows (layout h.setup) * block_columns (layout h.setup)) 0
        → length (cond on (block_sigmas h.frame (blocks_of h.setup) h.table h.grids h.setup.settings.epf.sigma_for_modular) h.sigmas)
        ≡ cond on (block_rows (layout h.setup) * block_columns (layout h.setup)) 0
    go true e = length-sigmas h.frame (blocks_of h.setup) h.table h.grids h.setup.settings.epf.sigma_for_modular
    go false e = e

-- the first set keeps its length,
pub leaves-length : (h : Handed) → length (start_leaves h) ≡ length h.first
unfolding start_leaves
leaves-length h = refl

-- and depends only on the first set before the call
pub leaves-same : (a b : Handed) → a.first ≡ b.first → start_leaves a ≡ start_leaves b
unfolding start_leaves
leaves-same a b e = e

-- the number of start is that of the picture's checks or, if that is 0, of the further checks
pub start-parts : (h : Handed) → start_number h ≡ or_else (first_of (picture_checks h)) (first_of (tail_checks h))
unfolding start_checks picture_checks
start-parts h = first-joined (picture_checks h) (tail_checks h) tt

-- the picture of an accepted start would not be refused
pub start-picture : (h : Handed) → start_number h ≡ 0 → first_of (picture_checks h) ≡ 0
unfolding start_checks picture_checks
start-picture h e = joined-none (picture_checks h) (tail_checks h) tt e

-- ---- outcomes: their numbers, and the state after accepted and refused calls

pub start-number : (h : Handed) → (start_outcome h).answer.number ≡ start_number h
unfolding start_outcome
start-number h = go (eqb (start_number h) 0) refl
  where
    go : (b : Bool) → eqb (start_number h) 0 ≡ b → (cond b (start_accepted h) (start_refused (start_number h) h)).answer.number ≡ start_number h
    go true e = sym (eqb-true (start_number h) 0 e)
    go false e = refl

pub start-accepted : (h : Handed) → (start_outcome h).answer.number ≡ 0 → start_outcome h ≡ start_accepted h
unfolding start_outcome
start-accepted h e = let z : start_number h ≡ 0 = sym (start-number h) ∙ e in rw (eq-eqb (start_number h) 0 z)

pub start-refused : (h : Handed) → ((start_outcome h).answer.number ≡ 0 → ⊥) → start_outcome h ≡ start_refused (start_number h) h
unfolding start_outcome
start-refused h e = rw (ne_eqb (start_number h) 0 (λ z. e (start-number h ∙ z)))

pub band-number : (t : State) (k : ℕ) → (band_outcome t k).number ≡ band_number t k
unfolding band_outcome
band-number t k = refl

pub band-leaves : (t : State) (k : ℕ) → (band_outcome t k).number ≡ 0 → (band_outcome t k).state ≡ band_accepted t k
unfolding band_outcome
band-leaves t k e = rw (eq-eqb (band_number t k) 0 e)

pub band-refused : (t : State) (k : ℕ) → ((band_outcome t k).number ≡ 0 → ⊥) → (band_outcome t k).state ≡ t
unfolding band_outcome
band-refused t k e = rw (ne_eqb (band_number t k) 0 e)

pub advance-number : (r : Run) → (advance_outcome r).number ≡ advance_number r
unfolding advance_outcome
advance-number r = refl

pub advance-leaves : (r : Run) → (advance_outcome r).number ≡ 0 → (advance_outcome r).run ≡ advanced r
unfolding advance_outcome
advance-leaves r e = rw (eq-eqb (advance_number r) 0 e)

pub advance-refused : (r : Run) → ((advance_outcome r).number ≡ 0 → ⊥) → (advance_outcome r).run ≡ r
unfolding advance_outcome
advance-refused r e = rw (ne_eqb (advance_number r) 0 e)

pub result-number : (r : Run) (first second out : List Float) → (result_outcome r first second out).number ≡ result_number r first second out
unfolding result_outcome
result-number r first second out = refl

pub result-leaves : (r : Run) (first second out : List Float) → (result_outcome r first second out).number ≡ 0
    → (result_outcome r first second out).out ≡ result_of r.setup.planes (layout r.setup) (cond (reads_first r) first second)
unfolding result_outcome
result-leaves r first second out e = rw (eq-eqb (result_number r first second out) 0 e)

pub result-refused : (r : Run) (first second out : List Float) → ((result_outcome r first second out).number ≡ 0 → ⊥) → (result_outcome r first second out).out ≡ out
unfolding result_outcome
result-refused r first second out e = rw (ne_eqb (result_number r first second out) 0 e)

-- ---- when a band, an advance and the result are accepted, and what holds of their arguments then

-- the arguments of an accepted band
pub record BandFits (t : State) (k : ℕ) : Type 0 where
  pub run : RunFits t.run
  pub band : Open t.run k

pub band-fits : (t : State) (k : ℕ) → band_number t k ≡ 0 → BandFits t k
unfolding band_checks
band-fits t k e =
    let passed = row-passed (band_checks t k) tt e in
    record {
      run = run_fits_lem t.run (met (run_fits t.run) (passed (run_in_range t.run) (search (here, below) depth 20)));
      band = band-open t.run k (passed (band_open t.run k) (search (here, below) depth 20));
    }

-- the record of an accepted advance
pub record AdvanceFits (r : Run) : Type 0 where
  pub run : RunFits r
  pub pass : Over r

pub advance-fits : (r : Run) → advance_number r ≡ 0 → AdvanceFits r
advance-fits r e =
    let passed = row-passed (over_checks r) tt e in
    record { run = run_fits_lem r (met (run_fits r) (passed (run_in_range r) (search (here, below) depth 20))); pass = pass-over r (passed (pass_done r) (search (here, below) depth 20)) }

and_none : (needs b : Bool) → T b → (needs && not b) ≡ false
and_none true b t = rw (is_true b t)
and_none false b t = refl

length-passed : (needs : Bool) (a m : ℕ) → a ≡ m → (needs && not (eqb a m)) ≡ false
length-passed needs a m p = and_none needs (eqb a m) (rw (eq-eqb a m p) tt)

lengths-passed : (needs : Bool) (a b m : ℕ) → a ≡ m → b ≡ m → (needs && not (eqb a m && eqb b m)) ≡ false
lengths-passed needs a b m p q = and_none needs (eqb a m && eqb b m) (rw (eq-eqb a m p, eq-eqb b m q) tt)

pub band-accepted : (t : State) (k : ℕ) → length t.first ≡ set_length t.run.setup → length t.second ≡ set_length t.run.setup
    → length t.sigmas ≡ sigma_length t.run.setup → RunFits t.run → Open t.run k → band_number t k ≡ 0
unfolding band_checks
band-accepted t k p q r fits o =
    let s = t.run.setup in
    none-zero (band_checks t k) (
      lengths-passed (size_fits s.image && planes_fit s.planes) (length t.first) (length t.second) (set_length s) p q,
      (
        length-passed (iters_fit s && (not (epf_on s) || size_fits s.filter)) (length t.sigmas) (sigma_length s) r,
        (and_none true (run_fits t.run) (fits-run t.run fits), (open-band t.run k o, tt)),
      ),
    )

pub advance-accepted : (r : Run) → RunFits r → Over r → advance_number r ≡ 0
advance-accepted r fits o = none-zero (over_checks r) (and_none true (run_fits r) (fits-run r fits), (over-pass r o, tt))

pub result-accepted : (r : Run) (first second out : List Float) → length first ≡ set_length r.setup → length second ≡ set_length r.setup
    → length out ≡ result_length r.setup → RunFits r → T (finished r) → result_number r first second out ≡ 0
unfolding result_checks
result-accepted r first second out p q l fits f =
    let s = r.setup in
    none-zero (result_checks r first second out) (
      lengths-passed (size_fits s.image && planes_fit s.planes) (length first) (length second) (set_length s) p q,
      (
        length-passed (full_fits s && (size_fits (result_region s) && planes_fit s.planes)) (length out) (result_length s) l,
        (and_none true (run_fits r) (fits-run r fits), (and_none true (finished r) f, tt)),
      ),
    )
