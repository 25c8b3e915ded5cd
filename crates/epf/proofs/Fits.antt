-- What the checks of a step give, and that an accepted step leaves what the definition says. Assumes nothing.
use mathlib.Core.Path.{◌≡◌, sym, ◌∙◌}
use mathlib.Core.Bool.{Bool, true, ◌&&◌}
use mathlib.Core.List.{List}
use Prim.Native.Nat.{ℕ, ◌+◌, ◌-◌, ◌*◌, ◌≤◌}
use native.Mathlib.Nat.{mul-le-mul}
use native.Mathlib.Omega.{arith}
use borrow.Author.Tests.{leb-true, ltb-false, eqb-true, not-false}
use lib.Dec.{eqb, leb}
use lib.ListN.{length}
use lib.Ieee.{Float}
use Rattle.std.specs.Prelude.{Result, Ok, Err, IsErrAnd}
use Rattle.refusals.specs.declared.Refusal.{Refusal}
use Rattle.refusals.specs.Refusals.{refusal_number as number, number_of}
use Rattle.refusals.proofs.Outcomes.{number-nonzero}
use Rattle.refusals.specs.Checks.{Check, first_of}
use Rattle.refusals.specs.Flags.{flag_fits, flag_set}
use Rattle.refusals.proofs.Rows.{here, below, row-passed}
use Rattle.region.specs.declared.Region.{Region}
use Rattle.region_placement.specs.Placed.{placed_checks}
use Rattle.planes.specs.declared.Layout.{Layout}
use Rattle.planes.specs.Picture.{Picture}
use Rattle.planes.specs.Rect.{planes_fill}
use Rattle.planes.specs.Band.{passed, planes_fit, copied_outside, filter_row, result_height, rows_fit}
use Rattle.planes.specs.Fits.{LayoutFits, BandFits}
use Rattle.planes.proofs.Stored.{passed_over, fits-copied, planes-few, and_first, and_second}
use Rattle.planes_layout.specs.Outcome.{layout_of, planes_check, flag_check, PassOutcome}
use Rattle.planes_layout.proofs.Fits.{Accepted, layout-accepted, placed_first, placed-then, pass-refused, pass-done}
use Rattle.epf_tiles.specs.Blocks.{block_columns, block_rows}
use Rattle.epf.specs.declared.EpfStep.{EpfStep}
use Rattle.region_placement.specs.Blocks.{clamp_to_zero}
use Rattle.epf.specs.Outcome.{epf_over, sets_check, sigmas_check, step_in_range, step_rows, step_checks, epf_checks, epf_outcome}

-- what follows from number 0
pub record StepFits (n : ℕ) (l : Layout) (step from to sigmas src dst : ℕ) : Type 0 where
  pub planes-le : n ≤ 3
  pub source : src ≡ n * l.image.height * l.image.width
  pub target : dst ≡ n * l.image.height * l.image.width
  pub blocks : sigmas ≡ block_rows l * block_columns l
  pub step-le : step ≤ 2
  pub order : from ≤ to
  pub rows : to ≤ result_height l

pub step_fits : (n : ℕ) (l : Layout) (filter : Region) (full step from to sigmas src dst : ℕ) → first_of (step_checks n l filter full step from to sigmas src dst) ≡ 0 → StepFits n l step from to sigmas src dst
unfolding step_checks
step_fits n l filter full step from to sigmas src dst e =
    let size = n * l.image.height * l.image.width in
    let p = eqb src size in
    let q = eqb dst size in
    let passed = row-passed (step_checks n l filter full step from to sigmas src dst) tt e in
    let flag : flag_fits full ≡ true = not-false (flag_fits full) (passed (flag_check full) (search (here, below) depth 12)) in
    let right : planes_fit n ≡ true = not-false (planes_fit n) (passed (planes_check n) (search (here, below) depth 12)) in
    let lengths : (p && q) ≡ true = not-false _ (rw right at (passed (sets_check n l src dst) (search (here, below) depth 12))) in
    let rows_in : rows_fit l from to ≡ true = not-false _ (rw flag at (passed (step_rows l full from to) (search (here, below) depth 12))) in
    record {
      planes-le = (planes-few n right).1;
      source = eqb-true _ _ (and_first p q lengths);
      target = eqb-true _ _ (and_second p q lengths);
      blocks = eqb-true _ _ (not-false _ (passed (sigmas_check l sigmas) (search (here, below) depth 12)));
      step-le = ltb-false _ _ (passed (step_in_range step) (search (here, below) depth 12));
      order = leb-true _ _ (and_first (leb from to) (leb to (result_height l)) rows_in);
      rows = leb-true _ _ (and_second (leb from to) (leb to (result_height l)) rows_in);
    }

pub band-fits : (n : ℕ) (l : Layout) (step from to sigmas : ℕ) (src dst : List Float) → LayoutFits l → StepFits n l step from to sigmas (length src) (length dst) → BandFits l n from to src dst
band-fits n l step from to sigmas src dst f s = record { layout = f; planes = s.planes-le; source = s.source; target = s.target; order = s.order; rows = s.rows }

-- bounds in machine integers
pub lines-le : (n : ℕ) (l : Layout) → planes_fit n ≡ true → LayoutFits l → n * l.image.height ≤ 49152
lines-le n l e f = mul-le-mul (planes-few n e).1 f.height-le

pub samples-le : (n : ℕ) (l : Layout) → planes_fit n ≡ true → LayoutFits l → n * l.image.height * l.image.width ≤ 805306368
samples-le n l e f = mul-le-mul (lines-le n l e f) f.width-le

pub blocks-le : (l : Layout) → LayoutFits l → block_rows l * block_columns l ≤ 4198401
blocks-le l f =
    let a : block_rows l ≤ 2049 = omega (arith, f.down, f.height-le) in
    let b : block_columns l ≤ 2049 = omega (arith, f.across, f.width-le) in
    mul-le-mul a b

pub ruleset size_rules = (lines-le, samples-le, blocks-le)

-- ---- a band: copied outside the filter region, then filtered inside it
pub band-passed : (l : Layout) (n from to f t : ℕ) (p : Picture) (src dst a b : List Float) → BandFits l n from to src dst
    → a ≡ copied_outside l n from to src dst → f ≡ filter_row l from → t ≡ filter_row l to
    → b ≡ planes_fill l.image.width l.image.height l.left l.width (l.top + f) (t - f) (λ c x i. p c x (f + i)) a n
    → b ≡ passed n l from to p src dst
band-passed l n from to f t p src dst a b fits e u v h = passed_over l n from to src dst fits p b (h ∙ rw (e, fits-copied l n from to src dst fits, u, v))

-- ---- all checks

module _ (image filter : Region) (n full : ℕ) (s : EpfStep) (sigmas : List Float) (from to : ℕ) (src dst : List Float) where
  abbrev Outcome : ℕ → List Float → Type 0
  Outcome k d = ◌≡◌ {A = PassOutcome} (record { number = k; target = d }) (epf_outcome image filter n full s sigmas from to src dst)

  -- the checks after 4 and 5
  abbrev own : List Check
  own = step_checks n (layout_of image filter (flag_set full)) filter full s.step from to (length sigmas) (length src) (length dst)

  -- e: what a check refuses, r: what `?` returns for it
  pub not-placed : (e : Refusal) (r : Result Unit Refusal) → number e ≡ first_of (placed_checks image filter) → IsErrAnd r (λ x. x ≡ e) → Outcome (number_of r) dst
  unfolding epf_outcome epf_checks
  not-placed e (Ok u) k is = absurd is
  not-placed e (Err x) k is = rw is (pass-refused (number e) _ _ dst (placed_first image filter own (number e) k (number-nonzero e)) (number-nonzero e))

  module _ (l : Layout) (flag : Bool) (flag-is : flag ≡ flag_set full) (placed : 0 ≡ first_of (placed_checks image filter)) (l-by : l ≡ layout_of image filter flag) where
    l-is : l ≡ layout_of image filter (flag_set full)
    l-is = rw flag-is at l-by

    pub layout-held : Accepted l
    layout-held = rw l-is (layout-accepted image filter (flag_set full) (sym placed))

    abbrev Checked : ℕ → Type 0
    Checked k = k ≡ first_of (step_checks n l filter full s.step from to (length sigmas) (length src) (length dst))

    number_is : (k : ℕ) → Checked k → k ≡ first_of (epf_checks image filter n full s sigmas from to src dst)
    unfolding epf_checks
    number_is k p = placed-then image filter own (sym placed) k (rw l-is at p)

    pub refused : (e : Refusal) (r : Result Unit Refusal) → Checked (number e) → IsErrAnd r (λ x. x ≡ e) → Outcome (number_of r) dst
    unfolding epf_outcome
    refused e (Ok u) p is = absurd is
    refused e (Err x) p is = rw is (pass-refused (number e) _ _ dst (number_is (number e) p) (number-nonzero e))

    pub done : Checked 0 → (b : List Float) → b ≡ passed n l from to (epf_over n l s (clamp_to_zero filter.top) sigmas src) src dst → Outcome 0 b
    unfolding epf_outcome
    done p b q = pass-done _ _ dst b (number_is 0 p) (rw l-is at q)
