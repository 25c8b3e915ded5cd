-- The theorem on rectangles (Specification 13.6): beyond the margin, the result of a finished run has the larger picture's smoothed
-- samples. Assumes nothing.
use mathlib.Core.Path.{◌≡◌, ◌∙◌}
use mathlib.Core.List.{List}
use Prim.Native.Nat.{ℕ, ◌+◌, ◌*◌, ◌/◌, ◌<◌}
use native.Mathlib.Omega.{arith}
use lib.Dec.{T, lt→ltb}
use lib.Ieee.Fits.{and_l, and_r}
use lib.Ieee.{Float}
use lib.IntN.{ℤ, pos, nat_abs, ◌+ℤ◌, ◌-ℤ◌}
use Rattle.region_interval.proofs.Positions.{nth_in, nth-offset, offsets-add}
use Rattle.mirror.specs.Cut.{Deep}
use Rattle.region.specs.declared.Region.{Region}
use Rattle.region.specs.Regions.{Holds}
use Rattle.region.proofs.Regions.{nth-holds, column-below, row_below, inside-columns, inside-rows, inside-left, inside-top, width_fits, height-fits, column-offsets-add, row-offsets-add}
use Rattle.region_placement.specs.Blocks.{on_block}
use Rattle.run_passes.specs.Pass.{Area, passes}
use Rattle.run_passes.specs.Cut.{Fits, SameBlocks, SomeStep}
use Rattle.run_passes.proofs.Cut.{cut-same, plan-sound, plan-some-step}
use Rattle.run_passes.specs.Plan.{margin}
use Rattle.run_passes.proofs.PlanLaws.{plan-reach}
use Rattle.run_setup.specs.declared.Setup.{Setup}
use Rattle.run_setup.specs.Setup.{passes_of, epf_on, area}
use Rattle.run_setup.proofs.Laws.{setup-fits}
use Rattle.run_outcomes.specs.Start.{Handed, sigmas_filled}
use Rattle.run_outcomes.specs.Band.{source}
use Rattle.run_outcomes.proofs.Laws.{PictureFits, picture-fits}
use Rattle.run_calls.specs.Calls.{Calls, Effects, library_calls}
use Rattle.run_calls.proofs.Effects.{library_effect}
use Rattle.run_calls.specs.Places.{input, Clear}
use Rattle.run_calls.specs.Theorem.{CutFrom, SameSources, PremisesWith, Premises, RectangleTheorem, SourcesTheorem, LibraryTheorem, LibrarySourcesTheorem}
use Rattle.run_calls.specs.States.{RectangleTheoremAt}
use Rattle.run_calls.proofs.Lists.{start-unrefused, picture-accepted, reached-kept, end-reached}
use Rattle.run_calls.proofs.Finished.{filter-sample, run-samples, handed-over}
use Rattle.run_calls.proofs.Places.{deep, blocks-apart}
use Rattle.run_calls.proofs.Sources.{sources-give-sigmas}

-- ---- the smaller picture's filter region is a cut of the larger one's

module _ (small large : Handed) (fits : PictureFits small) (from : CutFrom small large) where
  abbrev f : Region
  f = small.setup.filter

  abbrev g : Region
  g = large.setup.filter

  -- how many columns and rows of the larger one lie before the smaller one's first
  abbrev lx : ℕ
  lx = nat_abs (f.left -ℤ g.left)

  abbrev ly : ℕ
  ly = nat_abs (f.top -ℤ g.top)

  abbrev a : Area
  a = area small.setup (sigmas_filled small)

  abbrev b : Area
  b = area large.setup (sigmas_filled large)

  cut : Fits a b lx ly
  cut = record { columns = width_fits g f from.contained; rows = height-fits g f from.contained }

  -- the column and row in the larger filter region of the position at column x and row y of the smaller one
  nth-column : (x : ℕ) → x < f.width → nat_abs (f.left +ℤ pos x -ℤ g.left) ≡ lx + x
  nth-column x p = offsets-add f.left g.left (f.left +ℤ pos x) (inside-left g f from.contained) (nth_in f.left f.width x p).from ∙ rw (nth-offset f.left x)

  nth-row : (y : ℕ) → y < f.height → nat_abs (f.top +ℤ pos y -ℤ g.top) ≡ ly + y
  nth-row y q = offsets-add f.top g.top (f.top +ℤ pos y) (inside-top g f from.contained) (nth_in f.top f.height y q).from ∙ rw (nth-offset f.top y)

  inputs : (c x y : ℕ) → c < small.setup.planes → x < f.width → y < f.height → input small c x y ≡ input large c (lx + x) (ly + y)
  inputs c x y h p q =
      rw (nth-offset f.left x, nth-offset f.top y, nth-column x p, nth-row y q) at
      (from.inputs-agree c (f.left +ℤ pos x) (f.top +ℤ pos y) h (nth-holds f x y p q))

  -- if a step runs, both filter regions start at multiples of 8 and the smaller one's blocks have the larger one's sigmas
  blocks : SomeStep (passes_of small.setup) → SameBlocks a b lx ly
  blocks z =
      let on : T (epf_on small.setup) = lt→ltb 0 small.setup.settings.epf.iters (plan-some-step small.setup.planes small.setup.settings z) in
      let too : T (epf_on large.setup) = lt→ltb 0 large.setup.settings.epf.iters (plan-some-step large.setup.planes large.setup.settings (rw from.same-passes at z)) in
      let p = (setup-fits small.setup fits.setup).blocks on in
      let q = (setup-fits large.setup (picture-fits large from.unrefused).setup).blocks too in
      let across = blocks-apart f.left g.left (inside-left g f from.contained) (and_l (on_block f.left) (on_block f.top) p) (and_l (on_block g.left) (on_block g.top) q) in
      let down = blocks-apart f.top g.top (inside-top g f from.contained) (and_r (on_block f.left) (on_block f.top) p) (and_r (on_block g.left) (on_block g.top) q) in
      record {
        bx = lx / 8;
        by = ly / 8;
        tops = down.0;
        eight_x = across.1;
        eight_y = down.1;
        sigmas = λ x y i j.
            let c : nat_abs (f.left +ℤ pos (8 * x) -ℤ f.left) / 8 ≡ x = omega (arith, nth-offset f.left (8 * x)) in
            let r : nat_abs (f.top +ℤ pos (8 * y) -ℤ f.top) / 8 ≡ y = omega (arith, nth-offset f.top (8 * y)) in
            let cc : nat_abs (f.left +ℤ pos (8 * x) -ℤ g.left) / 8 ≡ lx / 8 + x = omega (arith, nth-column (8 * x) i, across.1) in
            let rr : nat_abs (f.top +ℤ pos (8 * y) -ℤ g.top) / 8 ≡ ly / 8 + y = omega (arith, nth-row (8 * y) j, down.1) in
            rw (c, r, cc, rr) at (from.sigmas-alike on (f.left +ℤ pos (8 * x)) (f.top +ℤ pos (8 * y)) (nth-holds f (8 * x) (8 * y) i j));
      }

  -- all passes over both agree beyond the margin
  beyond : (c : ℕ) (x y : ℤ) → c < small.setup.planes → Holds f x y → Clear (margin small.setup.settings) f g x y
      → passes a (passes_of small.setup) (input small) c (nat_abs (x -ℤ f.left)) (nat_abs (y -ℤ f.top))
      ≡ passes b (passes_of large.setup) (input large) c (nat_abs (x -ℤ g.left)) (nat_abs (y -ℤ g.top))
  beyond c x y h held clear =
      let s = small.setup.settings in
      let i : Deep (margin s) lx f.width g.width (nat_abs (x -ℤ f.left)) =
      deep f.left g.left f.width g.width (inside-columns g f from.contained) x held.column (margin s) clear.left clear.right in
      let j : Deep (margin s) ly f.height g.height (nat_abs (y -ℤ f.top)) =
      deep f.top g.top f.height g.height (inside-rows g f from.contained) y held.row (margin s) clear.top clear.bottom in
      let column = column-offsets-add g f from.contained x y held in
      let row = row-offsets-add g f from.contained x y held in
      cut-same small.setup.planes a b lx ly cut (passes_of small.setup) (plan-sound small.setup.planes s) blocks (input small) (input large) inputs c (nat_abs (x -ℤ f.left)) (nat_abs (y -ℤ f.top)) h
      (rw (plan-reach small.setup.planes s) i) (rw (plan-reach small.setup.planes s) j)
      ∙ rw (from.same-passes, column, row)

-- ---- the theorem

-- for any finished state, however the run reached it
pub rectangle-theorem-at : RectangleTheoremAt
rectangle-theorem-at small large e from t r z out room =
    let s : Setup = small.setup in
    let fits = picture-accepted small e in
    let kept = reached-kept small e t r in
    let over = handed-over small t kept z out room in
    record {
      accepted = over.0;
      samples = λ c x y h held clear.
          rw over.1
          (filter-sample s (setup-fits s fits.setup) (source t) c x y h held
          ∙ run-samples small t kept z (setup-fits s fits.setup) c (nat_abs (x -ℤ s.filter.left)) (nat_abs (y -ℤ s.filter.top)) h (column-below s.filter x y held) (row_below s.filter x y held)
          ∙ beyond small large fits from c x y h held clear);
    }

pub rectangle-theorem : (K : Calls) → Effects K → RectangleTheorem K
rectangle-theorem K E small large cs out p = rectangle-theorem-at small large p.start-accepted p.cut-from-larger _ (end-reached K E small cs p.buffers-unaltered) p.run-finished out p.slice_fits

-- the calls of Specification 13.7
pub library-theorem : LibraryTheorem
library-theorem = rectangle-theorem library_calls library_effect

-- ---- the same from equal sources of block sigmas

-- the premises with equal sources give those with equal block sigmas
pub sources-premises : (K : Calls) (small large : Handed) (cs : List K.Call) (out : List Float)
    → PremisesWith K SameSources small large cs out → Premises K small large cs out
sources-premises K small large cs out p = record {
  start-accepted = p.start-accepted;
  cut-from-larger = sources-give-sigmas small large (start-unrefused small p.start-accepted) p.cut-from-larger;
  buffers-unaltered = p.buffers-unaltered;
  run-finished = p.run-finished;
  slice_fits = p.slice_fits;
}

pub sources-theorem : (K : Calls) → Effects K → SourcesTheorem K
sources-theorem K E small large cs out p = rectangle-theorem K E small large cs out (sources-premises K small large cs out p)

pub library-sources-theorem : LibrarySourcesTheorem
library-sources-theorem = sources-theorem library_calls library_effect
