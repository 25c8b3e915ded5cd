-- The margin, each input sample, each sigma and each unaltered sample are needed: if one of them is wrong, some sample of the result
-- differs from the larger picture. Assumes nothing.
use mathlib.Core.Path.{◌≡◌, refl, sym, ap, subst, ◌∙◌}
use mathlib.Core.Bool.{true, false, true≢false, cond, ◌&&◌}
use mathlib.Core.List.{List, [], ◌∷◌}
use Prim.Native.Nat.{ℕ, zero, suc, ◌<◌}
use native.Mathlib.Omega.{arith}
use borrow.Author.Tests.{eq-eqb}
use lib.Dec.{T, eqb}
use lib.IntN.{ℤ, pos, negsuc}
use lib.Ieee.{Float, of_bits, lt, add, sub, mul, div}
use Rattle.region_interval.proofs.Order.{lt-to}
use Rattle.region.specs.Regions.{inside, Holds}
use Rattle.region.proofs.Regions.{holds-in-larger}
use Rattle.planes.specs.Samples.{bits, b0, b1}
use Rattle.planes.specs.Picture.{Picture, around}
use Rattle.planes.specs.Sets.{of, set_of, tab}
use Rattle.planes.specs.Band.{inner, planes_fit}
use Rattle.planes.proofs.Stored.{planes-few}
use Rattle.refusals.proofs.Tables.{is_true}
use Rattle.planes_layout.specs.Outcome.{layout_of}
use Rattle.mirror.specs.Mirror.{mirror}
use Rattle.rounding.specs.Magnitude.{magnitude}
use Rattle.gabor_kernel.specs.Gabor.{gabor_pass, gabor_by, alone}
use Rattle.gabor_kernel.specs.Ends.{stands}
use Rattle.gabor_kernel.specs.Formula.{evaluate, formula}
use Rattle.epf_step.specs.Steps.{kernel, dists, along, scaled_from, apart, distance, positive, weight_by, copied, weight_at, blend, divisor, epf, border, multiplier, epf_pass}
use Rattle.frame.specs.Sizes.{sizes_of}
use Rattle.sigma_grids.specs.Table.{cells, grid_start}
use Rattle.sigma.specs.Sigma.{sigma_in, frame_sigma, block_sigma, block_sigmas}
use Rattle.run_passes.specs.Pass.{pass, passes}
use Rattle.run_passes.specs.Plan.{plan, steps, step_of, scale_of, step_margin}
use Rattle.run_setup.specs.Setup.{band_count}
use Rattle.run_setup.proofs.Laws.{setup-fits}
use Rattle.run_record.specs.Record.{is_done, started, marked, finished, not_open}
use Rattle.run_record.proofs.Laws.{band-open}
use Rattle.run_outcomes.specs.Start.{Handed, start_leaves, sigmas_filled}
use Rattle.run_outcomes.specs.Band.{State, band_outcome}
use Rattle.run_outcomes.proofs.Laws.{band-number, band-accepted}
use Rattle.run_calls.specs.Calls.{StartAccepted, start_state, LibraryCall, band, advance, answer, number_in, left_by, library_calls, state_after, end, Unaltered}
use Rattle.run_calls.proofs.Effects.{library_effect}
use Rattle.run_calls.specs.Places.{Clear, input_at, sample_at, sigma_at, result_at}
use Rattle.run_calls.specs.Theorem.{DeliversBeyond, Premises, result_on}
use Rattle.run_calls.specs.Corollaries.{FinishedRun, handed_over}
use Rattle.run_calls.specs.Needed.{Premise, start-accepted, unrefused, contained, same-passes, inputs-agree, sigmas-alike, buffers-unaltered, run-finished, slice_fits, Says, PremisesSay, GaborMarginNeeded, StepMarginNeeded, InputsNeeded, block, SigmasNeeded, altered, UnalteredNeeded}
use Rattle.run_calls.specs.Example.{smaller, larger, calls, slice}
use Rattle.run_calls.specs.EdgeExample.{smaller as smaller_edge, larger as larger_edge, calls as calls_edge, slice as slice_edge}
use Rattle.run_calls.proofs.Lists.{start-state, start-sound, picture-accepted}
use Rattle.run_calls.proofs.Corollaries.{whole-picture}
use Rattle.run_calls.proofs.Example.{premises-met, unlike-sources-met, place-clear}
use Rattle.run_calls.proofs.EdgeExample.{edge-premises-met, edge-sources-met, edge-place-clear}

-- ---- the premises one by one

say : {small large : Handed} {cs : List LibraryCall} {out : List Float} → Premises library_calls small large cs out → (p : Premise) → Says p small large cs out
say premises start-accepted = premises.start-accepted
say premises unrefused = premises.cut-from-larger.unrefused
say premises contained = premises.cut-from-larger.contained
say premises same-passes = premises.cut-from-larger.same-passes
say premises inputs-agree = premises.cut-from-larger.inputs-agree
say premises sigmas-alike = premises.cut-from-larger.sigmas-alike
say premises buffers-unaltered = premises.buffers-unaltered
say premises run-finished = premises.run-finished
say premises slice_fits = premises.slice_fits

pub premises-say : PremisesSay
premises-say small large cs out = (
  λ premises. say premises,
  λ says. record {
    start-accepted = says start-accepted;
    cut-from-larger = record { unrefused = says unrefused; contained = says contained; same-passes = says same-passes; inputs-agree = says inputs-agree; sigmas-alike = says sigmas-alike };
    buffers-unaltered = says buffers-unaltered;
    run-finished = says run-finished;
    slice_fits = says slice_fits;
  },
)

-- ---- the result of a run has the samples of its own picture

abbrev pub run_of : {small large : Handed} {cs : List LibraryCall} {out : List Float} → Premises library_calls small large cs out → FinishedRun library_calls small
run_of {small} {large} {cs} {out} p = record {
  accepted = p.start-accepted;
  calls = cs;
  unaltered = p.buffers-unaltered;
  ended = p.run-finished;
  slice = out;
  room = p.slice_fits;
}

-- an accepted picture has a first plane
first-plane : (h : Handed) → StartAccepted h → 0 < h.setup.planes
first-plane h e = (planes-few h.setup.planes (is_true (planes_fit h.setup.planes) (setup-fits h.setup (picture-accepted h e).setup).planes)).0

own-sample : (small : Handed) (r : FinishedRun library_calls small) (x y : ℤ) → Holds small.setup.filter x y
    → result_at small.setup (handed_over library_calls small r).out 0 x y ≡ sample_at small 0 x y
own-sample small r x y held = (whole-picture library_calls library_effect small r).1 0 x y (first-plane small r.accepted) held

-- if these differ from the larger picture's at a clear position, the theorem's conclusion is false
pub not-delivered : (m : ℕ) (small large : Handed) (r : FinishedRun library_calls small) (x y : ℤ) → Holds small.setup.filter x y → Clear m small.setup.filter large.setup.filter x y
    → (sample_at small 0 x y ≡ sample_at large 0 x y → ⊥) → DeliversBeyond m small large (handed_over library_calls small r) → ⊥
not-delivered m small large r x y held clear unlike delivers = unlike (sym (own-sample small r x y held) ∙ delivers.samples 0 x y (first-plane small r.accepted) held clear)

-- samples of which one is less than the other are different
pub less-unlike : (a b : Float) → lt a b ≡ true → lt b b ≡ false → a ≡ b → ⊥
less-unlike a b l i e = true≢false (sym l ∙ ap (λ (z : Float). lt z b) e ∙ i)

-- ---- Gabor alone: one row, weights 1/2 and 1/4

abbrev pub weights : List (List Float)
weights = let h : List Float = bits 0x3f00_0000 ∷ bits 0x3e80_0000 ∷ [] in h ∷ h ∷ h ∷ []

-- 16 just left of the cut edge, 0 elsewhere
abbrev beyond : Picture
beyond = λ c x y. cond (eqb x 0) (bits 0x4180_0000) b0

seen : lt (sample_at (smaller 3 beyond weights) 0 (pos 0) (pos 0)) (sample_at (larger 3 beyond weights) 0 (pos 0) (pos 0)) ≡ true
unfolding start_leaves of_bits lt add sub mul div mirror around of set_of tab inner layout_of pass passes plan steps gabor_pass gabor_by alone stands evaluate formula sigmas_filled
seen = refl

seen-itself : lt (sample_at (larger 3 beyond weights) 0 (pos 0) (pos 0)) (sample_at (larger 3 beyond weights) 0 (pos 0) (pos 0)) ≡ false
unfolding start_leaves of_bits lt add sub mul div mirror around of set_of tab inner layout_of pass passes plan steps gabor_pass gabor_by alone stands evaluate formula sigmas_filled
seen-itself = refl

pub gabor-margin-needed : GaborMarginNeeded
unfolding step_margin
gabor-margin-needed claim =
    let small = smaller 3 beyond weights in
    let large = larger 3 beyond weights in
    let premises = premises-met 3 tt beyond weights in
    let held : Holds small.setup.filter (pos 0) (pos 0) = record { column = record { from = tt; before = tt }; row = record { from = tt; before = tt } } in
    let clear : Clear 0 small.setup.filter large.setup.filter (pos 0) (pos 0) = record { left = λ f. tt; right = λ f. tt; top = λ f. tt; bottom = λ f. tt } in
    not-delivered 0 small large (run_of premises) (pos 0) (pos 0) held clear (less-unlike _ _ seen seen-itself) (claim small large (calls 3 beyond weights) (slice 3 beyond weights) refl (unlike-sources-met 3 tt beyond weights))

-- ---- one iteration alone: sigma 64

abbrev pub ones : List Float
ones = b1 ∷ b1 ∷ b1 ∷ []

abbrev pub sigma64 : Float
sigma64 = bits 0x4280_0000

-- 1 in the first column beyond the cut edge, 0 elsewhere
abbrev first-column : Picture
first-column = λ c x y. cond (eqb x 8) b1 b0

edge-seen : lt (sample_at (larger_edge first-column ones b1 sigma64) 0 (pos 9) (pos 0)) (sample_at (smaller_edge first-column ones b1 sigma64) 0 (pos 9) (pos 0)) ≡ true
unfolding start_leaves of_bits lt add sub mul div mirror around of set_of tab inner layout_of pass passes plan steps step_of scale_of sigmas_filled block_sigmas block_sigma frame_sigma sigma_in sizes_of grid_start cells magnitude kernel dists along scaled_from apart distance positive weight_by copied weight_at blend divisor epf border multiplier epf_pass
edge-seen = refl

edge-seen-itself : lt (sample_at (smaller_edge first-column ones b1 sigma64) 0 (pos 9) (pos 0)) (sample_at (smaller_edge first-column ones b1 sigma64) 0 (pos 9) (pos 0)) ≡ false
unfolding start_leaves of_bits lt add sub mul div mirror around of set_of tab inner layout_of pass passes plan steps step_of scale_of sigmas_filled block_sigmas block_sigma frame_sigma sigma_in sizes_of grid_start cells magnitude kernel dists along scaled_from apart distance positive weight_by copied weight_at blend divisor epf border multiplier epf_pass
edge-seen-itself = refl

pub step-margin-needed : StepMarginNeeded
unfolding step_margin
step-margin-needed claim =
    let small = smaller_edge first-column ones b1 sigma64 in
    let large = larger_edge first-column ones b1 sigma64 in
    let premises = edge-premises-met first-column ones b1 sigma64 in
    let held : Holds small.setup.filter (pos 9) (pos 0) = record { column = record { from = tt; before = tt }; row = record { from = tt; before = tt } } in
    let clear : Clear 1 small.setup.filter large.setup.filter (pos 9) (pos 0) = record { left = λ f. tt; right = λ f. tt; top = λ f. absurd (f refl); bottom = λ f. absurd (f refl) } in
    let cs = calls_edge first-column ones b1 sigma64 in
    let out = slice_edge first-column ones b1 sigma64 in
    not-delivered 1 small large (run_of premises) (pos 9) (pos 0) held clear (λ e. less-unlike _ _ edge-seen edge-seen-itself (sym e)) (claim small large cs out refl (edge-sources-met first-column ones b1 sigma64))

-- ---- one different input sample

abbrev blank : Picture
blank = λ c x y. b0

-- 16 in the first channel at column 1, 0 elsewhere
abbrev spot : Picture
spot = λ c x y. cond (eqb c 0 && eqb x 2) (bits 0x4180_0000) b0

spot-seen : lt (sample_at (larger 3 blank weights) 0 (pos 1) (pos 0)) (sample_at (smaller 3 spot weights) 0 (pos 1) (pos 0)) ≡ true
unfolding start_leaves of_bits lt add sub mul div mirror around of set_of tab inner layout_of pass passes plan steps gabor_pass gabor_by alone stands evaluate formula sigmas_filled
spot-seen = refl

spot-itself : lt (sample_at (smaller 3 spot weights) 0 (pos 1) (pos 0)) (sample_at (smaller 3 spot weights) 0 (pos 1) (pos 0)) ≡ false
unfolding start_leaves of_bits lt add sub mul div mirror around of set_of tab inner layout_of pass passes plan steps gabor_pass gabor_by alone stands evaluate formula sigmas_filled
spot-itself = refl

-- the three columns of the smaller picture
column-0 : (c : ℕ) → c < 3 → input_at (smaller 3 spot weights) c (pos 0) (pos 0) ≡ input_at (larger 3 blank weights) c (pos 0) (pos 0)
unfolding start_leaves of set_of tab inner layout_of
column-0 zero h = refl
column-0 (suc zero) h = refl
column-0 (suc (suc zero)) h = refl
column-0 (suc (suc (suc c))) h = absurd (omega arith)

column-1 : (c : ℕ) → c < 3 → (c ≡ 0 → ⊥) → input_at (smaller 3 spot weights) c (pos 1) (pos 0) ≡ input_at (larger 3 blank weights) c (pos 1) (pos 0)
unfolding start_leaves of set_of tab inner layout_of
column-1 zero h o = absurd (o refl)
column-1 (suc zero) h o = refl
column-1 (suc (suc zero)) h o = refl
column-1 (suc (suc (suc c))) h o = absurd (omega arith)

column-2 : (c : ℕ) → c < 3 → input_at (smaller 3 spot weights) c (pos 2) (pos 0) ≡ input_at (larger 3 blank weights) c (pos 2) (pos 0)
unfolding start_leaves of set_of tab inner layout_of
column-2 zero h = refl
column-2 (suc zero) h = refl
column-2 (suc (suc zero)) h = refl
column-2 (suc (suc (suc c))) h = absurd (omega arith)

inputs-but : (c : ℕ) (x y : ℤ) → c < 3 → Holds (smaller 3 spot weights).setup.filter x y → ((c ≡ 0) × (x ≡ pos 1) × (y ≡ pos 0) → ⊥) → input_at (smaller 3 spot weights) c x y ≡ input_at (larger 3 blank weights) c x y
inputs-but c x (pos (suc j)) h held o = absurd (omega (arith, lt-to (pos (suc j)) (pos 1) held.row.before))
inputs-but c x (negsuc j) h held o = absurd held.row.from
inputs-but c (negsuc i) (pos zero) h held o = absurd held.column.from
inputs-but c (pos zero) (pos zero) h held o = column-0 c h
inputs-but c (pos (suc zero)) (pos zero) h held o = column-1 c h (λ z. o (z, refl, refl))
inputs-but c (pos (suc (suc zero))) (pos zero) h held o = column-2 c h
inputs-but c (pos (suc (suc (suc i)))) (pos zero) h held o = absurd (omega (arith, lt-to (pos (suc (suc (suc i)))) (pos 3) held.column.before))

inputs-others : (p : Premise) → (p ≡ inputs-agree → ⊥) → Says p (smaller 3 spot weights) (larger 3 blank weights) (calls 3 spot weights) (slice 3 spot weights)
unfolding plan steps
inputs-others start-accepted n = (premises-met 3 tt spot weights).start-accepted
inputs-others unrefused n = (premises-met 3 tt blank weights).cut-from-larger.unrefused
inputs-others contained n = (premises-met 3 tt blank weights).cut-from-larger.contained
inputs-others same-passes n = refl
inputs-others inputs-agree n = absurd (n refl)
inputs-others sigmas-alike n = λ on. absurd on
inputs-others buffers-unaltered n = (premises-met 3 tt spot weights).buffers-unaltered
inputs-others run-finished n = (premises-met 3 tt spot weights).run-finished
inputs-others slice_fits n = (premises-met 3 tt spot weights).slice_fits

pub inputs-needed : InputsNeeded
inputs-needed claim =
    let small = smaller 3 spot weights in
    let large = larger 3 blank weights in
    let there = place-clear 3 spot weights in
    not-delivered _ small large (run_of (premises-met 3 tt spot weights)) (pos 1) (pos 0) there.0 there.1 (λ e. less-unlike _ _ spot-seen spot-itself (sym e))
    (claim small large (calls 3 spot weights) (slice 3 spot weights) inputs-others inputs-but)

-- ---- one different sigma

-- a block with this sigma is copied
abbrev pub quarter : Float
quarter = bits 0x3e80_0000

abbrev tenth-column : Picture
tenth-column = λ c x y. cond (eqb x 10) b1 b0

sigma-seen : lt (sample_at (smaller_edge tenth-column ones b1 sigma64) 0 (pos 10) (pos 0)) (sample_at (larger_edge tenth-column ones b1 quarter) 0 (pos 10) (pos 0)) ≡ true
unfolding start_leaves of_bits lt add sub mul div mirror around of set_of tab inner layout_of pass passes plan steps step_of scale_of sigmas_filled block_sigmas block_sigma frame_sigma sigma_in sizes_of grid_start cells magnitude kernel dists along scaled_from apart distance positive weight_by copied weight_at blend divisor epf border multiplier epf_pass
sigma-seen = refl

sigma-itself : lt (sample_at (larger_edge tenth-column ones b1 quarter) 0 (pos 10) (pos 0)) (sample_at (larger_edge tenth-column ones b1 quarter) 0 (pos 10) (pos 0)) ≡ false
unfolding start_leaves of_bits lt add sub mul div mirror around of set_of tab inner layout_of pass passes plan steps step_of scale_of sigmas_filled block_sigmas block_sigma frame_sigma sigma_in sizes_of grid_start cells magnitude kernel dists along scaled_from apart distance positive weight_by copied weight_at blend divisor epf border multiplier epf_pass
sigma-itself = refl

sigmas-others : (p : Premise) → (p ≡ sigmas-alike → ⊥)
    → Says p (smaller_edge tenth-column ones b1 sigma64) (larger_edge tenth-column ones b1 quarter) (calls_edge tenth-column ones b1 sigma64) (slice_edge tenth-column ones b1 sigma64)
unfolding start_leaves plan steps step_of scale_of
sigmas-others start-accepted n = (edge-premises-met tenth-column ones b1 sigma64).start-accepted
sigmas-others unrefused n = (edge-premises-met tenth-column ones b1 quarter).cut-from-larger.unrefused
sigmas-others contained n = (edge-premises-met tenth-column ones b1 sigma64).cut-from-larger.contained
sigmas-others same-passes n = refl
sigmas-others inputs-agree n = (edge-premises-met tenth-column ones b1 sigma64).cut-from-larger.inputs-agree
sigmas-others sigmas-alike n = absurd (n refl)
sigmas-others buffers-unaltered n = (edge-premises-met tenth-column ones b1 sigma64).buffers-unaltered
sigmas-others run-finished n = (edge-premises-met tenth-column ones b1 sigma64).run-finished
sigmas-others slice_fits n = (edge-premises-met tenth-column ones b1 sigma64).slice_fits

-- every position of the smaller filter region lies in that block
sigmas-but : (x y : ℤ) → Holds (smaller_edge tenth-column ones b1 sigma64).setup.filter x y → (Holds block x y → ⊥)
    → sigma_at (smaller_edge tenth-column ones b1 sigma64) x y ≡ sigma_at (larger_edge tenth-column ones b1 quarter) x y
unfolding inside
sigmas-but x y held o = absurd (o (holds-in-larger block (smaller_edge tenth-column ones b1 sigma64).setup.filter tt x y held))

pub sigmas-needed : SigmasNeeded
sigmas-needed claim =
    let small = smaller_edge tenth-column ones b1 sigma64 in
    let large = larger_edge tenth-column ones b1 quarter in
    let there = edge-place-clear tenth-column ones b1 sigma64 in
    let cs = calls_edge tenth-column ones b1 sigma64 in
    let out = slice_edge tenth-column ones b1 sigma64 in
    not-delivered _ small large (run_of (edge-premises-met tenth-column ones b1 sigma64)) (pos 10) (pos 0) there.0 there.1 (less-unlike _ _ sigma-seen sigma-itself)
    (claim small large cs out sigmas-others sigmas-but)

-- ---- one altered sample

-- if an accepted first call leads to the same state from t and from u, the list leads to the same end
first-decides : (c : LibraryCall) (cs : List LibraryCall) (t u : State) → number_in (answer c) ≡ 0 → left_by t (answer c) ≡ left_by u (answer c)
    → (state_after library_calls t c ≡ state_after library_calls u c) × (end library_calls t (c ∷ cs) ≡ end library_calls u (c ∷ cs))
unfolding state_after end
first-decides c cs t u e l = let same = eq-eqb (number_in (answer c)) 0 e in (rw (same, l), rw (same, l))

-- the blank picture's state with 16 at that sample is the spot picture's state
altered-is : altered (bits 0x4180_0000) (start_state (smaller 3 blank weights)) ≡ start_state (smaller 3 spot weights)
unfolding start_leaves set_of tab sigmas_filled
altered-is =
    let a = start-state (smaller 3 blank weights) (premises-met 3 tt blank weights).start-accepted in
    let b = start-state (smaller 3 spot weights) (premises-met 3 tt spot weights).start-accepted in
    ap (altered (bits 0x4180_0000)) a ∙ sym b

-- the spot picture's calls after its first
abbrev later : List LibraryCall
later =
    let t = start_state (smaller 3 spot weights) in
    let done = marked t.run 0 in
    band (record { run = done; sigmas = t.sigmas; first = t.first; second = t.second }) 0 ∷ advance t.run ∷ advance done ∷ []

-- its first call is accepted
open-first : not_open (start_state (smaller 3 spot weights)).run 0 ≡ false
unfolding started is_done band_count layout_of plan steps
open-first = rw (start-state (smaller 3 spot weights) (premises-met 3 tt spot weights).start-accepted) refl

first_taken : (band_outcome (start_state (smaller 3 spot weights)) 0).number ≡ 0
first_taken =
    let h = smaller 3 spot weights in
    let e = (premises-met 3 tt spot weights).start-accepted in
    let i = start-sound h e in
    let t : State = start_state h in
    band-number t 0 ∙ band-accepted t 0 i.first-length i.second-length i.sigma-length i.run (band-open t.run 0 open-first)

module _ (first : State) (same : first ≡ start_state (smaller 3 spot weights)) where
  -- the blank picture's run with such a first band ends as the spot picture's does
  ends-alike : end library_calls (start_state (smaller 3 blank weights)) (band first 0 ∷ later) ≡ end library_calls (start_state (smaller 3 spot weights)) (calls 3 spot weights)
  ends-alike = rw same (first-decides (band (start_state (smaller 3 spot weights)) 0) later (start_state (smaller 3 blank weights)) (start_state (smaller 3 spot weights)) first_taken refl).1

  then-alike : Unaltered library_calls (state_after library_calls (start_state (smaller 3 blank weights)) (band first 0)) later
  then-alike =
      let alike = (first-decides (band (start_state (smaller 3 spot weights)) 0) later (start_state (smaller 3 blank weights)) (start_state (smaller 3 spot weights)) first_taken refl).0 in
      rw same (subst (λ (s : State). Unaltered library_calls s later) (sym alike) (premises-met 3 tt spot weights).buffers-unaltered.1)

  altered-others : (p : Premise) → (p ≡ buffers-unaltered → ⊥) → Says p (smaller 3 blank weights) (larger 3 blank weights) (band first 0 ∷ later) (slice 3 blank weights)
  altered-others start-accepted n = (premises-met 3 tt blank weights).start-accepted
  altered-others unrefused n = (premises-met 3 tt blank weights).cut-from-larger.unrefused
  altered-others contained n = (premises-met 3 tt blank weights).cut-from-larger.contained
  altered-others same-passes n = (premises-met 3 tt blank weights).cut-from-larger.same-passes
  altered-others inputs-agree n = (premises-met 3 tt blank weights).cut-from-larger.inputs-agree
  altered-others sigmas-alike n = (premises-met 3 tt blank weights).cut-from-larger.sigmas-alike
  altered-others buffers-unaltered n = absurd (n refl)
  altered-others run-finished n = subst (λ (s : State). T (finished s.run)) (sym ends-alike) (premises-met 3 tt spot weights).run-finished
  altered-others slice_fits n = (premises-met 3 tt blank weights).slice_fits

pub unaltered-needed : UnalteredNeeded
unaltered-needed claim =
    let small = smaller 3 blank weights in
    let large = larger 3 blank weights in
    let first : State = altered (bits 0x4180_0000) (start_state small) in
    let out = slice 3 blank weights in
    let there = place-clear 3 blank weights in
    let delivers = claim small large (band first 0 ∷ later) out (altered-others first altered-is) (record {
      sample = bits 0x4180_0000;
      number = 0;
      later = later;
      calls = refl;
      then-unaltered = then-alike first altered-is;
    }) in
    let own = own-sample (smaller 3 spot weights) (run_of (premises-met 3 tt spot weights)) (pos 1) (pos 0) there.0 in
    less-unlike _ _ spot-seen spot-itself
    (sym (delivers.samples 0 (pos 1) (pos 0) (omega arith) there.0 there.1) ∙ ap (λ (s : State). result_at small.setup (result_on s out).out 0 (pos 1) (pos 0)) (ends-alike first altered-is) ∙ own)
