-- Each premise of the theorem on rectangles is needed: for each there are pictures, calls and a slice that meet all others, and a result
-- that differs from the larger picture. Assumes nothing.
use mathlib.Core.Path.{◌≡◌, refl, sym, ◌∙◌}
use mathlib.Core.Bool.{true, false, cond, ◌&&◌}
use mathlib.Core.List.{List, [], ◌∷◌}
use Prim.Native.Nat.{ℕ, zero, suc, ◌+◌, ◌/◌, ◌<◌}
use native.Mathlib.Omega.{arith}
use lib.Dec.{T, eqb}
use lib.IntN.{ℤ, pos, negsuc, nat_abs, ◌-ℤ◌}
use lib.Ieee.{Float, of_bits, lt, add, sub, mul, div}
use Rattle.region_interval.proofs.Order.{lt-to}
use Rattle.region_interval.proofs.Positions.{offset-below, offsets-add}
use Rattle.region.specs.declared.Region.{Region}
use Rattle.region.specs.Regions.{inside, Holds}
use Rattle.region.specs.Measures.{bounds_fit, picture_fits}
use Rattle.region_axis.specs.Measures.{corner_fits, side_fits}
use Rattle.planes.specs.Samples.{bits, b0, b1}
use Rattle.planes.specs.Picture.{Picture, around}
use Rattle.planes.specs.Sets.{of, set_of, tab}
use Rattle.planes.proofs.SetLaws.{of-set_of}
use Rattle.planes.specs.Band.{inner}
use Rattle.planes_layout.specs.Outcome.{layout_of}
use Rattle.mirror.specs.Mirror.{mirror}
use Rattle.rounding.specs.Magnitude.{magnitude}
use Rattle.gabor_kernel.specs.Gabor.{gabor_pass, gabor_by, alone}
use Rattle.gabor_kernel.specs.Ends.{stands}
use Rattle.gabor_kernel.specs.Formula.{evaluate, formula}
use Rattle.epf_step.specs.Steps.{kernel, dists, along, scaled_from, apart, distance, positive, weight_by, copied, weight_at, blend, divisor, epf, border, multiplier, epf_pass}
use Rattle.frame.specs.Sizes.{sizes_of}
use Rattle.frame.specs.Outcome.{bad_sides, bad_settings}
use Rattle.sigma_grids.specs.Table.{bad_grid, cells, grid_start, some_below}
use Rattle.sigma_groups.specs.Outcome.{table_fits, grids_fit}
use Rattle.sigma.specs.Sigma.{sigma_in, frame_sigma, block_sigma, block_sigmas}
use Rattle.run_passes.specs.declared.Settings.{Settings}
use Rattle.run_passes.specs.Pass.{pass, passes}
use Rattle.run_passes.specs.Plan.{plan, steps, step_of, scale_of, step_margin}
use Rattle.run_setup.specs.Setup.{band_count, numbers_fit, setup_fits, size_fits}
use Rattle.run_record.specs.Record.{is_done, started, bad_done, bands_left_in, count_below, run_fits}
use Rattle.run_setup.specs.Makers.{no_setup}
use Rattle.run_outcomes.specs.Start.{Handed, picture_checks, start_checks, start_leaves, sigmas_filled, start_outcome}
use Rattle.run_outcomes.specs.Result.{result_checks, result_outcome}
use Rattle.run_calls.specs.Calls.{library_calls, end}
use Rattle.run_calls.specs.Places.{Clear, input_at, sample_at, sigma_at}
use Rattle.run_calls.specs.Theorem.{result_after}
use Rattle.run_calls.specs.Corollaries.{FinishedRun}
use Rattle.run_calls.specs.Theorem.{SameSources}
use Rattle.sigma_grids.specs.Table.{present, grid_width, grid_height}
use Rattle.run_calls.specs.Needed.{UnrefusedNeeded, Premise, start-accepted, unrefused, contained, same-passes, inputs-agree, sigmas-alike, buffers-unaltered, run-finished, slice_fits, Says, EachNeeded}
use Rattle.run_calls.specs.Example.{smaller, calls, slice}
use Rattle.run_calls.specs.EdgeExample.{smaller as smaller_edge, larger as larger_edge, calls as calls_edge, slice as slice_edge}
use Rattle.run_calls.proofs.Example.{premises-met}
use Rattle.run_calls.proofs.EdgeExample.{edge-premises-met}
use Rattle.run_calls.proofs.Needed.{run_of, not-delivered, less-unlike, weights, ones, sigma64, inputs-needed, sigmas-needed, unaltered-needed}

-- ---- one row of three columns

abbrev row : ℕ → ℕ → Region
row left width = record { left = pos left; top = pos 0; width = width; height = 1 }

-- columns 0 to 2; no group has a grid
abbrev handed : Region → Settings → List Float → List Float → Handed
handed filter settings first second = record {
  setup = record { image = row 0 3; filter = filter; planes = 3; preserve_outside = 0; settings = settings; band_height = 1 };
  frame = record { width = 8; height = 8; upsampling = 1; lf_level = 0; group_size_shift = 0 };
  table = 0 ∷ 0 ∷ 0 ∷ [];
  grids = [];
  first = first;
  second = second;
  sigmas = [];
}

abbrev zeros : List Float
zeros = set_of 3 3 1 (λ c x y. b0)

-- 0, 16, 0
abbrev peak : List Float
peak = set_of 3 3 1 (λ c x y. cond (eqb x 1) (bits 0x4180_0000) b0)

-- with no pass, and with the Gabor-like filter
abbrev plain : Handed
plain = handed (row 0 3) no_setup.settings peak zeros

abbrev gabor : Settings
gabor = record { gabor = record { enabled = 1; weights = weights }; epf = no_setup.settings.epf }

abbrev blurred : Handed
blurred = handed (row 0 3) gabor peak zeros

-- ---- a start that is refused (7): its record of zeros is refused by the result (9)

abbrev unstarted : Handed
unstarted = handed (row 0 3) no_setup.settings peak []

start-others : (p : Premise) → (p ≡ start-accepted → ⊥) → Says p unstarted plain [] zeros
unfolding start_outcome start_checks picture_checks picture_fits bounds_fit corner_fits side_fits inside bad_sides bad_settings sizes_of table_fits grids_fit grid_start cells some_below bad_grid band_count layout_of set_of tab start_leaves started plan steps end
start-others start-accepted n = absurd (n refl)
start-others unrefused n = refl
start-others contained n = tt
start-others same-passes n = refl
start-others inputs-agree n = λ c x y h held. refl
start-others sigmas-alike n = λ on. absurd on
start-others buffers-unaltered n = tt
start-others run-finished n = tt
start-others slice_fits n = refl

no_record : (result_after library_calls unstarted [] zeros).number ≡ 9
unfolding start_outcome start_checks picture_checks picture_fits bounds_fit corner_fits side_fits inside bad_sides bad_settings sizes_of table_fits grids_fit grid_start cells some_below bad_grid band_count layout_of set_of tab started end result_outcome result_checks size_fits run_fits setup_fits
no_record = refl

-- ---- no band and no advance: the result is refused (11)

finish-others : (p : Premise) → (p ≡ run-finished → ⊥) → Says p blurred blurred [] zeros
unfolding start_outcome start_checks picture_checks picture_fits bounds_fit corner_fits side_fits inside bad_sides bad_settings sizes_of table_fits grids_fit grid_start cells some_below bad_grid band_count layout_of set_of tab
finish-others start-accepted n = refl
finish-others unrefused n = refl
finish-others contained n = tt
finish-others same-passes n = refl
finish-others inputs-agree n = λ c x y h held. refl
finish-others sigmas-alike n = λ on. absurd on
finish-others buffers-unaltered n = tt
finish-others run-finished n = absurd (n refl)
finish-others slice_fits n = refl

unfinished : (result_after library_calls blurred [] zeros).number ≡ 11
unfolding start_outcome start_checks start_leaves picture_checks picture_fits bounds_fit corner_fits side_fits inside bad_sides bad_settings sizes_of table_fits grids_fit grid_start cells some_below bad_grid band_count layout_of set_of tab started end plan steps result_outcome result_checks run_fits bad_done bands_left_in count_below is_done numbers_fit setup_fits size_fits
unfinished = refl

-- ---- an empty slice: the result is refused (7)

slice-others : (p : Premise) → (p ≡ slice_fits → ⊥) → Says p plain plain [] []
unfolding start_outcome start_checks picture_checks picture_fits bounds_fit corner_fits side_fits inside bad_sides bad_settings sizes_of table_fits grids_fit grid_start cells some_below bad_grid band_count layout_of set_of tab started plan steps end
slice-others start-accepted n = refl
slice-others unrefused n = refl
slice-others contained n = tt
slice-others same-passes n = refl
slice-others inputs-agree n = λ c x y h held. refl
slice-others sigmas-alike n = λ on. absurd on
slice-others buffers-unaltered n = tt
slice-others run-finished n = tt
slice-others slice_fits n = absurd (n refl)

no_room : (result_after library_calls plain [] []).number ≡ 7
unfolding start_outcome start_checks start_leaves picture_checks picture_fits bounds_fit corner_fits side_fits inside bad_sides bad_settings sizes_of table_fits grids_fit grid_start cells some_below bad_grid band_count layout_of set_of tab started end result_outcome result_checks size_fits
no_room = refl

-- ---- no pass, but the larger picture has one

passes-others : (p : Premise) → (p ≡ same-passes → ⊥) → Says p plain blurred [] zeros
unfolding start_outcome start_checks picture_checks picture_fits bounds_fit corner_fits side_fits inside bad_sides bad_settings sizes_of table_fits grids_fit grid_start cells some_below bad_grid band_count layout_of set_of tab start_leaves started plan steps end
passes-others start-accepted n = refl
passes-others unrefused n = refl
passes-others contained n = tt
passes-others same-passes n = absurd (n refl)
passes-others inputs-agree n = λ c x y h held. refl
passes-others sigmas-alike n = λ on. absurd on
passes-others buffers-unaltered n = tt
passes-others run-finished n = tt
passes-others slice_fits n = refl

plain-run : FinishedRun library_calls plain
unfolding start_outcome start_checks picture_checks picture_fits bounds_fit corner_fits side_fits inside bad_sides bad_settings sizes_of table_fits grids_fit grid_start cells some_below bad_grid band_count layout_of set_of tab started plan steps end
plain-run = record { accepted = refl; calls = []; unaltered = tt; ended = tt; slice = zeros; room = refl }

middle-held : Holds (row 0 3) (pos 1) (pos 0)
middle-held = record { column = record { from = tt; before = tt }; row = record { from = tt; before = tt } }

passes-seen : lt (sample_at blurred 0 (pos 1) (pos 0)) (sample_at plain 0 (pos 1) (pos 0)) ≡ true
unfolding start_leaves of_bits lt add sub mul div mirror around of set_of tab inner layout_of pass passes plan steps gabor_pass gabor_by alone stands evaluate formula sigmas_filled
passes-seen = refl

passes-itself : lt (sample_at plain 0 (pos 1) (pos 0)) (sample_at plain 0 (pos 1) (pos 0)) ≡ false
unfolding start_leaves of_bits lt of set_of tab inner layout_of passes plan steps sigmas_filled
passes-itself = refl

-- ---- a larger filter region that is the middle column alone, whose sample is copied

-- 16, 0, 16 from column 0 on
abbrev sides : Picture
sides = λ c x y. cond (eqb x 2) b0 (bits 0x4180_0000)

abbrev alone-there : Handed
alone-there = handed (row 1 1) gabor (smaller 3 sides weights).first zeros

-- counted from the middle column, both sides have the same index and so the same sample
same-sides : (c : ℕ) (x y : ℤ) → c < 3 → Holds (smaller 3 sides weights).setup.filter x y → input_at (smaller 3 sides weights) c x y ≡ input_at alone-there c x y
unfolding start_leaves inner layout_of
same-sides c x (pos (suc j)) h held = absurd (omega (arith, lt-to (pos (suc j)) (pos 1) held.row.before))
same-sides c x (negsuc j) h held = absurd held.row.from
same-sides c (negsuc i) (pos zero) h held = absurd held.column.from
same-sides c (pos zero) (pos zero) h held = of-set_of 3 3 1 (λ c x y. sides c (suc x) y) c 0 0 h (omega arith) (omega arith) ∙ sym (of-set_of 3 3 1 (λ c x y. sides c (suc x) y) c 2 0 h (omega arith) (omega arith))
same-sides c (pos (suc zero)) (pos zero) h held = refl
same-sides c (pos (suc (suc zero))) (pos zero) h held = refl
same-sides c (pos (suc (suc (suc i)))) (pos zero) h held = absurd (omega (arith, lt-to (pos (suc (suc (suc i)))) (pos 3) held.column.before))

contained-others : (p : Premise) → (p ≡ contained → ⊥) → Says p (smaller 3 sides weights) alone-there (calls 3 sides weights) (slice 3 sides weights)
unfolding picture_checks picture_fits bounds_fit corner_fits side_fits inside bad_sides bad_settings sizes_of table_fits grids_fit grid_start cells some_below bad_grid band_count layout_of set_of tab plan steps
contained-others start-accepted n = (premises-met 3 tt sides weights).start-accepted
contained-others unrefused n = refl
contained-others contained n = absurd (n refl)
contained-others same-passes n = refl
contained-others inputs-agree n = same-sides
contained-others sigmas-alike n = λ on. absurd on
contained-others buffers-unaltered n = (premises-met 3 tt sides weights).buffers-unaltered
contained-others run-finished n = (premises-met 3 tt sides weights).run-finished
contained-others slice_fits n = (premises-met 3 tt sides weights).slice_fits

middle-clear : Clear 1 (row 0 3) (row 1 1) (pos 1) (pos 0)
middle-clear = record { left = λ f. tt; right = λ f. tt; top = λ f. absurd (f refl); bottom = λ f. absurd (f refl) }

contained-seen : lt (sample_at alone-there 0 (pos 1) (pos 0)) (sample_at (smaller 3 sides weights) 0 (pos 1) (pos 0)) ≡ true
unfolding start_leaves of_bits lt add sub mul div mirror around of set_of tab inner layout_of pass passes plan steps gabor_pass gabor_by alone stands evaluate formula sigmas_filled
contained-seen = refl

contained-itself : lt (sample_at (smaller 3 sides weights) 0 (pos 1) (pos 0)) (sample_at (smaller 3 sides weights) 0 (pos 1) (pos 0)) ≡ false
unfolding start_leaves of_bits lt add sub mul div mirror around of set_of tab inner layout_of pass passes plan steps gabor_pass gabor_by alone stands evaluate formula sigmas_filled
contained-itself = refl

-- ---- a larger filter region that starts at column 4 (6): its last column, 11, is at the border of a block; in the smaller one it is not

-- 1 at column 11 and row 1
abbrev dot : Picture
dot = λ c x y. cond (eqb x 11 && eqb y 1) b1 b0

abbrev small-edge : Handed
small-edge = smaller_edge dot ones b0 sigma64

abbrev off-blocks : Handed
off-blocks =
    let whole : Handed = larger_edge dot ones b0 sigma64 in
    let region : Region = record { left = pos 4; top = pos 0; width = 8; height = 2 } in
    record {
      setup = record { image = region; filter = region; planes = 3; preserve_outside = 0; settings = whole.setup.settings; band_height = 64 };
      frame = whole.frame;
      table = whole.table;
      grids = whole.grids;
      first = set_of 3 8 2 (λ c x y. dot c (4 + x) y);
      second = set_of 3 8 2 (λ c x y. b0);
      sigmas = b0 ∷ [];
    }

module _ (x y : ℤ) (held : Holds small-edge.setup.filter x y) where
  column : nat_abs (x -ℤ pos 8) < 4
  column = offset-below (pos 8) 4 x held.column

  further : nat_abs (x -ℤ pos 4) ≡ 4 + nat_abs (x -ℤ pos 8)
  further = offsets-add (pos 8) (pos 4) x tt held.column.from

  line : nat_abs (y -ℤ pos 0) < 2
  line = offset-below (pos 0) 2 y held.row

  same_inputs : (c : ℕ) → c < 3 → input_at small-edge c x y ≡ input_at off-blocks c x y
  unfolding start_leaves inner layout_of
  same_inputs c h =
      let e : 7 + (1 + nat_abs (x -ℤ pos 8)) ≡ 4 + (0 + nat_abs (x -ℤ pos 4)) = omega (arith, further) in
      of-set_of 3 5 2 _ c (1 + nat_abs (x -ℤ pos 8)) (0 + nat_abs (y -ℤ pos 0)) h (omega (arith, column)) (omega (arith, line))
      ∙ rw e (sym (of-set_of 3 8 2 (λ c x y. dot c (4 + x) y) c (0 + nat_abs (x -ℤ pos 4)) (0 + nat_abs (y -ℤ pos 0)) h (omega (arith, column, further)) (omega (arith, line))))

  same-sigmas : sigma_at small-edge x y ≡ sigma_at off-blocks x y
  unfolding layout_of sigmas_filled block_sigmas tab block_sigma frame_sigma sigma_in sizes_of grid_start cells
  same-sigmas =
      let a : nat_abs (x -ℤ pos 8) / 8 ≡ 0 = omega (arith, column) in
      let b : nat_abs (x -ℤ pos 4) / 8 ≡ 0 = omega (arith, column, further) in
      let c : nat_abs (y -ℤ pos 0) / 8 ≡ 0 = omega (arith, line) in
      rw (a, b, c)

blocks-others : (p : Premise) → (p ≡ unrefused → ⊥) → Says p small-edge off-blocks (calls_edge dot ones b0 sigma64) (slice_edge dot ones b0 sigma64)
unfolding inside plan steps step_of scale_of
blocks-others start-accepted n = (edge-premises-met dot ones b0 sigma64).start-accepted
blocks-others unrefused n = absurd (n refl)
blocks-others contained n = tt
blocks-others same-passes n = refl
blocks-others inputs-agree n = λ c x y h held. same_inputs x y held c h
blocks-others sigmas-alike n = λ on x y held. same-sigmas x y held
blocks-others buffers-unaltered n = (edge-premises-met dot ones b0 sigma64).buffers-unaltered
blocks-others run-finished n = (edge-premises-met dot ones b0 sigma64).run-finished
blocks-others slice_fits n = (edge-premises-met dot ones b0 sigma64).slice_fits

dot-held : Holds small-edge.setup.filter (pos 11) (pos 1)
dot-held = record { column = record { from = tt; before = tt }; row = record { from = tt; before = tt } }

dot-clear : Clear 2 small-edge.setup.filter off-blocks.setup.filter (pos 11) (pos 1)
dot-clear = record { left = λ f. tt; right = λ f. absurd (f refl); top = λ f. absurd (f refl); bottom = λ f. absurd (f refl) }

blocks-seen : lt (sample_at off-blocks 0 (pos 11) (pos 1)) (sample_at small-edge 0 (pos 11) (pos 1)) ≡ true
unfolding start_leaves of_bits lt add sub mul div mirror around of set_of tab inner layout_of pass passes plan steps step_of scale_of sigmas_filled block_sigmas block_sigma frame_sigma sigma_in sizes_of grid_start cells magnitude kernel dists along scaled_from apart distance positive weight_by copied weight_at blend divisor epf border multiplier epf_pass
blocks-seen = refl

blocks-itself : lt (sample_at small-edge 0 (pos 11) (pos 1)) (sample_at small-edge 0 (pos 11) (pos 1)) ≡ false
unfolding start_leaves of_bits lt add sub mul div mirror around of set_of tab inner layout_of pass passes plan steps step_of scale_of sigmas_filled block_sigmas block_sigma frame_sigma sigma_in sizes_of grid_start cells magnitude kernel dists along scaled_from apart distance positive weight_by copied weight_at blend divisor epf border multiplier epf_pass
blocks-itself = refl

edge-presence : (k : ℕ) → k < (sizes_of small-edge.frame).num_groups → present small-edge.table k ≡ present off-blocks.table k
unfolding sizes_of
edge-presence zero l = refl
edge-presence (suc k) l = absurd (omega arith)

edge-sides : (k : ℕ) → k < (sizes_of small-edge.frame).num_groups → T (present small-edge.table k)
    → (grid_width small-edge.table k ≡ grid_width off-blocks.table k) × (grid_height small-edge.table k ≡ grid_height off-blocks.table k)
unfolding sizes_of
edge-sides zero l t = absurd t
edge-sides (suc k) l t = absurd (omega arith)

edge-sources : SameSources small-edge off-blocks
edge-sources = record { same-frame = refl; same-presence = edge-presence; same-sides = edge-sides; same-grids = refl; same-modular = refl }

pub unrefused-needed : UnrefusedNeeded
unfolding step_margin
unrefused-needed claim =
    not-delivered _ small-edge off-blocks (run_of (edge-premises-met dot ones b0 sigma64)) (pos 11) (pos 1) dot-held dot-clear (λ e. less-unlike _ _ blocks-seen blocks-itself (sym e))
    (claim small-edge off-blocks (calls_edge dot ones b0 sigma64) (slice_edge dot ones b0 sigma64) blocks-others edge-sources)

-- ---- all premises

pub each_needed : EachNeeded
unfolding step_margin plain-run
each_needed start-accepted claim = omega (arith, sym no_record ∙ (claim unstarted plain [] zeros start-others tt).accepted)
each_needed unrefused claim =
    not-delivered _ small-edge off-blocks (run_of (edge-premises-met dot ones b0 sigma64)) (pos 11) (pos 1) dot-held dot-clear (λ e. less-unlike _ _ blocks-seen blocks-itself (sym e))
    (claim small-edge off-blocks (calls_edge dot ones b0 sigma64) (slice_edge dot ones b0 sigma64) blocks-others tt)
each_needed contained claim =
    not-delivered _ (smaller 3 sides weights) alone-there (run_of (premises-met 3 tt sides weights)) (pos 1) (pos 0) middle-held middle-clear (λ e. less-unlike _ _ contained-seen contained-itself (sym e))
    (claim (smaller 3 sides weights) alone-there (calls 3 sides weights) (slice 3 sides weights) contained-others tt)
each_needed same-passes claim =
    let clear : Clear 0 (row 0 3) (row 0 3) (pos 1) (pos 0) = record { left = λ f. tt; right = λ f. tt; top = λ f. tt; bottom = λ f. tt } in
    not-delivered _ plain blurred plain-run (pos 1) (pos 0) middle-held clear (λ e. less-unlike _ _ passes-seen passes-itself (sym e)) (claim plain blurred [] zeros passes-others tt)
each_needed inputs-agree claim = inputs-needed (λ small large cs out others unlike. claim small large cs out others tt)
each_needed sigmas-alike claim = sigmas-needed (λ small large cs out others unlike. claim small large cs out others tt)
each_needed buffers-unaltered claim = unaltered-needed (λ small large cs out others unlike. claim small large cs out others tt)
each_needed run-finished claim = omega (arith, sym unfinished ∙ (claim blurred blurred [] zeros finish-others tt).accepted)
each_needed slice_fits claim = omega (arith, sym no_room ∙ (claim plain plain [] [] slice-others tt).accepted)
