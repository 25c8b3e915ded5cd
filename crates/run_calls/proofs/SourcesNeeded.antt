-- Each source of block sigmas is needed: for each there are two pictures that are alike in all others and differ in a smoothed sample.
-- Assumes bare.
use mathlib.Core.Path.{◌≡◌, refl, sym, ap, ◌∙◌}
use mathlib.Core.Bool.{true, false, cond}
use mathlib.Core.List.{List, [], ◌∷◌}
use Prim.Native.Nat.{ℕ, zero, suc}
use native.Mathlib.Omega.{arith}
use lib.Dec.{eqb}
use lib.IntN.{pos}
use lib.Ieee.{Float, of_bits, lt, add, sub, mul, div}
use Rattle.region.specs.declared.Region.{Region}
use Rattle.region.specs.Regions.{inside, Holds}
use Rattle.region.specs.Measures.{bounds_fit, picture_fits}
use Rattle.region_axis.specs.Measures.{corner_fits, side_fits}
use Rattle.planes.specs.Samples.{b0, b1}
use Rattle.planes.specs.Picture.{around}
use Rattle.planes.specs.Sets.{of, set_of, tab}
use Rattle.planes.specs.Band.{inner}
use Rattle.planes_layout.specs.Outcome.{layout_of}
use Rattle.mirror.specs.Mirror.{mirror}
use Rattle.rounding.specs.Magnitude.{magnitude}
use Rattle.epf_step.specs.Steps.{kernel, dists, along, scaled_from, apart, distance, positive, weight_by, copied, weight_at, blend, divisor, epf, border, multiplier, epf_pass}
use Rattle.frame.specs.declared.Frame.{Frame}
use Rattle.frame.specs.Sizes.{sizes_of}
use Rattle.frame.specs.Outcome.{bad_sides, bad_settings}
use Rattle.sigma_grids.specs.Table.{bad_grid, cells, grid_start, grid_lacks_block, some_below}
use Rattle.sigma_groups.specs.Held.{not_held, some_not_held}
use Rattle.sigma_groups.specs.Outcome.{table_fits, grids_fit}
use Rattle.sigma.specs.Sigma.{sigma_in, frame_sigma, block_sigma, block_sigmas}
use Rattle.run_passes.specs.declared.Settings.{Settings}
use Rattle.run_passes.specs.Makers.{gabor_of, even_weights, epf_sigma_of, epf_of, no_settings, with_gabor, with_epf}
use Rattle.run_passes.specs.Pass.{pass, passes}
use Rattle.run_passes.specs.Plan.{plan, steps, step_of, scale_of}
use Rattle.run_setup.specs.Makers.{setup_with}
use Rattle.run_setup.specs.Setup.{area, band_count}
use Rattle.run_outcomes.specs.Start.{Handed, picture_checks, start_checks, start_leaves, sigmas_filled, start_outcome}
use Rattle.run_calls.specs.Calls.{StartAccepted, LibraryCall, library_calls}
use Rattle.run_calls.specs.Places.{Clear, input, sample_at}
use Rattle.run_calls.specs.Theorem.{SameSources, Delivers, PremisesWith, result_after}
use Rattle.run_calls.specs.Corollaries.{FinishedRun}
use Rattle.run_calls.specs.Needed.{Source, same-frame, same-presence, same-sides, same-grids, same-modular, SourceSays, SourcesSay, SourcesBut, EachSourceNeeded}
use Rattle.run_calls.proofs.Lists.{start-unrefused}
use Rattle.run_calls.proofs.Reached.{can-finish}
use Rattle.run_calls.proofs.Needed.{not-delivered, less-unlike, ones, sigma64, quarter}

-- ---- the sources one by one

say : {small large : Handed} → SameSources small large → (s : Source) → SourceSays s small large
say same same-frame = same.same-frame
say same same-presence = same.same-presence
say same same-sides = same.same-sides
say same same-grids = same.same-grids
say same same-modular = same.same-modular

pub sources-say : SourcesSay
sources-say small large = (
  λ same. say same,
  λ says. record {
    same-frame = says same-frame;
    same-presence = says same-presence;
    same-sides = says same-sides;
    same-grids = says same-grids;
    same-modular = says same-modular;
  },
)

-- ---- pictures of two samples, 1 and 0, in row 1024: block row 128, the first of the second row of groups of 128 × 128 blocks

abbrev place : Region
place = record { left = pos 0; top = pos 1024; width = 2; height = 1 }

-- one iteration, Gabor off
abbrev settings : Float → Settings
settings modular = with_gabor (gabor_of 0 (even_weights b0 b0)) (with_epf (epf_of 1 ones (epf_sigma_of b1 b1 b1 b1) modular) no_settings)

abbrev handed : Frame → List ℕ → List Float → Float → Handed
handed f t grids modular = record {
  setup = setup_with place place 3 0 (settings modular) 1;
  frame = f;
  table = t;
  grids = grids;
  first = set_of 3 2 1 (λ c x y. cond (eqb x 0) b1 b0);
  second = set_of 3 2 1 (λ c x y. b0);
  sigmas = b0 ∷ [];
}

-- one of no frame and no table, which smoothed samples do not read
abbrev bare : Handed
bare = handed (record { width = 0; height = 0; upsampling = 0; lf_level = 0; group_size_shift = 0 }) [] [] b0

-- the first smoothed sample, if the only block has sigma s
abbrev smoothed_by : Float → Float
smoothed_by s = passes (area bare.setup (s ∷ [])) (plan 3 (settings b0)) (input bare) 0 0 0

-- with sigma 64 it is less than 1, and with 1/4 it is copied
seen : lt (smoothed_by sigma64) (smoothed_by quarter) ≡ true
unfolding start_leaves of_bits lt add sub mul div mirror around of set_of tab inner layout_of pass passes plan steps step_of scale_of magnitude kernel dists along scaled_from apart distance positive weight_by copied weight_at blend divisor epf border multiplier epf_pass
seen = refl

seen-itself : lt (smoothed_by quarter) (smoothed_by quarter) ≡ false
unfolding start_leaves of_bits lt add sub mul div mirror around of set_of tab inner layout_of pass passes plan steps step_of scale_of magnitude kernel dists along scaled_from apart distance positive weight_by copied weight_at blend divisor epf border multiplier epf_pass
seen-itself = refl

-- the starts of two pictures are accepted, and their blocks have sigmas 64 and 1/4
record Differ (small large : Handed) : Type 0 where
  small-accepted : StartAccepted small
  large-accepted : StartAccepted large
  small-sigma : sigmas_filled small ≡ sigma64 ∷ []
  large-sigma : sigmas_filled large ≡ quarter ∷ []

-- such a picture has that sample, whatever its sources
module _ (f : Frame) (t : List ℕ) (grids : List Float) (modular : Float) where
  sample : (s : Float) → sigmas_filled (handed f t grids modular) ≡ s ∷ [] → sample_at (handed f t grids modular) 0 (pos 0) (pos 1024) ≡ smoothed_by s
  unfolding start_leaves plan steps step_of scale_of
  sample s e = ap (λ (l : List Float). passes (area bare.setup l) (plan 3 (settings b0)) (input bare) 0 0 0) e

held : Holds place (pos 0) (pos 1024)
held = record { column = record { from = tt; before = tt }; row = record { from = tt; before = tt } }

clear : (m : ℕ) → Clear m place place (pos 0) (pos 1024)
clear m = record { left = λ f. absurd (f refl); right = λ f. absurd (f refl); top = λ f. absurd (f refl); bottom = λ f. absurd (f refl) }

-- with the source q left out, two such pictures with sigmas 64 and 1/4 refute the theorem
module _ (q : Source) (f g : Frame) (t u : List ℕ) (grids others : List Float) (modular other : Float) where
  abbrev small : Handed
  small = handed f t grids modular

  abbrev large : Handed
  large = handed g u others other

  same-plans : plan 3 (settings modular) ≡ plan 3 (settings other)
  unfolding plan steps step_of scale_of
  same-plans = refl

  refuted : Differ small large → SourcesBut q small large
      → ((a b : Handed) (cs : List LibraryCall) (out : List Float) → PremisesWith library_calls (SourcesBut q) a b cs out → Delivers a b (result_after library_calls a cs out)) → ⊥
  unfolding inside set_of tab start_leaves
  refuted differ same claim =
      let calls = can-finish small differ.small-accepted in
      let out : List Float = set_of 3 2 1 (λ c x y. b0) in
      let run : FinishedRun library_calls small = record { accepted = differ.small-accepted; calls = calls.0; unaltered = calls.1; ended = calls.2; slice = out; room = refl } in
      not-delivered _ small large run (pos 0) (pos 1024) held (clear _)
      (λ e. less-unlike _ _ seen seen-itself (sym (sample f t grids modular sigma64 differ.small-sigma) ∙ e ∙ sample g u others other quarter differ.large-sigma))
      (claim small large calls.0 out (record {
        start-accepted = differ.small-accepted;
        cut-from-larger = record {
          unrefused = start-unrefused large differ.large-accepted;
          contained = tt;
          same-passes = same-plans;
          inputs-agree = λ c x y l inner. refl;
          sigmas-alike = λ on. same;
        };
        buffers-unaltered = calls.1;
        run-finished = calls.2;
        slice_fits = refl;
      }))

-- ---- the frames: two groups, one above the other; and four groups, two across and two down, or one above the other

abbrev two-groups : Frame
two-groups = record { width = 1024; height = 2048; upsampling = 1; lf_level = 0; group_size_shift = 0 }

abbrev square : Frame
square = record { width = 2048; height = 2048; upsampling = 1; lf_level = 0; group_size_shift = 0 }

abbrev tall : Frame
tall = record { width = 1024; height = 4096; upsampling = 1; lf_level = 0; group_size_shift = 0 }

-- ---- the sources that differ

-- no grids, and another `sigma_for_modular`
abbrev no-grids : Float → Handed
no-grids modular = handed two-groups (0 ∷ 1 ∷ 1 ∷ 0 ∷ 1 ∷ 1 ∷ []) [] modular

modular-differs : Differ (no-grids sigma64) (no-grids quarter)
unfolding start_outcome start_checks picture_checks picture_fits bounds_fit corner_fits side_fits inside bad_sides bad_settings sizes_of table_fits grids_fit grid_start cells some_below bad_grid some_not_held not_held grid_lacks_block band_count layout_of set_of tab sigmas_filled block_sigmas block_sigma frame_sigma sigma_in
modular-differs = record { small-accepted = refl; large-accepted = refl; small-sigma = refl; large-sigma = refl }

modular-others : SourcesBut same-modular (no-grids sigma64) (no-grids quarter)
modular-others same-frame n = refl
modular-others same-presence n = λ g l. refl
modular-others same-sides n = λ g l t. (refl, refl)
modular-others same-grids n = refl
modular-others same-modular n = absurd (n refl)

-- another cell in the grid of the second group
abbrev one-grid : Float → Handed
one-grid cell = handed two-groups (0 ∷ 1 ∷ 1 ∷ 1 ∷ 1 ∷ 1 ∷ []) (cell ∷ []) b1

grids-differ : Differ (one-grid sigma64) (one-grid quarter)
unfolding start_outcome start_checks picture_checks picture_fits bounds_fit corner_fits side_fits inside bad_sides bad_settings sizes_of table_fits grids_fit grid_start cells some_below bad_grid some_not_held not_held grid_lacks_block band_count layout_of set_of tab sigmas_filled block_sigmas block_sigma frame_sigma sigma_in
grids-differ = record { small-accepted = refl; large-accepted = refl; small-sigma = refl; large-sigma = refl }

grids-others : SourcesBut same-grids (one-grid sigma64) (one-grid quarter)
grids-others same-frame n = refl
grids-others same-presence n = λ g l. refl
grids-others same-sides n = λ g l t. (refl, refl)
grids-others same-grids n = absurd (n refl)
grids-others same-modular n = refl

-- a grid of one cell in the first group, or in the second
abbrev first-grid : Handed
first-grid = handed two-groups (1 ∷ 1 ∷ 1 ∷ 0 ∷ 1 ∷ 1 ∷ []) (quarter ∷ []) sigma64

abbrev second-grid : Handed
second-grid = handed two-groups (0 ∷ 1 ∷ 1 ∷ 1 ∷ 1 ∷ 1 ∷ []) (quarter ∷ []) sigma64

presence-differs : Differ first-grid second-grid
unfolding start_outcome start_checks picture_checks picture_fits bounds_fit corner_fits side_fits inside bad_sides bad_settings sizes_of table_fits grids_fit grid_start cells some_below bad_grid some_not_held not_held grid_lacks_block band_count layout_of set_of tab sigmas_filled block_sigmas block_sigma frame_sigma sigma_in
presence-differs = record { small-accepted = refl; large-accepted = refl; small-sigma = refl; large-sigma = refl }

presence-sides : SourceSays same-sides first-grid second-grid
unfolding sizes_of
presence-sides zero l t = (refl, refl)
presence-sides (suc zero) l t = (refl, refl)
presence-sides (suc (suc g)) l t = absurd (omega arith)

presence-others : SourcesBut same-presence first-grid second-grid
presence-others same-frame n = refl
presence-others same-presence n = absurd (n refl)
presence-others same-sides n = presence-sides
presence-others same-grids n = refl
presence-others same-modular n = refl

-- Two grids, of one cell and of two: the second group's grid starts after one cell, or after two.
abbrev after-one : Handed
after-one = handed two-groups (1 ∷ 1 ∷ 1 ∷ 1 ∷ 2 ∷ 1 ∷ []) (b1 ∷ sigma64 ∷ quarter ∷ []) b1

abbrev after-two : Handed
after-two = handed two-groups (1 ∷ 2 ∷ 1 ∷ 1 ∷ 1 ∷ 1 ∷ []) (b1 ∷ sigma64 ∷ quarter ∷ []) b1

sides-differ : Differ after-one after-two
unfolding start_outcome start_checks picture_checks picture_fits bounds_fit corner_fits side_fits inside bad_sides bad_settings sizes_of table_fits grids_fit grid_start cells some_below bad_grid some_not_held not_held grid_lacks_block band_count layout_of set_of tab sigmas_filled block_sigmas block_sigma frame_sigma sigma_in
sides-differ = record { small-accepted = refl; large-accepted = refl; small-sigma = refl; large-sigma = refl }

sides-presence : SourceSays same-presence after-one after-two
unfolding sizes_of
sides-presence zero l = refl
sides-presence (suc zero) l = refl
sides-presence (suc (suc g)) l = absurd (omega arith)

sides-others : SourcesBut same-sides after-one after-two
sides-others same-frame n = refl
sides-others same-presence n = sides-presence
sides-others same-sides n = absurd (n refl)
sides-others same-grids n = refl
sides-others same-modular n = refl

-- The second of four groups alone has a grid: the picture is in the third group if there are two across, and in the second if there is one.
abbrev across : Handed
across = handed square (0 ∷ 1 ∷ 1 ∷ 1 ∷ 1 ∷ 1 ∷ 0 ∷ 1 ∷ 1 ∷ 0 ∷ 1 ∷ 1 ∷ []) (quarter ∷ []) sigma64

abbrev down : Handed
down = handed tall (0 ∷ 1 ∷ 1 ∷ 1 ∷ 1 ∷ 1 ∷ 0 ∷ 1 ∷ 1 ∷ 0 ∷ 1 ∷ 1 ∷ []) (quarter ∷ []) sigma64

frame-differs : Differ across down
unfolding start_outcome start_checks picture_checks picture_fits bounds_fit corner_fits side_fits inside bad_sides bad_settings sizes_of table_fits grids_fit grid_start cells some_below bad_grid some_not_held not_held grid_lacks_block band_count layout_of set_of tab sigmas_filled block_sigmas block_sigma frame_sigma sigma_in
frame-differs = record { small-accepted = refl; large-accepted = refl; small-sigma = refl; large-sigma = refl }

frame-others : SourcesBut same-frame across down
frame-others same-frame n = absurd (n refl)
frame-others same-presence n = λ g l. refl
frame-others same-sides n = λ g l t. (refl, refl)
frame-others same-grids n = refl
frame-others same-modular n = refl

-- ---- each source

pub each-source-needed : EachSourceNeeded
each-source-needed same-frame claim = refuted same-frame square tall across.table down.table across.grids down.grids sigma64 sigma64 frame-differs frame-others claim
each-source-needed same-presence claim = refuted same-presence two-groups two-groups first-grid.table second-grid.table first-grid.grids second-grid.grids sigma64 sigma64 presence-differs presence-others claim
each-source-needed same-sides claim = refuted same-sides two-groups two-groups after-one.table after-two.table after-one.grids after-two.grids b1 b1 sides-differ sides-others claim
each-source-needed same-grids claim = refuted same-grids two-groups two-groups (one-grid b0).table (one-grid b0).table (sigma64 ∷ []) (quarter ∷ []) b1 b1 grids-differ grids-others claim
each-source-needed same-modular claim = refuted same-modular two-groups two-groups (no-grids b0).table (no-grids b0).table [] [] sigma64 quarter modular-differs modular-others claim
