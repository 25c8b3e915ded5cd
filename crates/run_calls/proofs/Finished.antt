-- The result of a finished run: the smoothed samples (Specification 12.3), and the first set's samples outside the filter region. Assumes
-- nothing.
use mathlib.Core.Path.{◌≡◌, ap, ◌∙◌}
use mathlib.Core.Bool.{Bool, true, false, cond}
use mathlib.Core.List.{List}
use Prim.Native.Nat.{ℕ, ◌+◌, ◌<◌}
use native.Mathlib.Omega.{arith}
use lib.Dec.{T, eqb→eq}
use lib.ListN.{length}
use lib.Ieee.{Float}
use lib.IntN.{ℤ, nat_abs, ◌-ℤ◌}
use Rattle.planes.specs.Picture.{Picture}
use Rattle.planes.specs.Sets.{of, set_of}
use Rattle.planes.proofs.SetLaws.{of-set_of}
use Rattle.planes.specs.Band.{in_filter, inner}
use Rattle.region.specs.Regions.{Holds}
use Rattle.region.proofs.Regions.{column-below, row_below, holds-in-larger, column-offsets-add, row-offsets-add}
use Rattle.planes_layout.specs.Outcome.{layout_of}
use Rattle.run_passes.specs.Pass.{Pass}
use Rattle.run_passes.proofs.Stages.{stage, stage-last}
use Rattle.run_setup.specs.declared.Setup.{Setup}
use Rattle.run_setup.specs.Setup.{passes_of, pass_count, full_planes, layout, area, result_region, result_length}
use Rattle.run_record.specs.Record.{finished}
use Rattle.run_setup.specs.SetupFits.{SetupFits}
use Rattle.run_setup.proofs.Laws.{setup-layout}
use Rattle.run_outcomes.specs.Start.{Handed, start_leaves, sigmas_filled}
use Rattle.run_outcomes.specs.Band.{State, source}
use Rattle.run_outcomes.specs.Result.{result_of}
use Rattle.run_outcomes.proofs.Laws.{result-accepted, result-number, result-leaves}
use Rattle.run_calls.specs.Places.{at, input, smoothed, result_at}
use Rattle.run_calls.specs.Theorem.{result_on}
use Rattle.run_calls.specs.States.{ResultAt}
use Rattle.run_calls.proofs.Rows.{sample_of, filtered, InResult, filter-in-result, filtered-inside}
use Rattle.run_calls.proofs.Sound.{Sound}
use Rattle.run_calls.proofs.Lists.{KeptFrom, reached-kept}

-- ---- the result's slice has the samples of the set that it is copied from

module _ (s : Setup) (fits : SetupFits s) (x y : ℤ) (held : Holds s.filter x y) where
  -- a position of the filter region lies in the result region,
  in-result : Holds (result_region s) x y
  in-result = go (full_planes s)
    where
      go : (full : Bool) → Holds (cond full s.image s.filter) x y
      go true = holds-in-larger s.image s.filter fits.contained x y held
      go false = held

  -- and its column and row counted from the image region's corner
  column-in : nat_abs (x -ℤ s.image.left) ≡ nat_abs (s.filter.left -ℤ s.image.left) + nat_abs (x -ℤ s.filter.left)
  column-in = column-offsets-add s.image s.filter fits.contained x y held

  row_in : nat_abs (y -ℤ s.image.top) ≡ nat_abs (s.filter.top -ℤ s.image.top) + nat_abs (y -ℤ s.filter.top)
  row_in = row-offsets-add s.image s.filter fits.contained x y held

module _ (s : Setup) (fits : SetupFits s) (l : List Float) (c : ℕ) (x y : ℤ) (h : c < s.planes) where
  pub result-sample : Holds (result_region s) x y → result_at s (result_of s.planes (layout s) l) c x y ≡ at s.image (sample_of (layout s) l) c x y
  unfolding result_of layout_of
  result-sample = go (full_planes s)
    where
      go : (full : Bool) → Holds (cond full s.image s.filter) x y
          → of (cond full s.image s.filter).width (cond full s.image s.filter).height
          (set_of s.planes (cond full s.image.width s.filter.width) (cond full s.image.height s.filter.height)
          (λ c x y. of s.image.width s.image.height l c (cond full 0 (nat_abs (s.filter.left -ℤ s.image.left)) + x) (cond full 0 (nat_abs (s.filter.top -ℤ s.image.top)) + y)))
          c (nat_abs (x -ℤ (cond full s.image s.filter).left)) (nat_abs (y -ℤ (cond full s.image s.filter).top))
          ≡ of s.image.width s.image.height l c (nat_abs (x -ℤ s.image.left)) (nat_abs (y -ℤ s.image.top))
      go true held =
          let i : 0 + nat_abs (x -ℤ s.image.left) ≡ nat_abs (x -ℤ s.image.left) = omega arith in
          let j : 0 + nat_abs (y -ℤ s.image.top) ≡ nat_abs (y -ℤ s.image.top) = omega arith in
          of-set_of s.planes s.image.width s.image.height _ c (nat_abs (x -ℤ s.image.left)) (nat_abs (y -ℤ s.image.top)) h
          (column-below s.image x y held) (row_below s.image x y held) ∙ rw (i, j)
      go false held =
          of-set_of s.planes s.filter.width s.filter.height _ c (nat_abs (x -ℤ s.filter.left)) (nat_abs (y -ℤ s.filter.top)) h
          (column-below s.filter x y held) (row_below s.filter x y held)
          ∙ rw (column-in s fits x y held, row_in s fits x y held)

  pub filter-sample : Holds s.filter x y → result_at s (result_of s.planes (layout s) l) c x y ≡ inner (layout s) l c (nat_abs (x -ℤ s.filter.left)) (nat_abs (y -ℤ s.filter.top))
  unfolding inner layout_of
  filter-sample held = result-sample (in-result s fits x y held) ∙ rw (column-in s fits x y held, row_in s fits x y held)

-- ---- a state reached from a start

staged-of : (first : List Float) (t : State) (s : Setup) (sigmas : List Float) → t.run.setup ≡ s → t.sigmas ≡ sigmas → Sound first t → (c x y : ℕ) → c < s.planes → InResult (layout s) x y
    → sample_of (layout s) (source t) c x y ≡ filtered (layout s) (stage (area s sigmas) (passes_of s) (inner (layout s) first) t.run.pass) first c x y
staged-of first t s sigmas e f sound c x y h i = rw (← e, ← f) (sound.reads c x y (rw e h) (rw e i))

module _ (h : Handed) (t : State) (kept : KeptFrom h t) where
  -- the set that is read holds the input after the completed passes,
  pub run-staged : (c x y : ℕ) → c < h.setup.planes → InResult (layout h.setup) x y
      → sample_of (layout h.setup) (source t) c x y
      ≡ filtered (layout h.setup) (stage (area h.setup (sigmas_filled h)) (passes_of h.setup) (input h) t.run.pass) (start_leaves h) c x y
  run-staged c x y p i = staged-of (start_leaves h) t h.setup (sigmas_filled h) kept.setup kept.sigmas kept.sound c x y p i

  -- and the first set's samples outside the filter region
  pub run-outside : (c x y : ℕ) → c < h.setup.planes → InResult (layout h.setup) x y → in_filter (layout h.setup) x y ≡ false
      → sample_of (layout h.setup) (source t) c x y ≡ sample_of (layout h.setup) (start_leaves h) c x y
  run-outside c x y p i o = run-staged c x y p i ∙ rw o

  module _ (z : T (finished t.run)) where
    -- in a finished run these are the smoothed samples
    pub run-samples : SetupFits h.setup → (c x y : ℕ) → c < h.setup.planes → x < h.setup.filter.width → y < h.setup.filter.height → inner (layout h.setup) (source t) c x y ≡ smoothed h c x y
    unfolding inner layout_of
    run-samples fits c x y p i j =
        let s : Setup = h.setup in
        let l = layout s in
        let lies = (setup-layout s fits).fits in
        let ps : List Pass = passes_of s in
        let over : t.run.pass ≡ pass_count s = eqb→eq t.run.pass (pass_count t.run.setup) z ∙ ap pass_count kept.setup in
        let all : stage (area s (sigmas_filled h)) ps (input h) t.run.pass ≡ smoothed h = stage-last _ ps _ t.run.pass over in
        run-staged c (l.left + x) (l.top + y) p (filter-in-result l lies x y i j) ∙ filtered-inside l lies (stage (area s (sigmas_filled h)) ps (input h) t.run.pass) (start_leaves h) c x y i j ∙ ap (λ (g : Picture). g c x y) all

    -- the result call is accepted and copies the result region of the set that is read
    module _ (out : List Float) (room : length out ≡ result_length h.setup) where
      result-taken : (result_on t out).number ≡ 0
      result-taken = result-number t.run t.first t.second out ∙
          result-accepted t.run t.first t.second out kept.sound.first-length kept.sound.second-length (rw kept.setup room) kept.sound.run z

      pub handed-over : ((result_on t out).number ≡ 0) × ((result_on t out).out ≡ result_of h.setup.planes (layout h.setup) (source t))
      handed-over = (result-taken, result-leaves t.run t.first t.second out result-taken ∙ rw kept.setup)

pub result-at-state : ResultAt
result-at-state h e t r z out room = handed-over h t (reached-kept h e t r) z out room
