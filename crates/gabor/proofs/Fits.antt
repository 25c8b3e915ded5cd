-- The tests of the Gabor pass in order, and the result of an accepted pass. Assumes nothing.
use mathlib.Core.Path.{◌≡◌, sym}
use mathlib.Core.Bool.{true, false}
use mathlib.Core.List.{List}
use Prim.Native.Nat.{ℕ, ◌<◌}
use native.Mathlib.Omega.{arith}
use lib.ListN.{length}
use lib.Ieee.{Float}
use Rattle.std.specs.Prelude.{Result, Ok, Err, IsErrAnd}
use Rattle.refusals.specs.Numbers.{wrong_length, out_of_range}
use Rattle.refusals.specs.Checks.{first_of}
use Rattle.refusals.specs.Flags.{flag_fits, flag_set}
use Rattle.refusals.specs.declared.Refusal.{Refusal}
use Rattle.refusals.specs.Refusals.{refusal_number as number, number_of}
use Rattle.refusals.proofs.Outcomes.{number-nonzero}
use Rattle.region_placement.specs.Placed.{placed_checks}
use Rattle.region.specs.declared.Region.{Region}
use Rattle.planes.specs.declared.Layout.{Layout}
use Rattle.planes.specs.Band.{planes_fit, set_fits, rows_fit}
use Rattle.planes_layout.specs.Outcome.{layout_of, PassOutcome}
use Rattle.planes_layout.proofs.Fits.{layout-accepted, not-placed, wrong-planes, wrong-source, wrong_target, wrong-flag, wrong-rows, pass-accepted, pass-refused, pass-done}
use Rattle.gabor.specs.Outcome.{gabor_passed, gabor_outcome}

module _ (image filter : Region) (n full : ℕ) (ws : List (List Float)) (from to : ℕ) (src dst : List Float) where
  abbrev Outcome : ℕ → List Float → Type 0
  Outcome k d = ◌≡◌ {A = PassOutcome} (record { number = k; target = d }) (gabor_outcome image filter n full ws from to src dst)

  -- e: the refusal of the layout, r: what `?` returns for it
  pub outcome_placed : (e : Refusal) (r : Result Unit Refusal) → number e ≡ first_of (placed_checks image filter) → IsErrAnd r (λ x. x ≡ e) → Outcome (number_of r) dst
  unfolding gabor_outcome
  outcome_placed e (Ok u) k is = absurd is
  outcome_placed e (Err x) k is =
      rw is (pass-refused (number e) _ _ dst (not-placed image filter n full from to src dst (number e) k (number-nonzero e)) (number-nonzero e))

  -- l is the layout
  module _ (l : Layout) (placed : 0 ≡ first_of (placed_checks image filter)) (l-is : l ≡ layout_of image filter (flag_set full)) where
    ok : first_of (placed_checks image filter) ≡ 0
    ok = sym placed

    pub outcome_planes : planes_fit n ≡ false → Outcome out_of_range dst
    unfolding gabor_outcome
    outcome_planes p =
        pass-refused out_of_range _ _ dst (wrong-planes image filter n full from to src dst ok p) (λ (q : out_of_range ≡ 0). omega arith)

    module _ (p : planes_fit n ≡ true) where
      pub outcome_source : set_fits l n (length src) ≡ false → Outcome wrong_length dst
      unfolding gabor_outcome
      outcome_source s =
          pass-refused wrong_length _ _ dst (wrong-source image filter n full from to src dst ok p (rw l-is at s)) (λ (q : wrong_length ≡ 0). omega arith)

      pub outcome_target : set_fits l n (length dst) ≡ false → Outcome wrong_length dst
      unfolding gabor_outcome
      outcome_target t =
          pass-refused wrong_length _ _ dst (wrong_target image filter n full from to src dst ok p (rw l-is at t)) (λ (q : wrong_length ≡ 0). omega arith)

      module _ (s : set_fits l n (length src) ≡ true) (t : set_fits l n (length dst) ≡ true) where
        pub outcome_flag : flag_fits full ≡ false → Outcome out_of_range dst
        unfolding gabor_outcome
        outcome_flag f =
            pass-refused out_of_range _ _ dst (wrong-flag image filter n full from to src dst ok p (rw l-is at s) (rw l-is at t) f) (λ (q : out_of_range ≡ 0). omega arith)

        pub outcome_rows : flag_fits full ≡ true → rows_fit l from to ≡ false → Outcome out_of_range dst
        unfolding gabor_outcome
        outcome_rows f r =
            pass-refused out_of_range _ _ dst (wrong-rows image filter n full from to src dst ok p (rw l-is at s) (rw l-is at t) f (rw l-is at r)) (λ (q : out_of_range ≡ 0). omega arith)

        module _ (r : rows_fit l from to ≡ true) where
          pub outcome_sides : (0 < l.width) × (0 < l.height)
          outcome_sides = rw l-is ((layout-accepted image filter (flag_set full) ok).width-pos, (layout-accepted image filter (flag_set full) ok).height-pos)

          pub outcome_passed : flag_fits full ≡ true → (b : List Float) → b ≡ gabor_passed n l ws from to src dst → Outcome 0 b
          unfolding gabor_outcome
          outcome_passed f b h =
              pass-done _ _ dst b (pass-accepted image filter n full from to src dst ok p (rw l-is at s) (rw l-is at t) f (rw l-is at r)) (rw l-is at h)
