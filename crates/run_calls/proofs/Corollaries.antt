-- The corollaries of the theorem on rectangles (Specification 13.8). Assumes nothing.
use mathlib.Core.Path.{◌≡◌, refl, sym, ◌∙◌}
use mathlib.Core.Bool.{Bool, true, false, cond}
use mathlib.Core.List.{List}
use mathlib.Core.Logic.{inl, inr}
use Prim.Native.Nat.{ℕ, ◌*◌, ◌<◌}
use native.Mathlib.Omega.{arith}
use lib.IntN.{ℤ, pos, nat_abs, ◌+ℤ◌, ◌-ℤ◌}
use lib.ListN.{length}
use lib.Seq.{ext_get_or}
use lib.Ieee.{Float, nan}
use Rattle.region_interval.proofs.Positions.{nth-offset, in-part}
use Rattle.region.specs.declared.Region.{Region}
use Rattle.region.specs.Regions.{Holds}
use Rattle.region.proofs.Regions.{nth-holds, holds-or-not, column-below, row_below, inside-itself, inside-columns, inside-rows}
use Rattle.planes_layout.specs.Outcome.{layout_of}
use Rattle.planes.specs.Sets.{of}
use Rattle.planes.proofs.SetLaws.{length-set_of, sets-ext}
use Rattle.planes.proofs.Rect.{Between, between}
use Rattle.planes.specs.Picture.{in_rect}
use Rattle.planes.specs.Band.{in_filter}
use Rattle.run_setup.specs.declared.Setup.{Setup}
use Rattle.run_setup.specs.Setup.{full_planes, layout, epf_on, result_region, result_length}
use Rattle.run_setup.specs.SetupFits.{SetupFits}
use Rattle.run_setup.proofs.Laws.{setup-fits}
use Rattle.run_outcomes.specs.Start.{Handed, sigmas_filled}
use Rattle.run_outcomes.specs.Band.{State, source}
use Rattle.run_outcomes.specs.Result.{result_of}
use Rattle.run_outcomes.proofs.Laws.{PictureFits, leaves-same}
use Rattle.run_calls.specs.Calls.{StartAccepted, start_state, Calls, Effects, end}
use Rattle.run_calls.specs.Places.{Clear, result_at, sample_at}
use Rattle.run_calls.specs.Theorem.{CutFrom, Delivers}
use Rattle.run_calls.specs.Corollaries.{FinishedRun, first_at, SameButBands, handed_over, WholePicture, TwoCutsAgree, OutsideKept, BandsAlike}
use Rattle.run_calls.proofs.Rows.{image-in-result}
use Rattle.run_calls.proofs.Lists.{start-unrefused, picture-accepted, KeptFrom, after-start}
use Rattle.run_calls.proofs.Finished.{result-sample, run-outside, handed-over}
use Rattle.run_calls.proofs.Theorem.{rectangle-theorem}

-- ---- a picture is cut from itself, and has no cut edge

from_itself : (h : Handed) → StartAccepted h → CutFrom h h
from_itself h e = record { unrefused = start-unrefused h e; contained = inside-itself h.setup.filter; same-passes = refl; inputs-agree = λ c x y p q. refl; sigmas-alike = λ on x y q. refl }

no-cut-edge : (m : ℕ) (r : Region) (x y : ℤ) → Clear m r r x y
no-cut-edge m r x y = record { left = λ f. absurd (f refl); right = λ f. absurd (f refl); top = λ f. absurd (f refl); bottom = λ f. absurd (f refl) }

module _ (K : Calls) (E : Effects K) where
  -- the theorem on rectangles for a finished run
  cut-run : (h large : Handed) (r : FinishedRun K h) → CutFrom h large → Delivers h large (handed_over K h r)
  cut-run h large r from = rectangle-theorem K E h large r.calls r.slice (record { start-accepted = r.accepted; cut-from-larger = from; buffers-unaltered = r.unaltered; run-finished = r.ended; slice_fits = r.room })

  pub whole-picture : WholePicture K
  whole-picture h r =
      let d = cut-run h h r (from_itself h r.accepted) in
      (d.accepted, λ c x y p q. d.samples c x y p q (no-cut-edge _ h.setup.filter x y))

  pub two-cuts-agree : TwoCutsAgree K
  two-cuts-agree a b large from too r q c x y h k i j clear clear_too = (cut-run a large r from).samples c x y h i clear ∙ sym ((cut-run b large q too).samples c x y k j clear_too)

-- ---- outside the filter region

-- a position of the image region outside the filter region is outside it in the layout too
not-in-filter : (s : Setup) → SetupFits s → (x y : ℤ) → Holds s.image x y → (Holds s.filter x y → ⊥)
    → in_filter (layout s) (nat_abs (x -ℤ s.image.left)) (nat_abs (y -ℤ s.image.top)) ≡ false
unfolding in_filter in_rect layout_of
not-in-filter s fits x y held out =
    go (between (nat_abs (s.filter.left -ℤ s.image.left)) s.filter.width (nat_abs (x -ℤ s.image.left)))
    (between (nat_abs (s.filter.top -ℤ s.image.top)) s.filter.height (nat_abs (y -ℤ s.image.top)))
  where
    go : Between (nat_abs (s.filter.left -ℤ s.image.left)) s.filter.width (nat_abs (x -ℤ s.image.left))
        → Between (nat_abs (s.filter.top -ℤ s.image.top)) s.filter.height (nat_abs (y -ℤ s.image.top))
        → in_filter (layout s) (nat_abs (x -ℤ s.image.left)) (nat_abs (y -ℤ s.image.top)) ≡ false
    go (inl a) (inl b) = absurd (out (record {
      column = in-part s.filter.left s.image.left s.filter.width s.image.width (inside-columns s.image s.filter fits.contained) x held.column a.0 a.1;
      row = in-part s.filter.top s.image.top s.filter.height s.image.height (inside-rows s.image s.filter fits.contained) y held.row b.0 b.1;
    }))
    go (inl a) (inr b) = rw (a.2, b.1)
    go (inr a) b = rw a.1

module _ (K : Calls) (E : Effects K) (h : Handed) (r : FinishedRun K h) where
  abbrev state : State
  state = end K (start_state h) r.calls

  fits : SetupFits h.setup
  fits = setup-fits h.setup (picture-accepted h r.accepted).setup

  kept : KeptFrom h state
  kept = after-start K E h r.accepted r.calls r.unaltered

  -- the slice after the result call
  out-is : (handed_over K h r).out ≡ result_of h.setup.planes (layout h.setup) (source state)
  out-is = (handed-over h state kept r.ended r.slice r.room).1

  out-length : length (handed_over K h r).out ≡ result_length h.setup
  unfolding result_of layout_of
  out-length = rw out-is (length-set_of h.setup.planes _ _ _ ∙ go (full_planes h.setup))
    where
      image : Region
      image = h.setup.image

      filter : Region
      filter = h.setup.filter

      go : (full : Bool) → h.setup.planes * cond full image.height filter.height * cond full image.width filter.width ≡ h.setup.planes * (cond full image filter).height * (cond full image filter).width
      go true = refl
      go false = refl

  kept-outside : (c : ℕ) (x y : ℤ) → c < h.setup.planes → Holds (result_region h.setup) x y → (Holds h.setup.filter x y → ⊥)
      → result_at h.setup (handed_over K h r).out c x y ≡ first_at h c x y
  unfolding layout_of
  kept-outside c x y p held out = rw out-is (result-sample s fits (source state) c x y p held ∙ go (full_planes s) refl held)
    where
      s : Setup
      s = h.setup

      go : (full : Bool) → full_planes s ≡ full → Holds (cond full s.image s.filter) x y
          → of s.image.width s.image.height (source state) c (nat_abs (x -ℤ s.image.left)) (nat_abs (y -ℤ s.image.top)) ≡ first_at h c x y
      go true e held =
          run-outside h state kept c _ _ p (image-in-result (layout s) _ _ e (column-below s.image x y held) (row_below s.image x y held)) (not-in-filter s fits x y held out)
      go false e held = absurd (out held)

pub outside_kept : (K : Calls) → Effects K → OutsideKept K
outside_kept K E h r = kept-outside K E h r

-- ---- any order of bands and any band height

cond-second : (b : Bool) (u v w : List Float) → (b ≡ false → v ≡ w) → cond b u v ≡ cond b u w
cond-second true u v w f = refl
cond-second false u v w f = f refl

module _ (a b : Handed) (same : SameButBands a b) where
  region-same : result_region a.setup ≡ result_region b.setup
  region-same = rw (same.image, same.filter, same.full)

  first-same : (c : ℕ) (x y : ℤ) → first_at a c x y ≡ first_at b c x y
  first-same c x y = rw (leaves-same a b same.first, same.image)

  module _ (p : PictureFits a) (q : PictureFits b) where
    -- if the EPF is off there are no block sigmas
    sigmas-same : sigmas_filled a ≡ sigmas_filled b
    unfolding sigmas_filled
    sigmas-same = rw (same.settings, same.filter, same.frame, same.table, same.grids) (cond-second (epf_on b.setup) _ a.sigmas b.sigmas (λ off.
        let none : length a.sigmas ≡ 0 = rw (same.settings, off) at p.sigmas in
        let too : length b.sigmas ≡ 0 = rw off at q.sigmas in
        ext_get_or nan a.sigmas b.sigmas (none ∙ sym too) (λ k h. absurd (omega (arith, none)))))

    sample-same : (c : ℕ) (x y : ℤ) → sample_at a c x y ≡ sample_at b c x y
    sample-same c x y = rw (leaves-same a b same.first, sigmas-same, same.image, same.filter, same.planes, same.full, same.settings)

module _ (K : Calls) (E : Effects K) (a b : Handed) (same : SameButBands a b) (r : FinishedRun K a) (q : FinishedRun K b) where
  each_same : (c : ℕ) (x y : ℤ) → c < a.setup.planes → Holds (result_region a.setup) x y → result_at a.setup (handed_over K a r).out c x y ≡ result_at b.setup (handed_over K b q).out c x y
  each_same c x y h held = go (holds-or-not a.setup.filter x y)
    where
      go : Dec (Holds a.setup.filter x y) → result_at a.setup (handed_over K a r).out c x y ≡ result_at b.setup (handed_over K b q).out c x y
      go (yes i) =
          (whole-picture K E a r).1 c x y h i ∙ sample-same a b same (picture-accepted a r.accepted) (picture-accepted b q.accepted) c x y
          ∙ sym ((whole-picture K E b q).1 c x y (rw same.planes at h) (rw same.filter at i))
      go (no o) =
          outside_kept K E a r c x y h held o ∙ first-same a b same c x y
          ∙ sym (outside_kept K E b q c x y (rw same.planes at h) (rw (region-same a b same) at held) (rw same.filter at o))

  bands-same : (handed_over K a r).out ≡ (handed_over K b q).out
  bands-same = sets-ext a.setup.planes region.width region.height (handed_over K a r).out (handed_over K b q).out (out-length K E a r) (rw (region-same a b same, same.planes) (out-length K E b q)) each
    where
      region : Region
      region = result_region a.setup

      each : (c x y : ℕ) → c < a.setup.planes → x < region.width → y < region.height
          → of region.width region.height (handed_over K a r).out c x y ≡ of region.width region.height (handed_over K b q).out c x y
      each c x y h i j =
          rw (← region-same a b same, nth-offset region.left x, nth-offset region.top y) at
          (each_same c (region.left +ℤ pos x) (region.top +ℤ pos y) h (nth-holds region x y i j))

pub bands-alike : (K : Calls) → Effects K → BandsAlike K
bands-alike K E a b same r q = bands-same K E a b same r q
