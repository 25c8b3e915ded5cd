-- The copy of the wanted rectangle from the set that a next pass would read: the wanted samples, which are the whole picture's. Assumes
-- nothing.
use mathlib.Core.Path.{◌≡◌, sym, ◌∙◌}
use mathlib.Core.List.{List}
use Prim.Native.Nat.{ℕ, ◌+◌, ◌*◌, ◌<◌}
use native.Mathlib.Omega.{arith}
use lib.Dec.{T}
use lib.ListN.{length}
use lib.Ieee.{Float}
use lib.IntN.{ℤ, nat_abs, ◌-ℤ◌}
use Rattle.region.specs.declared.Region.{Region}
use Rattle.region.specs.Regions.{inside, Holds}
use Rattle.region.specs.Measures.{picture_fits}
use Rattle.region.proofs.Regions.{column-below, row_below, column-offsets-add, row-offsets-add}
use Rattle.planes.specs.Picture.{Picture}
use Rattle.planes.specs.Sets.{of, set_of}
use Rattle.planes.proofs.SetLaws.{length-set_of, of-set_of, sets-ext}
use Rattle.planes.specs.Band.{planes_fit}
use Rattle.planes.specs.Fits.{LayoutFits}
use Rattle.planes_layout.specs.Outcome.{layout_of}
use Rattle.run_passes.specs.Plan.{margin, plan, steps}
use Rattle.run_passes.specs.Makers.{no_settings}
use Rattle.run_setup.specs.Setup.{layout}
use Rattle.run_setup.specs.SetupFits.{SetupFits}
use Rattle.run_setup.proofs.Laws.{setup-fits, fits-setup, setup-layout}
use Rattle.run_record.specs.Record.{started, finished}
use Rattle.run_record.proofs.Laws.{started-fits}
use Rattle.run_outcomes.specs.Start.{Handed}
use Rattle.run_outcomes.specs.Band.{State, reads_first, source}
use Rattle.run_outcomes.specs.Result.{result_of}
use Rattle.run_outcomes.proofs.Laws.{result-accepted, result-number, result-leaves}
use Rattle.run_calls.specs.Calls.{StartAccepted}
use Rattle.run_calls.specs.Places.{at, smoothed, sample_at}
use Rattle.loupe_region.specs.Fits.{WantedFits}
use Rattle.loupe_region.specs.Outcome.{widened_region}
use Rattle.loupe_region.proofs.Laws.{widened-fits, wanted-in-widened}
use Rattle.loupe.specs.Outcome.{LoupeHanded, run_setup_of, as_run, final_state, wanted_length, wanted_samples}
use Rattle.loupe.specs.Pieces.{copy_setup, copied}
use Rattle.loupe.specs.Whole.{PartOf}
use Rattle.loupe.proofs.Passes.{either-length, handed-fits}
use Rattle.loupe.proofs.Samples.{one-band, after, set-sample, whole-sample}

-- ---- a copy

module _ (n : ℕ) (widened wanted : Region) (few : T (planes_fit n)) (p : T (picture_fits widened)) (q : T (picture_fits wanted)) (i : T (inside widened wanted)) where
  copy-fits : SetupFits (copy_setup n widened wanted)
  copy-fits = record {
    image = p;
    filter = q;
    contained = i;
    blocks = λ on. absurd on;
    iterations = omega arith;
    planes = few;
    full = tt;
    gabor = tt;
    height-least = omega arith;
    height-most = omega arith;
    count = rw (one-band widened wanted n no_settings q) (omega arith);
  }

  no-pass : T (finished (started (copy_setup n widened wanted)))
  unfolding started plan steps
  no-pass = tt

  copied-part : (set out : List Float) → length set ≡ n * widened.height * widened.width → length out ≡ n * wanted.height * wanted.width
      → copied n widened wanted set out ≡ result_of n (layout (copy_setup n widened wanted)) set
  unfolding started reads_first
  copied-part set out l m =
      let run = started (copy_setup n widened wanted) in
      result-leaves run set set out
      (result-number run set set out ∙ result-accepted run set set out l l m (started-fits (copy_setup n widened wanted) (fits-setup (copy_setup n widened wanted) copy-fits)) no-pass)

  -- in the layout the wanted rectangle lies inside the widened one
  lies : LayoutFits (layout (copy_setup n widened wanted))
  lies = (setup-layout (copy_setup n widened wanted) copy-fits).fits

-- ---- the wanted samples

-- an accepted start has one plane or three
pub few : (h : LoupeHanded) → StartAccepted (as_run h) → T (planes_fit h.setup.planes)
few h accepted = (setup-fits (run_setup_of h.setup) (handed-fits (as_run h) accepted).setup).planes

module _ (h : LoupeHanded) (w : WantedFits h.setup.whole h.setup.wanted) (accepted : StartAccepted (as_run h)) where
  abbrev r : Region
  r = widened_region h.setup

  abbrev wanted : Region
  wanted = h.setup.wanted

  abbrev dx : ℕ
  dx = nat_abs (wanted.left -ℤ r.left)

  abbrev dy : ℕ
  dy = nat_abs (wanted.top -ℤ r.top)

  abbrev final : State
  final = final_state h

  in-widened : T (inside r wanted)
  in-widened = wanted-in-widened (margin h.setup.settings) h.setup.whole wanted w

  layout-fits : LayoutFits (layout (copy_setup h.setup.planes r wanted))
  layout-fits = lies h.setup.planes r wanted (few h accepted) (widened-fits (margin h.setup.settings) h.setup.whole wanted w) w.wanted-fits in-widened

  part : Picture
  part = λ c x y. of r.width r.height (source final) c (dx + x) (dy + y)

  same-part : (c x y : ℕ) → c < h.setup.planes → x < wanted.width → y < wanted.height → part c x y ≡ smoothed (as_run h) c (dx + x) (dy + y)
  unfolding part layout_of
  same-part c x y p q k =
      let f = layout-fits in
      set-sample h w accepted c (dx + x) (dy + y) p (omega (arith, f.across)) (omega (arith, f.down))

  -- the copy has the wanted samples
  pub copied-wanted : length h.out ≡ wanted_length h.setup → copied h.setup.planes r wanted (source final) h.out ≡ wanted_samples h
  unfolding wanted_samples result_of layout_of part
  copied-wanted room =
      let a = after h w accepted in
      let smooth : Picture = λ c x y. smoothed (as_run h) c (dx + x) (dy + y) in
      copied-part h.setup.planes r wanted (few h accepted) (widened-fits (margin h.setup.settings) h.setup.whole wanted w) w.wanted-fits in-widened (source final) h.out
      (either-length (reads_first final.run) final.first final.second _ a.first-length a.second-length) room
      ∙ sets-ext h.setup.planes wanted.width wanted.height (set_of h.setup.planes wanted.width wanted.height part) (set_of h.setup.planes wanted.width wanted.height smooth)
      (length-set_of h.setup.planes wanted.width wanted.height part) (length-set_of h.setup.planes wanted.width wanted.height smooth)
      (λ c x y p q k.
      of-set_of h.setup.planes wanted.width wanted.height part c x y p q k
      ∙ same-part c x y p q k
      ∙ sym (of-set_of h.setup.planes wanted.width wanted.height smooth c x y p q k))

  -- they are the whole picture's
  pub wanted-whole : (whole : Handed) → PartOf h whole → (c : ℕ) (x y : ℤ) → c < h.setup.planes → Holds wanted x y
      → at wanted (of wanted.width wanted.height (wanted_samples h)) c x y ≡ sample_at whole c x y
  unfolding wanted_samples
  wanted-whole whole p c x y l held =
      of-set_of h.setup.planes wanted.width wanted.height _ c (nat_abs (x -ℤ wanted.left)) (nat_abs (y -ℤ wanted.top)) l
      (column-below wanted x y held) (row_below wanted x y held)
      ∙ rw (← column-offsets-add r wanted in-widened x y held, ← row-offsets-add r wanted in-widened x y held) (whole-sample h w accepted whole p c x y l held)
