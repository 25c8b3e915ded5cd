-- The set that a next pass would read after all passes of a loupe's run: the smoothed samples of the run (Specification 12.3), which are
-- the whole picture's at each wanted position. Assumes nothing.
use mathlib.Core.Path.{◌≡◌, refl, sym, ap, subst, ◌∙◌}
use mathlib.Core.List.{List}
use Prim.Native.Nat.{ℕ, ◌+◌, ◌*◌, ◌<◌}
use native.Mathlib.Omega.{arith}
use lib.Dec.{T}
use lib.ListN.{length}
use lib.Ieee.{Float}
use lib.Signed.{le_z, lt_z}
use lib.IntN.{ℤ, pos, nat_abs, ◌+ℤ◌, ◌-ℤ◌}
use Rattle.region.specs.declared.Region.{Region}
use Rattle.region.specs.Regions.{columns, rows, Holds}
use Rattle.region.specs.Measures.{picture_fits}
use Rattle.region.proofs.Laws.{picture-bounds, picture-height, bounds-height}
use Rattle.region.proofs.Regions.{nth-holds, inside-itself, holds-in-larger}
use Rattle.region_interval.specs.declared.Span.{Span}
use Rattle.region_interval.proofs.Positions.{start-offset, nth-offset}
use Rattle.planes.specs.Samples.{b0}
use Rattle.planes.specs.Sets.{of, set_of}
use Rattle.planes.proofs.SetLaws.{length-set_of, of-set_of}
use Rattle.planes_layout.specs.Outcome.{layout_of}
use Rattle.run_passes.specs.declared.Settings.{Settings}
use Rattle.run_passes.specs.Plan.{margin}
use Rattle.run_setup.specs.declared.Setup.{Setup}
use Rattle.run_setup.specs.Makers.{setup_with}
use Rattle.run_setup.specs.Setup.{pass_count, layout, band_count}
use Rattle.run_record.specs.Record.{finished}
use Rattle.run_outcomes.specs.Start.{Handed}
use Rattle.run_outcomes.specs.Band.{State, source}
use Rattle.run_outcomes.specs.Result.{ResultOutcome, result_of}
use Rattle.run_calls.specs.Calls.{StartAccepted}
use Rattle.run_calls.specs.Places.{Clear, smoothed, sample_at, result_at}
use Rattle.run_calls.specs.Theorem.{CutFrom, result_on, Delivers}
use Rattle.run_calls.proofs.Promises.{promises}
use Rattle.loupe_region.specs.Fits.{WantedFits}
use Rattle.loupe_region.specs.Outcome.{widened_region}
use Rattle.loupe_region.proofs.Laws.{widened-fits, widened-inside, wanted-in-widened, widened-columns, widened-rows, clear-start, clear-end}
use Rattle.loupe.specs.Outcome.{LoupeHanded, all_rows, run_setup_of, as_run, final_state}
use Rattle.loupe.specs.Whole.{PartOf}
use Rattle.loupe.proofs.Passes.{After, unrefused, after-passes, ended}

-- the largest band height: one band
pub one-band : (image filter : Region) (planes : ℕ) (settings : Settings) → T (picture_fits filter) → band_count (setup_with image filter planes 0 settings all_rows) ≡ 1
unfolding band_count layout_of
one-band image filter planes settings t = omega (arith, picture-height filter t, bounds-height filter (picture-bounds filter t))

module _ (h : LoupeHanded) (w : WantedFits h.setup.whole h.setup.wanted) (accepted : StartAccepted (as_run h)) where
  abbrev s : Setup
  s = run_setup_of h.setup

  abbrev r : Region
  r = widened_region h.setup

  abbrev final : State
  final = final_state h

  fits : T (picture_fits r)
  fits = widened-fits (margin h.setup.settings) h.setup.whole h.setup.wanted w

  pub after : After (as_run h) accepted (pass_count s) final
  after = after-passes (as_run h) accepted (one-band r r h.setup.planes h.setup.settings fits) (pass_count s) (omega arith)

  done : T (finished final.run)
  done = ended (as_run h) accepted (one-band r r h.setup.planes h.setup.settings fits) final after

  -- ---- the result call on the state after all passes, with a slice of its length

  slice : List Float
  slice = set_of h.setup.planes r.width r.height (λ c x y. b0)

  room : length slice ≡ h.setup.planes * r.height * r.width
  unfolding slice
  room = length-set_of h.setup.planes r.width r.height (λ c x y. b0)

  abbrev result : ResultOutcome
  result = result_on final slice

  copied : result.out ≡ result_of h.setup.planes (layout s) (source final)
  copied = (promises.result-at-state (as_run h) accepted final after.reached done slice room).1

  delivers : (large : Handed) → CutFrom (as_run h) large → Delivers (as_run h) large result
  delivers large from = promises.rectangle-theorem-at (as_run h) large accepted from final after.reached done slice room

  itself : CutFrom (as_run h) (as_run h)
  itself = record { unrefused = unrefused (as_run h) accepted; contained = inside-itself r; same-passes = refl; inputs-agree = λ c x y p q. refl; sigmas-alike = λ on x y q. refl }

  no_cut : (x y : ℤ) → Clear (margin h.setup.settings) r r x y
  no_cut x y = record { left = λ f. absurd (f refl); right = λ f. absurd (f refl); top = λ f. absurd (f refl); bottom = λ f. absurd (f refl) }

  own : (c : ℕ) (x y : ℤ) → c < h.setup.planes → Holds r x y → result_at s result.out c x y ≡ sample_at (as_run h) c x y
  own c x y p held = (delivers (as_run h) itself).samples c x y p held (no_cut x y)

  -- ---- the set

  pub set-sample : (c x y : ℕ) → c < h.setup.planes → x < r.width → y < r.height → of r.width r.height (source final) c x y ≡ smoothed (as_run h) c x y
  unfolding result_of layout_of
  set-sample c x y p q k =
      let e : of r.width r.height result.out c x y ≡ smoothed (as_run h) c x y =
      rw (nth-offset r.left x, nth-offset r.top y) at (own c (r.left +ℤ pos x) (r.top +ℤ pos y) p (nth-holds r x y q k)) in
      let a : nat_abs (r.left -ℤ r.left) + x ≡ x = omega (arith, start-offset r.left) in
      let b : nat_abs (r.top -ℤ r.top) + y ≡ y = omega (arith, start-offset r.top) in
      let f : of r.width r.height result.out c x y ≡ of r.width r.height (source final) c x y =
      ap (λ (l : List Float). of r.width r.height l c x y) copied
      ∙ of-set_of h.setup.planes r.width r.height _ c x y p q k
      ∙ rw (a, b) in
      sym f ∙ e

  -- ---- the whole picture's samples

  module _ (whole : Handed) (part : PartOf h whole) where
    from : CutFrom (as_run h) whole
    from = promises.sources-give-sigmas (as_run h) whole (unrefused (as_run h) accepted) (record {
      unrefused = part.unrefused;
      contained = rw part.same-region (widened-inside (margin h.setup.settings) h.setup.whole h.setup.wanted w);
      same-passes = part.same-passes;
      inputs-agree = part.inputs-agree;
      sigmas-alike = part.same-sources;
    })

    clear : (x y : ℤ) → Holds h.setup.wanted x y → Clear (margin h.setup.settings) r whole.setup.filter x y
    clear x y held =
        let m = margin h.setup.settings in
        let a = widened-columns m h.setup.whole h.setup.wanted w in
        let b = widened-rows m h.setup.whole h.setup.wanted w in
        let g = sym part.same-region in
        record {
          left = λ f. subst (λ (z : Span). T (le_z (z.start +ℤ pos m) x)) (sym a)
              (clear-start m (columns h.setup.wanted) (columns h.setup.whole) x held.column (λ e. f (ap (λ (z : Span). z.start) a ∙ e ∙ ap (λ (z : Region). (columns z).start) g)));
          right = λ f. subst (λ (z : Span). T (lt_z (x +ℤ pos m) z.end)) (sym a)
              (clear-end m (columns h.setup.wanted) (columns h.setup.whole) x held.column (λ e. f (ap (λ (z : Span). z.end) a ∙ e ∙ ap (λ (z : Region). (columns z).end) g)));
          top = λ f. subst (λ (z : Span). T (le_z (z.start +ℤ pos m) y)) (sym b)
              (clear-start m (rows h.setup.wanted) (rows h.setup.whole) y held.row (λ e. f (ap (λ (z : Span). z.start) b ∙ e ∙ ap (λ (z : Region). (rows z).start) g)));
          bottom = λ f. subst (λ (z : Span). T (lt_z (y +ℤ pos m) z.end)) (sym b)
              (clear-end m (rows h.setup.wanted) (rows h.setup.whole) y held.row (λ e. f (ap (λ (z : Span). z.end) b ∙ e ∙ ap (λ (z : Region). (rows z).end) g)));
        }

    pub whole-sample : (c : ℕ) (x y : ℤ) → c < h.setup.planes → Holds h.setup.wanted x y → sample_at (as_run h) c x y ≡ sample_at whole c x y
    whole-sample c x y p held =
        let inner = holds-in-larger r h.setup.wanted (wanted-in-widened (margin h.setup.settings) h.setup.whole h.setup.wanted w) x y held in
        sym (own c x y p inner) ∙ (delivers whole from).samples c x y p inner (clear x y held)
