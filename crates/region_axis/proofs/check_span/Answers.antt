-- `check_span` meets its contract: what is cast fits. Assumes nothing.
use mathlib.Core.Path.{◌≡◌, sym}
use mathlib.Core.Bool.{true}
use Rattle.std.proofs.Common.{arith, FitsSigned, w32, w64}
use mir.Facts.{to_z-of_z}
use Rattle.region_interval.specs.declared.Span.{Span}
use Rattle.region_interval.proofs.Flags.{yes}
use Rattle.region_axis.specs.Measures.{span_fits, axis_of}
use Rattle.region_axis.proofs.Laws.{place-size, bounds-place, bounds-extent}
use Rattle.region_axis.proofs.check_span.Goals as goal

module _ (s : Span) (e : true ≡ span_fits s) where
  start-fits : FitsSigned w32 s.start
  start-fits = let h = place-size s.start (bounds-place s (yes (sym e))) in record { sfits = omega arith }

  start-wide : FitsSigned w64 s.start
  start-wide = let h = place-size s.start (bounds-place s (yes (sym e))) in record { sfits = omega arith }

pub overflow_cast-result : goal.overflow_cast-result
overflow_cast-result c = simp (to_z-of_z (start-wide c.args.s c.if-not-span_fits.ensures)) (start-fits c.args.s c.if-not-span_fits.ensures)

pub overflow_cast-result-2 : goal.overflow_cast-result-2
overflow_cast-result-2 c = let h = bounds-extent c.args.s (yes (sym c.if-not-span_fits.ensures)) in record { fits = omega arith }

pub returns : goal.returns
unfolding axis_of
returns c =
    let e = c.if-not-span_fits.ensures in
    simp (to_z-of_z (start-wide c.args.s e), to_z-of_z (start-fits c.args.s e), c.extent.ensures, ← e)
