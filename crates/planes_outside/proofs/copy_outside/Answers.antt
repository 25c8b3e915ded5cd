-- `planes_outside::copy_outside` meets its contract: if a test fails, `dst` stays; otherwise it is `passed` with the samples of the filter region unchanged. Assumes nothing.
use mathlib.Core.Path.{◌≡◌, sym, ◌∙◌}
use mathlib.Core.Bool.{true, false, ◌&&◌}
use mathlib.Core.List.{List}
use Prim.Native.Nat.{ℕ, ◌-◌}
use borrow.Author.Tests.{not-true, not-false, eqb-true}
use lib.Dec.{eqb}
use lib.ListN.{length}
use lib.Ieee.{Float}
use Rattle.planes.specs.declared.Layout.{Layout}
use Rattle.planes.specs.Band.{set_fits, rows_fit, copied_outside}
use Rattle.planes.specs.Fits.{BandFits}
use Rattle.planes.specs.Rect.{planes_fill}
use Rattle.planes.specs.Outside.{planes_outside_of}
use Rattle.planes.proofs.Stored.{band-fits, and_first, and_second, copied-alone, copied-nothing, copied-full, all_fit}
use Rattle.planes_outside.proofs.copy_outside.Goals as goal

-- all three tests hold
module _ (l : Layout) (n from to : ℕ) (src dst : List Float) (a : set_fits l n (length src) ≡ true) (b : set_fits l n (length dst) ≡ true) (r : rows_fit l from to ≡ true) where
  fits : BandFits l n from to src dst
  fits = band-fits l n from to src dst a b r

  alone : l.full ≡ false → dst ≡ copied_outside l n from to src dst
  alone e = copied-alone l n from to src dst fits e ∙ all_fit l n from to src dst a b r

  whole : (eqb l.width l.image.width && eqb l.height l.image.height) ≡ true → dst ≡ copied_outside l n from to src dst
  whole e =
      copied-nothing l n from to src dst fits
      (eqb-true _ _ (and_first (eqb l.width l.image.width) (eqb l.height l.image.height) e))
      (eqb-true _ _ (and_second (eqb l.width l.image.width) (eqb l.height l.image.height) e)) ∙ all_fit l n from to src dst a b r

  full : l.full ≡ true → planes_fill l.image.width l.image.height 0 l.image.width from (to - from) (planes_outside_of l l.image.width l.image.height from src dst) dst n
      ≡ copied_outside l n from to src dst
  full e = copied-full l n from to src dst fits e ∙ all_fit l n from to src dst a b r

pub returns-then-not-l : goal.returns-then-not-l
returns-then-not-l c = alone _ _ _ _ _ _ (sym c.if-not-set_fits.ensures)
    (sym c.if-not-set_fits-2.ensures) (sym c.if-not-rows_fit.ensures) (not-true _ c.if-not-l.true)

pub returns-then-fills_image : goal.returns-then-fills_image
returns-then-fills_image c = whole _ _ _ _ _ _ (sym c.if-not-set_fits.ensures)
    (sym c.if-not-set_fits-2.ensures) (sym c.if-not-rows_fit.ensures) (sym c.if-fills_image.ensures)

pub returns : goal.returns
returns c =
    c.copy_planes_outside.ensures
    ∙ full _ _ _ _ _ _ (sym c.if-not-set_fits.ensures)
    (sym c.if-not-set_fits-2.ensures) (sym c.if-not-rows_fit.ensures) (not-false _ c.if-not-l.false)
