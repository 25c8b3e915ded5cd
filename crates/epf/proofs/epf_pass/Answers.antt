-- `epf::epf_pass` meets its contract. A failed test is returned and leaves `dst` unchanged; otherwise the band is that of the definition.
-- Assumes nothing.
use mathlib.Core.Path.{sym, ap}
use native.Mathlib.Omega.{arith}
use mir.Facts.{to_z-of_z}
use Rattle.epf_tiles.specs.declared.Step.{Step}
use Rattle.epf_tiles.specs.Tile.{step_over}
use Rattle.epf.proofs.Fits.{step_fits, band-fits, not-placed, layout-held, refused, done}
use Rattle.epf.proofs.epf_pass.Goals as goal

pub returns-in_err-l : goal.returns-in_err-l
returns-in_err-l c = not-placed _ _ _ _ _ _ _ _ _ _ _ _ c.in_err-l.ensures.0 c.from_residual.ensures.1

pub check_pass-requires : goal.check_pass-requires
check_pass-requires c = (layout-held c.args.image c.args.filter c.args.planes c.args.preserve_outside c.args.s c.args.sigmas.now c.args.from c.args.to c.args.src.now c.args.dst.now _ _ c.flag_set.ensures c.in_ok-l.ensures.0 c.in_ok-l.ensures.1).fits

pub returns-in_err-check_pass : goal.returns-in_err-check_pass
returns-in_err-check_pass c = refused _ _ _ _ _ _ _ _ _ _ _ _ c.flag_set.ensures c.in_ok-l.ensures.0 c.in_ok-l.ensures.1 _ _ c.in_err-check_pass.ensures c.from_residual-in_err-check_pass.ensures.1

pub epf_band-requires : goal.epf_band-requires
epf_band-requires c =
    let held = layout-held c.args.image c.args.filter c.args.planes c.args.preserve_outside c.args.s c.args.sigmas.now c.args.from c.args.to c.args.src.now c.args.dst.now _ _ c.flag_set.ensures c.in_ok-l.ensures.0 c.in_ok-l.ensures.1 in
    let fits = step_fits _ _ _ _ _ _ _ _ _ _ (sym c.in_ok-check_pass.ensures) in
    let step = ap (λ (z : Step). z.step) c.from-settings.ensures in
    record {
      band_fits = band-fits _ _ _ _ _ _ _ _ held.fits fits;
      region_fits = record {
        layout = held.fits;
        planes-le = fits.planes-le;
        set = fits.target;
        sigmas = fits.blocks;
        step-lt = omega (arith, fits.step-le, step);
        top-le = c.clamp_to_zero.ensures.1;
      };
    }

pub returns : goal.returns
unfolding step_over
returns c =
    done _ _ _ _ _ _ _ _ _ _ _ _ c.flag_set.ensures c.in_ok-l.ensures.0 c.in_ok-l.ensures.1 c.in_ok-check_pass.ensures _
    (rw (c.clamp_to_zero.ensures.0, to_z-of_z (record { sfits = c.struct_told-1.given.1.0.1 }), c.from-settings.ensures) at c.epf_band.ensures)
