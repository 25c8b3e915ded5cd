-- `epf::epf_band` meets its contract. Samples outside the filter region are copied, then its rows are filtered. Assumes nothing.
use mathlib.Core.Path.{◌∙◌}
use native.Mathlib.Omega.{arith}
use Rattle.planes.proofs.Stored.{filter-rows}
use Rattle.epf_tiles.specs.Tile.{step_over}
use Rattle.epf_tiles.proofs.Region.{region-long, region-done}
use Rattle.epf.proofs.Fits.{band-passed}
use Rattle.epf.proofs.epf_band.Goals as goal

pub returns : goal.returns
returns c =
    let rows = filter-rows c.args.l c.args.from c.args.to c.requires.band_fits.order c.requires.band_fits.rows in
    band-passed c.args.l c.args.n c.args.from c.args.to _ _ (step_over c.args.n c.args.l c.args.s c.args.top c.args.sigmas.now c.args.src.now) c.args.src.now c.args.dst.now _ _ c.requires.band_fits c.copy_outside.ensures c.filter_row-first.ensures c.filter_row-last.ensures
    (c.filter_region.ensures ∙ region-done c.args.n c.args.l c.args.s c.args.top _ _ c.args.sigmas.now c.args.src.now _ (region-long c.copy_outside.auto.dst c.requires.region_fits) (omega (arith, c.copy_outside.auto.dst, c.requires.band_fits.source, c.requires.band_fits.target))
    (omega (arith, rows, c.filter_row-first.ensures, c.filter_row-last.ensures)) (omega (arith, rows, c.filter_row-last.ensures)))
