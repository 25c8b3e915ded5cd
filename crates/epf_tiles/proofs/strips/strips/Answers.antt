use mathlib.Core.Path.{◌∙◌}
use native.Mathlib.Omega.{arith}
use Rattle.epf_tiles.specs.Tile.{pass_over}
use Rattle.epf_tiles.proofs.Region.{strip-below}
use Rattle.epf_tiles.proofs.strips.strips.Goals as goal

pub loop-y-preserved : goal.loop-y-preserved
loop-y-preserved c = (
  omega (arith, c.loop-y.invariant.0),
  omega (arith, c.min-rows.ensures),
  c.strip.auto.dst ∙ c.loop-y.invariant.2,
  strip-below c.args.pass.layout c.args.pass.planes (pass_over c.args.pass c.args.sigmas.now c.args.src.now) _ _ _ c.args.from c.loop-y.y _ c.requires.pass_fits.region.set c.requires.pass_fits.region.layout c.loop-y.invariant.0 (omega (arith, c.min-rows.ensures, c.requires.from_le_to.1)) c.loop-y.invariant.3 c.strip.ensures,
)
