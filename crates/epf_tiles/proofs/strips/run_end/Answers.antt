-- `epf_tiles::strips::run_end` meets its contract. Assumes nothing.
use mathlib.Core.Path.{◌≡◌, refl}
use mathlib.Core.Bool.{not}
use native.Mathlib.Omega.{arith}
use Rattle.std.proofs.Common.{rules, tests}
use Rattle.std.proofs.lemmas.Iterator.{IsFirst-from_position, YieldsList-from_slice}
use Rattle.epf_step.specs.Steps.{copied}
use Rattle.epf_tiles.proofs.Blocks.{run-ends}
use Rattle.epf_tiles.proofs.strips.run_end.Goals as goal

pub returns : goal.returns
returns c =
    let limit = c.args.pass.settings.limit in
    run-ends c.args.pass c.args.sigmas.now c.args.y c.args.from _ _ c.args.of_copied c.iter.result.rest.now c.blocks_of-across.ensures (rw c.blocks_of-across.ensures) (omega (arith, c.requires.from_le, c.blocks_of-across.ensures)) (rw c.blocks_of-across.ensures c.requires.row_in_bounds) c.iter.ensures.rest c.position.result c.map_or.result
    (IsFirst-from_position _ _ c.position.result (λ s. copied s limit ≡ not c.args.of_copied) (λ s. copied s limit ≡ c.args.of_copied) c.position.ensures.ran (YieldsList-from_slice c.iter.result.rest.now refl) (λ x q k. search (rules, tests)) (λ x q k. search (rules, tests)))
    (search (rules, tests))
