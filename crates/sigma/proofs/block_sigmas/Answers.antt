-- `sigma::block_sigmas` meets its contract: the grids are those of an accepted call. Assumes nothing.
use mathlib.Core.Path.{sym}
use lib.ListN.{length}
use Rattle.sigma_groups.specs.declared.blocks.Blocks.{Blocks}
use Rattle.sigma_groups.proofs.Laws.{Accepted, accepted-fits}
use Rattle.sigma.proofs.Runs.{grids-of}
use Rattle.sigma.proofs.block_sigmas.Goals as goal

pub invariant_of-grids : goal.invariant_of-grids
invariant_of-grids c =
    let a = c.args in
    let b : Blocks = a.blocks in
    let accepted : Accepted a.on a.frame b a.table.now a.grids.now (length a.sigmas.now) = accepted-fits a.on a.frame b a.table.now a.grids.now (length a.sigmas.now) (sym c.in_ok-groups.ensures.number) in
    let i = c.in_ok-groups.ensures.inputs in
    record { described = grids-of a.on a.frame _ b a.table.now _ a.grids.now (length a.sigmas.now) _ accepted c.in_ok-groups.groups.entries i.0 i.1 }
