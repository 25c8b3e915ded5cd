-- Proofs of specs/Statements.antt. Assumes nothing.
use Rattle.run_passes.proofs.Near.{pass-near as near}
use Rattle.run_passes.proofs.Cut.{cut-same as same}
use Rattle.run_passes.proofs.PlanLaws.{plan-reach as reach-is, plan-reads as reads}
use Rattle.run_passes.specs.Statements.{PassNear, CutSame, PlanReach, PlanReads}

pub pass-near : PassNear
pass-near = near

pub cut-same : CutSame
cut-same = same

pub plan-reach : PlanReach
plan-reach = reach-is

pub plan-reads : PlanReads
plan-reads = reads
