-- `run_start::start` meets its contract. Assumes nothing.
use mathlib.Core.Path.{refl, ◌∙◌}
use Rattle.refusals.proofs.Outcomes.{number-nonzero}
use Rattle.run_outcomes.specs.Start.{Handed}
use Rattle.run_start.proofs.Tests.{same-sigmas, refusal-answered}
use Rattle.run_start.proofs.Number.{refused, sigmas-accepted, accepted}
use Rattle.run_start.proofs.start.Goals as goal
use Rattle.run_start.proofs.start.Goals.{Start}

abbrev handed_at : Start → Handed
handed_at c = record {
  setup = c.args.setup;
  frame = c.args.frame;
  table = c.args.table.now;
  grids = c.args.grids.now;
  first = c.args.first.now;
  second = c.args.second.now;
  sigmas = c.args.sigmas.now;
}

pub returns-in_err-check_picture : goal.returns-in_err-check_picture
returns-in_err-check_picture c =
    let handed = handed_at (goal.at.returns-in_err-check_picture c).Start in
    rw (refusal-answered _ _ c.from_residual.ensures.1) (refused handed _ c.in_err-check_picture.ensures (number-nonzero _))

pub returns-in_err-block_sigmas : goal.returns-in_err-block_sigmas
returns-in_err-block_sigmas c =
    let handed = handed_at (goal.at.returns-in_err-block_sigmas c).Start in
    absurd (number-nonzero _ (sigmas-accepted handed 0 c.in_ok-check_picture.ensures refl _ _ (c.in_err-block_sigmas.ensures ∙ same-sigmas handed _ _ c.epf_flag-on.ensures c.blocks_of.ensures)))

pub returns : goal.returns
returns c =
    let handed = handed_at (goal.at.returns c).Start in
    rw c.started.ensures (accepted handed 0 c.in_ok-check_picture.ensures refl _ _ (c.in_ok-block_sigmas.ensures ∙ same-sigmas handed _ _ c.epf_flag-on.ensures c.blocks_of.ensures))
