-- `sigmas_length`: blocks along both sides, by the two formulas. Assumes nothing.
use mathlib.Core.Path.{sym, ◌∙◌}
use Rattle.planes_layout.specs.Outcome.{layout_of}
use Rattle.run_outcomes.proofs.Tests.{blocks-same}
use Rattle.run_outcomes.proofs.sigmas_length.Goals as goal

pub returns : goal.returns
unfolding layout_of
returns c =
    let s = c.args.s.now in
    rw (
      sym c.epf_on.ensures ∙ c.if-not-epf_on.false,
      c.blocks_along-down.ensures,
      c.blocks_along-across.ensures,
      blocks-same s.filter.height,
      blocks-same s.filter.width,
    )
