-- `loupe::one_pass` meets its contract. Assumes nothing.
use mathlib.Core.Path.{ap}
use Rattle.run_outcomes.specs.declared.RunAnswer.{RunAnswer}
use Rattle.run_outcomes.specs.Band.{BandOutcome}
use Rattle.loupe.specs.Outcome.{after_pass}
use Rattle.loupe.proofs.one_pass.Goals as goal

pub returns : goal.returns
unfolding after_pass
returns c =
    let e = ap (λ (o : BandOutcome). o.state) c.band.ensures in
    let a = ap (λ (o : RunAnswer). o.run) c.advance.ensures in
    rw (← e, a)
