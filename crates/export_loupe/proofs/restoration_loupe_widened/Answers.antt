-- `export_loupe::restoration_loupe_widened` meets its contract. Assumes nothing.
use mathlib.Core.Path.{◌∙◌}
use Rattle.refusals.proofs.Answered.{outcome_value}
use Rattle.region.specs.Regions.{zero_region}
use Rattle.refusals.specs.Checks.{first_of}
use Rattle.loupe_region.specs.Outcome.{widened_checks, widened_region, widened_outcome}
use Rattle.export_loupe.proofs.restoration_loupe_widened.Goals as goal

pub returns : goal.returns
unfolding widened_outcome
returns c =
    let s = c.args.setup in
    let o = c.loupe_widened.ensures in
    c.from.ensures ∙ (λ j. record { number = o.0 j; region = outcome_value c.loupe_widened.result (first_of (widened_checks s)) (widened_region s) zero_region o j })
