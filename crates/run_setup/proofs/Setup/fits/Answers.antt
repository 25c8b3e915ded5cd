-- `run_setup::Setup::fits` meets its contract. Assumes nothing.
use mathlib.Core.Path.{sym, ◌∙◌}
use Rattle.run_setup.proofs.Tests.{setup_rules}
use Rattle.run_setup.proofs.Setup.fits.Goals as goal

pub returns-else-is_ok : goal.returns-else-is_ok
returns-else-is_ok c = rw (← setup_rules c.args.self.now c.placed.result c.placed.ensures, sym c.is_ok.ensures.value ∙ c.if-is_ok.false) c.if-is_ok.false

pub returns-then-blocks_fit : goal.returns-then-blocks_fit
returns-then-blocks_fit c =
    rw (← setup_rules c.args.self.now c.placed.result c.placed.ensures, sym c.is_ok.ensures.value ∙ c.if-is_ok.true, sym c.blocks_fit.ensures ∙ c.if-blocks_fit.true) c.numbers_fit.ensures

pub returns-else-blocks_fit : goal.returns-else-blocks_fit
returns-else-blocks_fit c =
    rw (← setup_rules c.args.self.now c.placed.result c.placed.ensures, sym c.is_ok.ensures.value ∙ c.if-is_ok.true, sym c.blocks_fit.ensures ∙ c.if-blocks_fit.false) c.if-blocks_fit.false
