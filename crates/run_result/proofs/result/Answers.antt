-- `run_result::result` meets its contract. Assumes nothing.
use mathlib.Core.Path.{sym, ◌∙◌}
use Rattle.refusals.proofs.Outcomes.{number-nonzero}
use Rattle.run_outcomes.proofs.Steps.{passed_on}
use Rattle.run_result.proofs.Tests.{refused, Lent, lent, from_first, from_second}
use Rattle.run_result.proofs.result.Goals as goal

pub returns-in_err-check : goal.returns-in_err-check
returns-in_err-check c =
    let same = passed_on _ _ c.from_residual.ensures.1 in
    refused c.args.run.now _ _ _ _ (same ∙ c.in_err-check.ensures) (λ z. number-nonzero _ (sym same ∙ z))

pub copy_result-requires : goal.copy_result-requires
copy_result-requires c =
    let given : Lent c.args.run.now.setup c.args.first.now c.args.second.now c.args.out.now = lent c.args.run.now _ _ _ (sym c.in_ok-check.ensures) in
    (given.setup, given.one, given.slice)

pub returns-then-reads_first : goal.returns-then-reads_first
returns-then-reads_first c = from_first c.args.run.now _ _ _ (sym c.in_ok-check.ensures) (sym c.reads_first.ensures ∙ c.if-reads_first.true) _ c.copy_result.ensures

pub copy_result-requires-2 : goal.copy_result-requires-2
copy_result-requires-2 c =
    let given : Lent c.args.run.now.setup c.args.first.now c.args.second.now c.args.out.now = lent c.args.run.now _ _ _ (sym c.in_ok-check.ensures) in
    (given.setup, given.two, given.slice)

pub returns : goal.returns
returns c = from_second c.args.run.now _ _ _ (sym c.in_ok-check.ensures) (sym c.reads_first.ensures ∙ c.if-reads_first.false) _ c.copy_result-2.ensures
