-- `loupe_region::loupe_widened` meets its contract. Assumes nothing.
use mathlib.Core.Path.{◌≡◌, sym, ap, ◌∙◌}
use mathlib.Core.Bool.{Bool, cond, not}
use borrow.Author.Rules.{rules}
use Rattle.refusals.specs.Numbers.{out_of_range}
use Rattle.refusals.specs.Refusals.{refusal_number as number, number_of}
use Rattle.refusals.proofs.Outcomes.{number-nonzero}
use Rattle.loupe_region.proofs.Answers.{rectangle-refused, rectangle-passed}
use Rattle.loupe_region.proofs.loupe_widened.Goals as goal

pub returns-in_err-region : goal.returns-in_err-region
returns-in_err-region c =
    let r : number_of c.from_residual.result ≡ number c.in_err-region.field-0.0 = search rules in
    (r ∙ c.in_err-region.ensures.0 ∙ sym (rectangle-refused c.args.s (λ z. number-nonzero _ (c.in_err-region.ensures.0 ∙ z))), search rules)

pub returns-then-not-planes_fit : goal.returns-then-not-planes_fit
returns-then-not-planes_fit c =
    (sym (rectangle-passed c.args.s (sym c.in_ok-region.ensures.0) ∙ ap (λ (b : Bool). cond b out_of_range 0) (ap not (sym c.planes_fit.ensures ∙ c.if-not-planes_fit.true))), tt)

pub returns : goal.returns
returns c =
    (sym (rectangle-passed c.args.s (sym c.in_ok-region.ensures.0) ∙ ap (λ (b : Bool). cond b out_of_range 0) (ap not (sym c.planes_fit.ensures ∙ c.if-not-planes_fit.false))), c.in_ok-region.ensures.1)
