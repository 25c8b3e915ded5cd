-- `loupe::loupe_smooth` meets its contract: at each end both clauses follow from what the calls before it answered. Assumes nothing.
use mathlib.Core.Path.{◌≡◌, refl, sym}
use borrow.Author.Rules.{rules}
use Rattle.refusals.specs.Refusals.{refusal_number as number, number_of}
use Rattle.refusals.proofs.Outcomes.{number-nonzero}
use Rattle.loupe.specs.Outcome.{LoupeHanded}
use Rattle.loupe.proofs.Answers.{answered-early, answered-start, answered-accepted}
use Rattle.loupe.proofs.loupe_smooth.Goals as goal
use Rattle.loupe.proofs.loupe_smooth.Goals.{Start}

abbrev handed_at : Start → LoupeHanded
handed_at c = record {
  setup = c.args.s;
  frame = c.args.frame;
  table = c.args.table.now;
  grids = c.args.grids.now;
  first = c.args.first.now;
  second = c.args.second.now;
  sigmas = c.args.sigmas.now;
  out = c.args.out.now;
}

-- refused before the start
pub returns-in_err-widened : goal.returns-in_err-widened
returns-in_err-widened c =
    let handed = handed_at (goal.at.returns-in_err-widened c).Start in
    let e = c.in_err-widened.field-0.0 in
    let r : number_of c.from_residual.result ≡ number e = search rules in
    let both = answered-early handed (number e) c.in_err-widened.ensures.0 (number-nonzero e) in
    record { fact = rw r both.0; whole_equal = rw r both.1 }

-- refused by the start
pub returns-in_err-run : goal.returns-in_err-run
returns-in_err-run c =
    let handed = handed_at (goal.at.returns-in_err-run c).Start in
    let e = c.in_err-run.field-0.0 in
    let r : number_of c.from_residual-in_err-run.result ≡ number e = search rules in
    let both = answered-start handed (sym c.in_ok-widened.ensures.0) _ c.in_ok-widened.ensures.1 _ c.run_setup-setup.ensures _ c.in_err-run.ensures (number-nonzero e) in
    record { fact = rw r both.0; whole_equal = rw r both.1 }

pub returns : goal.returns
returns c =
    let handed = handed_at (goal.at.returns c).Start in
    let both = answered-accepted handed (sym c.in_ok-widened.ensures.0) _ c.in_ok-widened.ensures.1 _ c.run_setup-setup.ensures _ c.in_ok-run.ensures refl _ c.pass_count-passes.ensures _ c.finish.ensures in
    record { fact = both.0; whole_equal = both.1 }
