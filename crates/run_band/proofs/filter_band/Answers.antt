-- `run_band::filter_band` meets its contract. Assumes nothing.
use mathlib.Core.Path.{sym, ◌∙◌}
use native.Mathlib.Omega.{arith}
use Rattle.run_outcomes.specs.Band.{State}
use Rattle.run_band.proofs.Accepted.{room, band-end, first_rows, second-rows, second-written, first-written}
use Rattle.run_band.proofs.filter_band.Goals as goal
use Rattle.run_band.proofs.filter_band.Goals.{Start}

abbrev lent_at : Start → State
lent_at c = record { run = c.args.run.now; sigmas = c.args.sigmas.now; first = c.args.first.now; second = c.args.second.now }

pub overflow_mul-from : goal.overflow_mul-from
overflow_mul-from c =
    let lent = lent_at (goal.at.overflow_mul-from c).Start in
    record { fits = omega (arith, (room lent c.args.k c.requires).from) }

pub overflow_add-from : goal.overflow_add-from
overflow_add-from c =
    let lent = lent_at (goal.at.overflow_add-from c).Start in
    let fits = room lent c.args.k c.requires in
    record { fits = omega (arith, fits.from, fits.height) }

pub pass_rows-requires : goal.pass_rows-requires
pass_rows-requires c =
    let lent = lent_at (goal.at.pass_rows-requires c).Start in
    rw (band-end lent c.args.k c.requires _ _ c.row_count.ensures c.min-to.ensures) (first_rows lent c.args.k c.requires)

pub returns-then-reads_first : goal.returns-then-reads_first
returns-then-reads_first c =
    let lent = lent_at (goal.at.returns-then-reads_first c).Start in
    second-written lent c.args.k (sym c.reads_first.ensures ∙ c.if-reads_first.true) _ (rw (band-end lent c.args.k c.requires _ _ c.row_count.ensures c.min-to.ensures) at c.pass_rows.ensures)

pub pass_rows-requires-2 : goal.pass_rows-requires-2
pass_rows-requires-2 c =
    let lent = lent_at (goal.at.pass_rows-requires-2 c).Start in
    rw (band-end lent c.args.k c.requires _ _ c.row_count.ensures c.min-to.ensures) (second-rows lent c.args.k c.requires)

pub returns : goal.returns
returns c =
    let lent = lent_at (goal.at.returns c).Start in
    first-written lent c.args.k (sym c.reads_first.ensures ∙ c.if-reads_first.false) _ (rw (band-end lent c.args.k c.requires _ _ c.row_count.ensures c.min-to.ensures) at c.pass_rows-2.ensures)
