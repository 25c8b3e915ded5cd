-- `run_band::band` meets its contract. Assumes nothing.
use mathlib.Core.Path.{◌≡◌, sym, ◌∙◌}
use Prim.Native.Nat.{◌-◌}
use native.Mathlib.Omega.{arith}
use Rattle.refusals.proofs.Outcomes.{number-nonzero}
use Rattle.run_record.specs.Record.{marked}
use Rattle.run_outcomes.specs.Band.{State}
use Rattle.run_outcomes.proofs.Steps.{passed_on}
use Rattle.run_band.proofs.Accepted.{room, fewer-left, band-refused, band-done}
use Rattle.run_band.proofs.band.Goals as goal
use Rattle.run_band.proofs.band.Goals.{Start}

abbrev lent_at : Start → State
lent_at c = record { run = c.args.run.now; sigmas = c.args.sigmas.now; first = c.args.first.now; second = c.args.second.now }

pub returns-in_err-check : goal.returns-in_err-check
returns-in_err-check c =
    let lent = lent_at (goal.at.returns-in_err-check c).Start in
    let same = passed_on _ _ c.from_residual.ensures.1 in
    band-refused lent c.args.k _ (same ∙ c.in_err-check.ensures) (λ z. number-nonzero _ (sym same ∙ z))

pub bounds-run-k : goal.bounds-run-k
bounds-run-k c =
    let lent = lent_at (goal.at.bounds-run-k c).Start in
    (room lent c.args.k (sym c.in_ok-check.ensures)).band

pub overflow_sub-run : goal.overflow_sub-run
overflow_sub-run c =
    let lent = lent_at (goal.at.overflow_sub-run c).Start in
    omega (arith, fewer-left lent c.args.k (sym c.in_ok-check.ensures) cc)

pub returns : goal.returns
unfolding marked
returns c =
    let lent = lent_at (goal.at.returns c).Start in
    let left : lent.run.bands_left - 1 ≡ (marked lent.run c.args.k).bands_left = omega (arith, fewer-left lent c.args.k (sym c.in_ok-check.ensures) cc) in
    rw left (band-done lent c.args.k (sym c.in_ok-check.ensures) _ _ c.filter_band.ensures)
