-- `sigma::Grids::fill_run` meets its contract. Assumes nothing.
use mathlib.Core.Path.{◌≡◌, ◌∙◌}
use Prim.Native.Nat.{ℕ, ◌+◌, ◌*◌, ◌≤◌}
use native.Mathlib.Omega.{arith}
use lib.ListN.{length, length-replicate, get_or-replicate}
use lib.Ieee.{nan}
use Rattle.planes.proofs.Copy.{copied-run}
use Rattle.planes.proofs.SetLaws.{length-tab, get_d-tab}
use Rattle.refusals.proofs.Answered.{outcome_is_ok, outcome_ok}
use Rattle.sigma_grids.specs.Table.{grid_start}
use Rattle.sigma_grids.proofs.Laws.{start-number}
use Rattle.sigma.specs.Runs.{Holds}
use Rattle.sigma.proofs.Runs.{is-tab, fill-whole, first_cell, run_room, run-present, run-missing}
use Rattle.sigma.proofs.Grids.fill_run.Goals as goal

pub returns-in_default : goal.returns-in_default
returns-in_default c =
    let s = c.args.self in
    let size = c.requires.1 in
    c.fill.ensures.after (λ y e. e)
    ∙ is-tab _ _ _ (length-replicate _ _ ∙ size) (λ i l. get_or-replicate _ i s.modular nan (omega (arith, size)) ∙ run-missing s.groups.table.now s.grids.now c.args.run c.in_default.ensures s.modular i)

-- the groups before the run's have grids with sides in range, so its grid has a start
pub unwrap-first-requires : goal.unwrap-first-requires
unwrap-first-requires c =
    let t = c.args.self.groups.table.now in
    let g = c.args.run.group in
    let fits = c.requires.0 in
    outcome_is_ok _ _ _ c.grid_start.ensures (start-number t g fits.table-le (omega (arith, fits.entry)) ∙ rw fits.before)

pub returns : goal.returns
returns c =
    let s = c.args.self in
    let run = c.args.run in
    let holds : Holds s.groups.table.now s.grids.now run = c.requires.0.holds c.in-Some.ensures.0 in
    let start : c.unwrap-first.result ≡ grid_start s.groups.table.now run.group = outcome_ok _ _ _ _ c.grid_start.ensures c.unwrap-first.ensures in
    let from : ℕ = c.unwrap-first.result + (run.row * c.in-Some.grid.width + run.column) in
    let from_is : from ≡ first_cell s.groups.table.now s.grids.now run = rw (start, c.in-Some.ensures.1) in
    let room : from + run.n ≤ length s.grids.now = omega (arith, from_is, run_room _ _ _ holds) in
    let copied = copied-run c.args.sigmas.now 0 s.grids.now from run.n (omega (arith, c.requires.1)) room in
    c.copy_run.ensures
    ∙ copied
    ∙ fill-whole _ run.n _ c.requires.1
    ∙ is-tab _ run.n _ (length-tab run.n _) (λ i l. get_d-tab run.n _ i l ∙ run-present s.groups.table.now s.grids.now run c.in-Some.ensures.0 s.modular _ i from_is)
