-- `sigma_groups::groups::Groups::some_bad_presence` meets its contract. Assumes nothing.
use Rattle.std.proofs.Common.{rules, tests}
use Rattle.sigma_grids.specs.Table.{bad_presence}
use Rattle.sigma_grids.proofs.Laws.{any_below}
use Rattle.sigma_groups.proofs.groups.Groups.some_bad_presence.Goals as goal

pub returns : goal.returns
returns c =
    rw (← c.args.self.entries.sizes-are)
    (any_below _ _ _ (bad_presence c.args.self.table.now) _ c.any.ensures.ran (λ x q k. search (rules, tests)) (λ x q k. search (rules, tests)))
