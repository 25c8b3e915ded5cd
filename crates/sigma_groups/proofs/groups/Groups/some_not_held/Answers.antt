-- `sigma_groups::groups::Groups::some_not_held` meets its contract. Assumes nothing.
use Rattle.std.proofs.Common.{rules, tests, ◌+◌}
use Rattle.sigma_grids.specs.Table.{some_below}
use Rattle.sigma_grids.proofs.Laws.{any_below}
use Rattle.sigma_groups.specs.Held.{not_held, some_not_held}
use Rattle.sigma_groups.proofs.groups.Groups.some_not_held.Goals as goal

pub returns : goal.returns
unfolding some_not_held
returns c =
    let a = c.args in
    rw (← c.down.ensures.down, ← c.across-across.ensures.across)
    (any_below _ _ _ (λ y. some_below c.across-across.result (λ x. not_held a.self.frame.frame a.self.table.now (a.region.blocks.left + x) (a.region.blocks.top + y))) _ c.any.ensures.ran
    (λ x q k. search (rules, tests)) (λ x q k. search (rules, tests)))
