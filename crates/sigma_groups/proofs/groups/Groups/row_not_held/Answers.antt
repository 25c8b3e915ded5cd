-- `sigma_groups::groups::Groups::row_not_held` meets its contract. Assumes nothing.
use Rattle.std.proofs.Common.{rules, tests, ◌+◌}
use Rattle.sigma_grids.proofs.Laws.{any_below}
use Rattle.sigma_groups.specs.Held.{not_held}
use Rattle.sigma_groups.proofs.groups.Groups.row_not_held.Goals as goal

pub returns : goal.returns
returns c =
    any_below _ _ _ (λ x. not_held c.args.self.frame.frame c.args.self.table.now (c.args.left + x) c.args.by) _ c.any.ensures.ran (λ x q k. search (rules, tests)) (λ x q k. search (rules, tests))
