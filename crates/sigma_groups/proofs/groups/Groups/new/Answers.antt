-- `sigma_groups::groups::Groups::new` meets its contract. Assumes nothing.
use mathlib.Core.Path.{refl}
use borrow.Author.Tests.{eq-eqb, ne_eqb}
use Rattle.sigma_groups.specs.Outcome.{table_fits}
use Rattle.sigma_groups.proofs.groups.Groups.new.Goals as goal

pub returns-then-table-sizes : goal.returns-then-table-sizes
unfolding table_fits
returns-then-table-sizes c = rw (← c.sizes-sizes.ensures, ne_eqb _ _ c.if-table-sizes.true) (refl, tt)

pub returns : goal.returns
unfolding table_fits
returns c = rw (← c.sizes-sizes.ensures, eq-eqb _ _ c.if-table-sizes.false) (refl, (refl, refl, refl))
