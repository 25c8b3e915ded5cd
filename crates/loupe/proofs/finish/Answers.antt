-- `loupe::finish` meets its contract. Assumes nothing.
use borrow.Author.Tests.{eq-eqb, ne_eqb}
use Rattle.loupe.specs.Pieces.{passed_outcome}
use Rattle.loupe.proofs.finish.Goals as goal

pub returns-then-passes-eq0 : goal.returns-then-passes-eq0
unfolding passed_outcome
returns-then-passes-eq0 c =
    let e = eq-eqb _ 0 c.if-passes-eq0.true in
    rw (← c.all_passes.ensures, e, c.copy_wanted.ensures)

pub returns : goal.returns
unfolding passed_outcome
returns c =
    let e = ne_eqb _ 0 c.if-passes-eq0.false in
    rw (← c.all_passes.ensures, e, c.copy_wanted-2.ensures)
