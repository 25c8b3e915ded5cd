-- `planes::copy_run` meets its contract: it copies if both slices hold the run, otherwise it does nothing. Assumes nothing.
use mathlib.Core.Path.{sym, ◌∙◌}
use borrow.Author.Tests.{leb-true}
use Rattle.planes.proofs.Copy.{copied-run}
use Rattle.planes.proofs.copy_run.Goals as goal

pub copy_samples-requires : goal.copy_samples-requires
copy_samples-requires c = (leb-true _ _ (sym c.if-inside.ensures), leb-true _ _ (sym c.if-inside-2.ensures))

pub returns-then-inside-2 : goal.returns-then-inside-2
returns-then-inside-2 c =
    c.copy_samples.ensures ∙ sym (copied-run _ _ _ _ _ (leb-true _ _ (sym c.if-inside.ensures)) (leb-true _ _ (sym c.if-inside-2.ensures)))
