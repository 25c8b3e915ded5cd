use mathlib.Core.Path.{refl, ap, ◌∙◌}
use native.Mathlib.Numerals.{add-one}
use Rattle.loupe.specs.Outcome.{after_pass, after_passes}
use Rattle.loupe.proofs.all_passes.Goals as goal

pub loop-k-init : goal.loop-k-init
unfolding after_passes
loop-k-init c = (refl, refl, refl)

pub loop-k-preserved : goal.loop-k-preserved
unfolding after_passes
loop-k-preserved c =
    let i = c.loop-k.invariant in
    let o = c.one_pass in
    (o.auto.first ∙ i.0, o.auto.second ∙ i.1, rw add-one (o.ensures ∙ ap (after_pass) i.2))
