-- `loupe::all_passes` meets its contract. The loop's invariant: the state is that after k passes, and both sets keep their lengths. Assumes nothing.
use mathlib.Core.Path.{◌≡◌}
use lib.ListN.{length}
use Rattle.run_outcomes.specs.Band.{State}
use Rattle.loupe.specs.Outcome.{after_passes}
use Rattle.loupe.proofs.all_passes.Given as goal

abbrev pub invariant-loop-k : goal.invariant-loop-k
invariant-loop-k l = (length l.first ≡ length l.initial.first)
    × (length l.second ≡ length l.initial.second)
    × (◌≡◌ {A = State} (record { run = l.run; sigmas = l.sigmas; first = l.first; second = l.second })
    (after_passes l._k (record { run = l.initial.run; sigmas = l.sigmas; first = l.initial.first; second = l.initial.second })))
