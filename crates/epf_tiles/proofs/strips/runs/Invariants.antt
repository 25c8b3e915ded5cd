-- `epf_tiles::strips::runs` meets its contract. The invariant: the blocks before b are written. Assumes nothing.
use mathlib.Core.Path.{◌≡◌}
use Prim.Native.Nat.{◌-◌, ◌≤◌}
use lib.ListN.{length}
use Rattle.epf_tiles.specs.Region.{blocks_stepped}
use Rattle.epf_tiles.proofs.strips.runs.Given as goal

abbrev pub invariant-loop-b : goal.invariant-loop-b
invariant-loop-b l = (l.b ≤ l.across) × (length l.dst ≡ length l.initial.dst)
    × (l.dst ≡ blocks_stepped l.pass l.span.y l.span.rows 0 l.b l.sigmas l.src l.initial.dst)

abbrev pub decreases-loop-b : goal.decreases-loop-b
decreases-loop-b l = l.across - l.b
