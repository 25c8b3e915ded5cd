-- `epf_tiles::strips::strips` meets its contract. The invariant: the rows above y are written. Assumes nothing.
use mathlib.Core.Path.{◌≡◌}
use Prim.Native.Nat.{◌-◌, ◌≤◌}
use lib.ListN.{length}
use Rattle.epf_tiles.specs.Region.{rows_stepped}
use Rattle.epf_tiles.proofs.strips.strips.Given as goal

abbrev pub invariant-loop-y : goal.invariant-loop-y
invariant-loop-y l = (l.from ≤ l.y) × (l.y ≤ l.to) × (length l.dst ≡ length l.initial.dst)
    × (l.dst ≡ rows_stepped l.pass l.from (l.y - l.from) l.sigmas l.src l.initial.dst)

abbrev pub decreases-loop-y : goal.decreases-loop-y
decreases-loop-y l = l.to - l.y
