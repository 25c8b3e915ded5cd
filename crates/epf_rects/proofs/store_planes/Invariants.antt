-- `epf_rects::store_planes` meets its contract. The invariant: c planes are written. Assumes nothing.
use mathlib.Core.Path.{◌≡◌}
use Prim.Native.Nat.{◌+◌, ◌≤◌}
use lib.ListN.{length}
use Rattle.planes.specs.Band.{inner}
use Rattle.epf_rects.specs.Rects.{rect_filled}
use Rattle.epf_rects.proofs.store_planes.Given as goal

abbrev pub invariant-loop-c : goal.invariant-loop-c
invariant-loop-c l = (l.c ≤ l.n) × (length l.dst ≡ length l.initial.dst) × (l.dst ≡ rect_filled l.fn.l l.c l.rect (λ c i r. inner l.fn.l l.src c (l.rect.x + i) (l.rect.y + r)) l.initial.dst)
