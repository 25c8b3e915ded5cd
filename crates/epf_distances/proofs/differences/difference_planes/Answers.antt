use mathlib.Core.Path.{◌≡◌, ◌∙◌}
use Prim.Native.Nat.{ℕ, ◌+◌, ◌*◌}
use native.Mathlib.Omega.{arith}
use Rattle.planes.proofs.Rect.{rows-cong, planes-turn}
use Rattle.epf_distances.proofs.Lanes.{apart-from}
use Rattle.epf_distances.proofs.differences.difference_planes.Goals as goal

pub loop-c-preserved : goal.loop-c-preserved
loop-c-preserved g c =
    let z : c.loop-c.c * 864 ≡ (c.loop-c.c * 12 + 0) * 72 + 0 = omega arith in (
      omega arith,
      planes-turn 72 12 0 _ 0 _ _ c.args.d.now _ _ c.loop-c.c c.loop-c.invariant.1
          (rw z at c.difference_rows.ensures ∙ rows-cong _ _ 72 _ _ _ _ (λ (i x : ℕ) p q. apart-from c.args.src.now (c.loop-c.c * c.args.v.plane) c.args.apart (c.args.p + i * c.args.v.stride + x) _ (omega arith))),
    )
