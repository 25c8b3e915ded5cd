use mathlib.Core.Path.{◌≡◌, refl}
use Prim.Native.Nat.{ℕ, ◌+◌, ◌*◌, ◌≤◌}
use native.Mathlib.Omega.{arith}
use lib.IntN.{ℤ}
use Rattle.mirror.specs.Mirror.{mirror}
use Rattle.mirror.proofs.Laws.{mirror-lt}
use Rattle.planes.specs.declared.Layout.{Layout}
use Rattle.planes.proofs.Rect.{rows-turn}
use Rattle.planes.proofs.Room.{region_start}
use Rattle.epf_window.specs.declared.WindowPart.{WindowPart}
use Rattle.epf_window.specs.Window.{PlaneFits}
use Rattle.epf_window.proofs.Window.{row_room, row_is}
use Rattle.epf_window.proofs.load_plane.Goals as goal

-- the row at the mirrored index lies inside the list
fits : (l : Layout) (p : WindowPart) (c k len : ℕ) (z : ℤ) → PlaneFits l c p len → k ≡ mirror z l.height → region_start l c + k * l.image.width + l.width ≤ len
fits l p c k len z f e = row_room l c k len f.region-le (rw e (mirror-lt z l.height (omega (arith, f.y-lt))))

pub overflow_mul-row : goal.overflow_mul-row
overflow_mul-row c = omega (arith, fits _ _ _ _ _ _ c.requires c.mirrored-k.ensures)

pub overflow_add-row : goal.overflow_add-row
overflow_add-row c = omega (arith, fits _ _ _ _ _ _ c.requires c.mirrored-k.ensures)

pub copy-requires : goal.copy-requires
copy-requires c =
    let p = c.requires in
    record { row-le = fits _ _ _ _ _ _ p c.mirrored-k.ensures; width-le = omega (arith, p.layout.across, p.layout.width-le); x_lt = p.x_lt; target-le = omega (arith, p.cols-le, p.rows-le, p.plane-le); cols-ge = p.cols-ge }

pub loop-i-preserved : goal.loop-i-preserved
loop-i-preserved c = (omega arith, rows-turn _ _ _ _ _ _ _ _ _ c.loop-i.invariant.1 refl (row_is c.args.l c.args.src.now _ _ c.args.part c.args.c _ _ _ _ c.mirrored-k.ensures refl c.copy.ensures))
