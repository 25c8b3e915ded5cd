use mathlib.Core.Path.{refl, ◌∙◌}
use Prim.Native.Nat.{ℕ, ◌+◌, ◌*◌, ◌≤◌, ◌<◌}
use native.Mathlib.Nat.{suc-mul, mul-le-mul, mul-le-mul_right, add-mul}
use native.Mathlib.Omega.{arith}
use Rattle.planes.specs.declared.Layout.{Layout}
use Rattle.planes.specs.Rect.{planes_fill}
use Rattle.planes.specs.Fits.{LayoutFits}
use Rattle.planes.proofs.Room.{PlaneRoom, plane-room}
use Rattle.run_result.proofs.Part.{plane-next}
use Rattle.run_result.proofs.copy_planes.Goals as goal

pub loop-c-init : goal.loop-c-init
unfolding planes_fill
loop-c-init c = (refl, refl)

record Room (n c : ℕ) (l : Layout) : Type 0 where
  pub read : PlaneRoom l n c
  pub written : c * l.height ≤ 49152
  pub at : c * l.height * l.width ≤ 49152 * 16384
  pub stored : c * l.height * l.width + l.height * l.width ≤ n * l.height * l.width

room : (n c : ℕ) (l : Layout) → n ≤ 3 → c < n → LayoutFits l → Room n c l
room n c l few-planes p f =
    let few : c ≤ 3 = omega arith in
    let h : l.height ≤ 16384 = omega (arith, f.height-le, f.down) in
    let w : l.width ≤ 16384 = omega (arith, f.width-le, f.across) in
    let g : c * l.height ≤ 3 * 16384 = mul-le-mul few h in
    let k : c * l.height + l.height ≤ n * l.height = omega (arith, suc-mul c l.height, mul-le-mul_right l.height p) in
    record {
      read = plane-room l n c f few-planes p;
      written = omega arith;
      at = mul-le-mul g w;
      stored = omega (arith, add-mul (c * l.height) l.height l.width, mul-le-mul_right l.width k);
    }

pub copy_rows-requires : goal.copy_rows-requires
copy_rows-requires c =
    let here : Room c.args.n c.loop-c.c c.args.l = room c.args.n c.loop-c.c c.args.l c.requires.few_planes c.loop-c-test.true c.requires.layout_fits in
    (c.requires.layout_fits, omega (arith, here), omega (arith, here))

pub loop-c-preserved : goal.loop-c-preserved
loop-c-preserved c =
    let inv = c.loop-c.invariant in (
      c.copy_rows.auto.out ∙ inv.0,
      plane-next _ _ _ _ _ _ _ _ inv.1 refl refl c.copy_rows.ensures,
    )
