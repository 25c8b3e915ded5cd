-- Bounds of a filter region within the limits. Assumes nothing.
use mathlib.Core.Path.{◌≡◌}
use mathlib.Core.Bool.{false}
use Prim.Native.Nat.{◌*◌, ◌≤◌}
use native.Mathlib.Nat.{mul-le-mul}
use native.Mathlib.Omega.{arith}
use borrow.Author.Tests.{ltb-false}
use lib.Dec.{ltb}
use Rattle.frame.specs.Outcome.{bad_side}
use Rattle.sigma_grids.proofs.Laws.{neither, side-range}
use Rattle.sigma_groups.specs.declared.blocks.Blocks.{Blocks}
use Rattle.sigma_groups.specs.Measures.{blocks_across, blocks_down, bad_blocks}
use Rattle.sigma_groups.specs.BlocksFit.{BlocksFit}

pub fits-blocks : (b : Blocks) → bad_blocks b ≡ false → BlocksFit b
unfolding bad_blocks
fits-blocks b h =
    let t = neither _ (ltb 131072 b.top) h in
    let l = neither _ (ltb 131072 b.left) t.0 in
    let a = neither _ (ltb 16777216 (b.width * b.height)) l.0 in
    let s = neither (bad_side b.width) (bad_side b.height) a.0 in
    let ws = side-range b.width 16384 s.0 in
    let hs = side-range b.height 16384 s.1 in
    record {
      width-pos = ws.0;
      width-le = ws.1;
      height-pos = hs.0;
      height-le = hs.1;
      area-le = ltb-false 16777216 (b.width * b.height) a.1;
      left_le = ltb-false 131072 b.left l.1;
      top-le = ltb-false 131072 b.top t.1;
    }

-- at most 2,048 blocks across and down
pub across-le : (b : Blocks) → BlocksFit b → blocks_across b ≤ 2048
across-le b m = omega (arith, m.width-le)

pub down_le : (b : Blocks) → BlocksFit b → blocks_down b ≤ 2048
down_le b m = omega (arith, m.height-le)

pub count-le : (b : Blocks) → BlocksFit b → blocks_down b * blocks_across b ≤ 4194304
count-le b m = mul-le-mul (down_le b m) (across-le b m)
