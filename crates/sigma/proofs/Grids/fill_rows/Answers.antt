use mathlib.Core.Path.{◌≡◌, refl}
use mathlib.Core.List.{List}
use Prim.Native.Nat.{ℕ, ◌+◌, ◌*◌, ◌<◌, ◌≤◌}
use native.Mathlib.Nat.{suc-mul, mul-le-mul_right, zero-mul}
use native.Mathlib.Numerals.{add-one}
use native.Mathlib.Omega.{arith}
use lib.ListN.{length}
use lib.Ieee.{Float}
use Rattle.planes.specs.Fill.{fill}
use Rattle.sigma_groups.specs.Measures.{blocks_across, blocks_down}
use Rattle.sigma.proofs.Runs.{length-part, row_fits, rows-turn, rows_end}
use Rattle.sigma.proofs.Grids.fill_rows.Goals as goal

pub loop-y-init : goal.loop-y-init
unfolding fill
loop-y-init c = rw (zero-mul c.across-across.result)

-- row y of m rows of n blocks ends within the list
row_room : (y m n a : ℕ) (s d : List Float) → y < m → n ≡ a → length d ≡ m * a → length s ≡ length d → y * n + n ≤ length s
row_room y m n a s d l q e f = rw q (omega (arith, e, f, suc-mul y a, mul-le-mul_right a l))

pub fill_row-requires : goal.fill_row-requires
fill_row-requires c =
    let s = c.args.self.groups in
    let b = c.args.region in
    let y-lt : c.loop-y.y < blocks_down b.blocks = omega (arith, c.loop-y-test.true, c.down-y-end.ensures.down) in
    let room = row_room c.loop-y.y (blocks_down b.blocks) _ (blocks_across b.blocks) c.loop-y.sigmas c.args.sigmas.now y-lt c.across-across.ensures.across c.requires.1 c.loop-y.auto.sigmas in
    (row_fits s.frame.frame b.blocks s.table.now b.fits c.requires.0 _ c.loop-y.y c.across-across.ensures.across y-lt, length-part _ _ _ room)

pub loop-y-preserved : goal.loop-y-preserved
loop-y-preserved c =
    let s = c.args.self in
    let b = c.args.region in
    let y-lt : c.loop-y.y < blocks_down b.blocks = omega (arith, c.loop-y-test.true, c.down-y-end.ensures.down) in
    let room = row_room c.loop-y.y (blocks_down b.blocks) _ (blocks_across b.blocks) c.loop-y.sigmas c.args.sigmas.now y-lt c.across-across.ensures.across c.requires.1 c.loop-y.auto.sigmas in
    rw (add-one c.loop-y.y, suc-mul c.loop-y.y c.across-across.result)
    (rows-turn s.groups.frame.frame b.blocks s.groups.table.now s.grids.now s.modular c.args.sigmas.now _ _ _ c.loop-y.y _ c.across-across.ensures.across refl c.loop-y.invariant room c.fill_row.ensures)

pub returns : goal.returns
returns c =
    let s = c.args.self in
    rows_end s.groups.frame.frame c.args.region.blocks s.groups.table.now s.grids.now s.modular c.args.sigmas.now _ _ c.loop-y.y _ c.across-across.ensures.across refl
    (omega (arith, c.loop-y.auto.y-end, c.loop-y-test.false, c.down-y-end.ensures.down)) c.requires.1 c.loop-y.invariant
