-- `epf_tiles::tile::tile` meets its contract. With the slopes of its columns a tile is filtered from the planes or from its windows. Assumes nothing.
use mathlib.Core.Path.{◌≡◌, sym, ◌∙◌}
use mathlib.Core.List.{List}
use Prim.Native.Nat.{ℕ, ◌+◌, ◌≤◌}
use native.Mathlib.Omega.{arith}
use lib.Ieee.{Float}
use lib.ListN.{length}
use Rattle.frame.specs.Sizes.{blocks_along}
use Rattle.epf_slopes.specs.Slopes.{slopes_of, Sloped}
use Rattle.epf_rects.specs.declared.Rect.{Rect}
use Rattle.epf_tiles.specs.declared.Pass.{Pass}
use Rattle.epf_tiles.specs.Tile.{sigma_first, TileInPass}
use Rattle.epf_tiles.proofs.TileLaws.{tile-sloped, window-filtered, planes-filtered}
use Rattle.epf_tiles.proofs.tile.tile.Goals as goal

-- the slopes are those of the tile
steep : (p : Pass) (src : List Float) (q : Rect) (d : List Float) → TileInPass p q (length src) (length d) → (sigmas old : List Float) → sigma_first p.layout q + blocks_along q.cols ≤ length sigmas → length old ≡ 128
    → (first b : ℕ) (slopes : List Float) → first ≡ sigma_first p.layout q → b ≡ blocks_along q.cols → slopes ≡ slopes_of sigmas first b p.settings.scale p.settings.edge old
    → Sloped sigmas (sigma_first p.layout q) (blocks_along q.cols) p.settings.scale p.settings.edge slopes
steep p src q d f sigmas old room len first b slopes ef eb e = tile-sloped p src q d f sigmas old slopes room len (rw (ef, eb) at e)

pub returns-then-lies_inside : goal.returns-then-lies_inside
returns-then-lies_inside c =
    let a = c.args in
    let p = c.requires.tile_in_pass in
    planes-filtered a.pass a.src.now a.rect a.dst.now p _ a.arrays.now.fields _ _ c.planes_view-v.ensures (omega arith) c.if-s-ne0.true (sym c.lies_inside.ensures ∙ c.if-lies_inside.true) c.filter_view.ensures a.sigmas.now
    (steep a.pass a.src.now a.rect a.dst.now p a.sigmas.now a.arrays.now.slopes c.requires.cols_in_bounds (omega arith) _ _ _ c.first_sigma-first.ensures c.blocks_of-blocks.ensures c.tile_slopes.ensures) c.requires.filtered

pub returns : goal.returns
returns c =
    let a = c.args in
    let p = c.requires.tile_in_pass in
    window-filtered a.pass a.src.now a.rect a.dst.now p _ a.arrays.now.win _ a.arrays.now.fields _ _ c.window_view.ensures (omega arith) (omega arith) (omega arith) c.load_windows.ensures c.filter_view-2.ensures a.sigmas.now
    (steep a.pass a.src.now a.rect a.dst.now p a.sigmas.now a.arrays.now.slopes c.requires.cols_in_bounds (omega arith) _ _ _ c.first_sigma-first.ensures c.blocks_of-blocks.ensures c.tile_slopes.ensures) c.requires.filtered
