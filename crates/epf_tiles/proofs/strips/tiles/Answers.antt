use mathlib.Core.Path.{◌≡◌, refl, ◌∙◌}
use Prim.Native.Nat.{◌+◌, ◌-◌, ◌*◌, ◌/◌}
use native.Mathlib.Omega.{arith}
use Rattle.epf_tiles.specs.Blocks.{block_columns}
use Rattle.epf_tiles.specs.Region.{block_start}
use Rattle.epf_tiles.proofs.Blocks.{ShareFits, share-fits, tile-columns}
use Rattle.epf_tiles.proofs.Columns.{part-none, part-beside, part-tile}
use Rattle.epf_tiles.proofs.strips.tiles.Goals as goal

pub loop-b-init : goal.loop-b-init
loop-b-init c =
    let a = c.args in
    (omega arith, c.requires.in_strip.0, refl, part-none a.pass a.sigmas.now a.src.now a.span.y a.span.rows a.dst.now c.requires.pass_fits c.requires.strip_fits (block_start a.pass.layout a.from))

pub tile-requires-clause-tile_in_pass : goal.tile-requires-clause-tile_in_pass
tile-requires-clause-tile_in_pass c =
    let f = c.requires.pass_fits in
    let s = c.requires.strip_fits in
    let t = tile-columns c.args.pass.layout c.loop-b.b c.args.to _ _ c.loop-b-test.true c.requires.in_strip.1 c.share-blocks.ensures c.min.ensures in
    record {
      tile = record {
        planes-le = f.region.planes-le;
        x-aligned = omega arith;
        rows-le = s.rows-le;
        rows-pos = s.rows-pos;
        cols-le = t.few;
        cols-pos = t.some;
        across = t.across;
        down = s.inside;
      };
      room = record {
        layout = f.region.layout;
        planes-le = f.region.planes-le;
        across = t.across;
        down = s.inside;
        rows-pos = s.rows-pos;
        set = c.loop-b.invariant.2 ∙ f.region.set;
      };
      same = omega (arith, f.same, c.loop-b.invariant.2);
      step-lt = f.region.step-lt;
      top-le = f.region.top-le;
    }

pub tile-requires-clause-filtered : goal.tile-requires-clause-filtered
tile-requires-clause-filtered c k h =
    let l = c.args.pass.layout in
    let y = c.args.span.y in
    let b = c.loop-b.b in
    let g = share-fits (c.args.to - b) (omega arith) in
    let z : y / 8 * block_columns l + b * 8 / 8 + k ≡ y / 8 * block_columns l + (b + k) = omega arith in
    rw z (c.requires.filtered (b + k) (omega (arith, c.loop-b.invariant.0)) (omega (arith, c.share-blocks.ensures, c.min.ensures, g.within)))

pub loop-b-smaller : goal.loop-b-smaller
loop-b-smaller c = omega (arith, c.share-blocks.ensures, c.loop-b-test.true, (share-fits (c.args.to - c.loop-b.b) (omega (arith, c.loop-b-test.true))).some)

pub loop-b-preserved : goal.loop-b-preserved
loop-b-preserved c =
    let a = c.args in
    let l = a.pass.layout in
    let b = c.loop-b.b in
    let g : ShareFits (a.to - b) c.share-blocks.result = rw c.share-blocks.ensures (share-fits (a.to - b) (omega (arith, c.loop-b-test.true))) in
    let t = tile-columns l b a.to _ _ c.loop-b-test.true c.requires.in_strip.1 c.share-blocks.ensures c.min.ensures in (
      omega (arith, c.loop-b.invariant.0),
      omega (arith, g.within, c.loop-b-test.true),
      c.tile.auto.dst ∙ c.loop-b.invariant.2,
      part-beside a.pass a.sigmas.now a.src.now a.span.y a.span.rows _ c.requires.pass_fits c.requires.strip_fits (block_start l a.from) (block_start l b) (block_start l (b + c.share-blocks.result)) _ _ (omega (arith, c.loop-b.invariant.0)) (omega arith) (omega arith) c.loop-b.invariant.3
          (part-tile a.pass a.sigmas.now a.src.now a.span.y a.span.rows _ c.requires.pass_fits c.requires.strip_fits _ _ _ _ _ _ t.start t.width c.tile.ensures),
    )
