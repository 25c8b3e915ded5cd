use mathlib.Core.Path.{refl, ◌∙◌}
use native.Mathlib.Omega.{arith}
use Rattle.epf_tiles.specs.Region.{block_start}
use Rattle.epf_tiles.proofs.Columns.{part-none, part-beside, part-held}
use Rattle.epf_tiles.proofs.strips.runs.Goals as goal

pub loop-b-init : goal.loop-b-init
loop-b-init c =
    let a = c.args in
    (omega arith, refl, part-none a.pass a.sigmas.now a.src.now a.span.y a.span.rows a.dst.now c.requires.pass_fits c.requires.strip_fits (block_start a.pass.layout 0))

-- a run of copied blocks stays, and a run of tiles follows
pub loop-b-preserved : goal.loop-b-preserved
loop-b-preserved c =
    let a = c.args in
    let l = a.pass.layout in
    let f = c.requires.pass_fits in
    let s = c.requires.strip_fits in
    let r = c.run_end-from.ensures in (
      omega (arith, c.run_end-to.ensures.within, c.blocks_of-across.ensures),
      c.tiles.auto.dst ∙ c.loop-b.invariant.1,
      part-beside a.pass a.sigmas.now a.src.now a.span.y a.span.rows _ f s (block_start l 0) (block_start l c.run_end-from.result) (block_start l c.run_end-to.result) c.loop-b.dst _ (omega arith) (omega (arith, c.run_end-to.ensures.order)) (omega arith)
          (part-held a.pass a.sigmas.now a.src.now a.span.y a.span.rows _ f s (block_start l 0) c.loop-b.b c.run_end-from.result c.loop-b.dst c.requires.holds_copied r.alike (omega arith) r.order c.loop-b.invariant.2) c.tiles.ensures,
    )
