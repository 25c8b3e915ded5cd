-- `epf_rects::copy_rect` meets its contract. If a test fails, `dst` is unchanged. Assumes nothing.
use mathlib.Core.Path.{sym, ◌∙◌}
use lib.ListN.{length}
use Rattle.epf_rects.specs.Rects.{RectFits}
use Rattle.epf_rects.proofs.Rects.{rect-facts, rect-copied}
use Rattle.epf_rects.proofs.copy_rect.Goals as goal

pub returns : goal.returns
returns c =
    let fits : RectFits c.args.l c.args.n c.args.rect (length c.args.dst.now) = rect-facts c.args.l c.args.n c.args.rect (length c.args.dst.now) (sym c.fits.ensures ∙ c.if-not-fits.false) in
    c.store_planes.ensures ∙ sym (rect-copied c.args.l c.args.n c.args.rect c.args.src.now c.args.dst.now fits c.if-src-dst.false)
