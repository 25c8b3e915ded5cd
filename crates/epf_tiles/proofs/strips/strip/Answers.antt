-- `epf_tiles::strips::strip` meets its contract. Assumes nothing.
use Rattle.epf_tiles.proofs.Columns.{copied-holds, copied-over}
use Rattle.epf_tiles.proofs.strips.strip.Goals as goal

-- the strip is copied
pub runs-requires-clause-holds_copied : goal.runs-requires-clause-holds_copied
runs-requires-clause-holds_copied c =
    let a = c.args in
    copied-holds a.pass a.sigmas.now a.src.now a.span.y a.span.rows a.dst.now c.requires.pass_fits c.requires.strip_fits _ c.copy_rect.ensures

pub returns : goal.returns
returns c =
    let a = c.args in
    copied-over a.pass a.sigmas.now a.src.now a.span.y a.span.rows a.dst.now c.requires.pass_fits c.requires.strip_fits _ c.copy_rect.ensures _ c.runs.ensures
