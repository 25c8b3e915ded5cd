-- `epf_lanes::filter_tile` meets its contract. If a test fails, `dst` is unchanged. Assumes nothing.
use mathlib.Core.Path.{sym, ◌∙◌}
use native.Mathlib.Omega.{arith}
use lib.ListN.{length}
use Rattle.epf_lanes.proofs.Room.{served, lanes-fit}
use Rattle.epf_lanes.proofs.filter_tile.Goals as goal

pub filter_planes-requires-in_default : goal.filter_planes-requires-in_default
filter_planes-requires-in_default c =
    let fits = served c.args.step c.args.v c.args.planes c.args.rect.rows c.args.rect.cols (length c.args.src.now) (sym c.serves.ensures ∙ c.if-not-serves.false) in
    lanes-fit c.args.step c.args.l c.args.planes 3 c.args.rect c.args.v _ _ (sym c.fits.ensures ∙ c.if-not-fits.false) fits (omega (arith, fits.0.planes-pos, fits.0.planes-le))
