-- `epf_lanes::weights::mix` meets its contract. Assumes nothing.
use Prim.Native.Nat.{◌+◌, ◌*◌}
use native.Mathlib.Omega.{arith}
use borrow.Author.Tests.{eq-eqb}
use Rattle.epf_vectors.proofs.Rows.{loaded}
use Rattle.epf_lanes.proofs.weights.mix.Goals as goal

pub returns : goal.returns
returns g c =
    rw (eq-eqb g.row.STEP 0 c.if-this-ne0.false, c.with_four.ensures, c.with_four-y.ensures, c.with_four-x.ensures, loaded c.args.src.now (c.args.p + (3 * c.args.across + 4)) (omega (arith, c.requires)))
