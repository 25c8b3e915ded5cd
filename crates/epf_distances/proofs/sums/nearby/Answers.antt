-- `epf_distances::sums::nearby` meets its contract. Assumes nothing.
use Prim.Native.Nat.{ℕ}
use lib.Ieee.{nan}
use lib.ListN.{get_or}
use Rattle.epf_distances.proofs.Lanes.{lanes-listed}
use Rattle.epf_distances.proofs.sums.nearby.Goals as goal

pub returns : goal.returns
returns g c =
    lanes-listed g.row.STEP (λ (p : ℕ). get_or c.args.d.now p nan) c.args.j _ _ _ _ _ c.requires.0 c.requires.1
    c.compared.ensures c.compared-2.ensures c.compared-3.ensures c.compared-4.ensures c.compared-5.ensures
