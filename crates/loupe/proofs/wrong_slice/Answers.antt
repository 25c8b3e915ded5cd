-- `loupe::wrong_slice` meets its contract. Assumes nothing.
use mathlib.Core.Path.{sym, ◌∙◌}
use Prim.Native.Nat.{◌*◌, ◌≤◌}
use native.Mathlib.Nat.{mul-le-mul}
use native.Mathlib.Omega.{arith}
use Rattle.planes.proofs.Stored.{planes-few}
use Rattle.region.proofs.Laws.{picture-bounds, bounds-width, bounds-height}
use Rattle.loupe.proofs.wrong_slice.Goals as goal

pub overflow_mul-result-2 : goal.overflow_mul-result-2
overflow_mul-result-2 c =
    let r = c.args.wanted in
    let b = picture-bounds r c.requires in
    let few = (planes-few c.args.planes (sym c.planes_fit.ensures ∙ c.if-not-planes_fit.false)).1 in
    let a : c.args.planes * r.height ≤ 3 * 16384 = mul-le-mul few (bounds-height r b) in
    let m : c.args.planes * r.height * r.width ≤ 3 * 16384 * 16384 = mul-le-mul a (bounds-width r b) in
    record { fits = omega arith }
