-- `run_outcomes::set_length` meets its contract. Assumes nothing.
use Prim.Native.Nat.{◌*◌, ◌≤◌}
use native.Mathlib.Nat.{mul-le-mul}
use native.Mathlib.Omega.{arith}
use Rattle.planes.proofs.Stored.{planes-few}
use Rattle.run_outcomes.proofs.Tests.{size-sides}
use Rattle.run_outcomes.proofs.set_length.Goals as goal

pub overflow_mul-result-2 : goal.overflow_mul-result-2
overflow_mul-result-2 c =
    let r = c.args.r in
    let s = size-sides r c.requires.1 in
    let a : c.args.planes * r.height ≤ 3 * 16384 = mul-le-mul (planes-few c.args.planes c.requires.0).1 s.height-le in
    let m : c.args.planes * r.height * r.width ≤ 3 * 16384 * 16384 = mul-le-mul a s.width-le in
    record { fits = omega arith }
