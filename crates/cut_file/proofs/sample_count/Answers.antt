-- `cut_file::sample_count` meets its contract. Assumes nothing.
use mathlib.Core.Path.{◌≡◌, sym, ◌∙◌}
use mathlib.Core.Bool.{true}
use Prim.Native.Nat.{◌*◌, ◌≤◌}
use native.Mathlib.Omega.{arith}
use Rattle.refusals.proofs.Tables.{of-true}
use Rattle.region.specs.Measures.{picture_fits}
use Rattle.std.proofs.lemmas.Nat.{mul-le}
use Rattle.cut_file.proofs.Laws.{area-le}
use Rattle.cut_file.proofs.sample_count.Goals as goal

pub overflow_mul-result-2 : goal.overflow_mul-result-2
overflow_mul-result-2 c =
    let fits : picture_fits c.args.r ≡ true = sym c.picture_fits.ensures ∙ c.if-not-picture_fits.false in
    let area : c.args.r.height * c.args.r.width ≤ 16777216 = area-le c.args.r (of-true (picture_fits c.args.r) fits) in
    omega (arith, mul-le (c.args.planes) (c.args.r.height * c.args.r.width) 4294967295 16777216 (omega arith) area)
