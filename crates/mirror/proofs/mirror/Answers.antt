-- `mirror::mirror` meets its contract where no check applies. Assumes nothing.
use mathlib.Core.Path.{◌≡◌, refl, ap, ◌∙◌}
use Prim.Native.Nat.{ℕ}
use lib.IntN.{pos}
use lib.Signed.{mag}
use borrow.Author.Tests.{le-ltb}
use native.Mathlib.Omega.{arith}
use mir.Facts.{to_z-of_z}
use Rattle.mirror.specs.Mirror.{mirror}
use Rattle.mirror.proofs.Laws.{mirror-mag}
use Rattle.mirror.proofs.mirror.Goals as goal

pub returns : goal.returns
returns c =
    let z = c.args.offset in
    let n = c.args.len in
    let e = to_z-of_z c.ranges.offset in
    let index : c.reflected.result ≡ mirror z n = c.reflected.ensures ∙ ap (λ (k : ℕ). mirror (pos k) n) (c.unsigned.ensures ∙ ap mag e) ∙ mirror-mag z n in
    rw
    (le-ltb n 1 (omega arith), le-ltb 16384 n (omega arith), rw e at c.if-offset-lt-MIN_OFFSET.false, rw e at c.if-offset-gt-MAX_OFFSET.false)
    (refl, index)
