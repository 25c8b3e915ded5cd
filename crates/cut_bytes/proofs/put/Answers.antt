-- `cut_bytes::put` meets its contract. Assumes nothing.
use Rattle.std.proofs.Common.{◌≡◌, ◌+◌, ◌-◌, arith, length}
use Rattle.cut_bytes.proofs.Laws.{part-stored}
use Rattle.cut_bytes.proofs.put.Goals as goal

pub returns-then-at-bytes : goal.returns-then-at-bytes
returns-then-at-bytes c =
    let a = c.args in
    let room : a.at + length a.part.now - a.at ≡ length a.part.now = omega arith in
    rw c.copy_from_slice.ensures.after (part-stored a.bytes.now a.at _ a.part.now room (omega arith))
