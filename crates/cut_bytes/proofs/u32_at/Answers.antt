-- `cut_bytes::u32_at` meets its contract. Assumes nothing.
use Rattle.std.proofs.Common.{◌≡◌, ◌+◌, arith}
use Rattle.cut_bytes.proofs.Laws.{four_bytes}
use Rattle.cut_bytes.proofs.u32_at.Goals as goal

pub returns : goal.returns
returns c =
    let a = c.args in
    let b = c.bytes_at.ensures in
    let first : a.at + 0 ≡ a.at = omega arith in
    omega (arith, four_bytes a.bytes.now a.at, rw first at (b 0 (omega arith)), b 1 (omega arith), b 2 (omega arith), b 3 (omega arith), c.from_le_bytes.ensures)
