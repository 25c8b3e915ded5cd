-- `cut_bytes::put_u16` meets its contract. Assumes nothing.
use Rattle.std.proofs.Common.{sym, ap, ◌∙◌}
use Rattle.cut_bytes.specs.Bytes.{stored}
use Rattle.cut_bytes.proofs.Laws.{bytes-two}
use Rattle.cut_bytes.proofs.put_u16.Goals as goal

pub returns : goal.returns
returns c = rw c.to_le_bytes.ensures at c.put.ensures ∙ ap (stored c.args.bytes.now c.args.at) (sym (bytes-two c.args.x))
