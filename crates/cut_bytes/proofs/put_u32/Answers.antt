-- `cut_bytes::put_u32` meets its contract. Assumes nothing.
use Rattle.std.proofs.Common.{sym, ap, ◌∙◌}
use Rattle.cut_bytes.specs.Bytes.{stored}
use Rattle.cut_bytes.proofs.Laws.{bytes-four}
use Rattle.cut_bytes.proofs.put_u32.Goals as goal

pub returns : goal.returns
returns c = c.put.ensures ∙ ap (stored c.args.bytes.now c.args.at) (c.to_le_bytes.ensures ∙ sym (bytes-four c.args.x))
