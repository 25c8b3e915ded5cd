-- `export_cut::restoration_read_cut` meets its contract. Assumes nothing.
use Rattle.cut_read.proofs.Numbers.{read_answer}
use Rattle.export_cut.proofs.restoration_read_cut.Goals as goal

pub returns : goal.returns
returns c =
    let a = c.args in
    rw c.from.ensures (read_answer a.file.now a.k a.samples.now c.read_cut.result c.read_cut.new.samples c.read_cut.ensures.answer c.read_cut.ensures.stored)
