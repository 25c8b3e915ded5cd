-- `replay_text::end_of` meets its contract. Assumes nothing.
use Rattle.std.proofs.Common.{◌≡◌, ◌+◌, arith}
use Rattle.replay_text.specs.Words.{end_of}
use Rattle.replay_text.proofs.Words.{end_at, end-within, end-past}
use Rattle.replay_text.proofs.end_of.Goals as goal

pub returns-then-text-at : goal.returns-then-text-at
returns-then-text-at c = end-past c.args.text.now c.args.at c.args.byte c.if-text-at.true

pub overflow_add-result : goal.overflow_add-result
overflow_add-result c =
    let e : c.args.at + c.first.result ≡ end_of c.args.text.now c.args.at c.args.byte = rw c.first.ensures (end_at c.args.text.now c.args.at c.args.byte c.if-text-at.false) in
    omega (arith, e, (end-within c.args.text.now c.args.at c.args.byte (omega arith)).1)

pub returns : goal.returns
returns c = rw c.first.ensures (end_at c.args.text.now c.args.at c.args.byte c.if-text-at.false)
