-- `mirror::reflected` meets its contract: inside the row by the identity, outside by the ascending and descending laps. Assumes nothing.
use mathlib.Core.Path.{◌≡◌, refl, sym}
use mathlib.Core.Bool.{false≢true}
use native.Mathlib.Omega.{arith}
use lib.IntN.{pos}
use Rattle.mirror.proofs.Laws.{mirror-in, mirror-none, mirror-even, mirror-odd}
use Rattle.mirror.proofs.reflected.Goals as goal

pub returns-then-index-n : goal.returns-then-index-n
returns-then-index-n c = sym (mirror-in c.args.n c.args.index (omega arith))

pub returns-then-n-eq0 : goal.returns-then-n-eq0
returns-then-n-eq0 c = sym (rw e (mirror-none (pos c.args.index)))
  where
    e : c.args.n ≡ 0
    e = omega arith

pub returns-then-is_multiple_of : goal.returns-then-is_multiple_of
returns-then-is_multiple_of c = sym (mirror-even c.args.n c.args.index (omega arith) (c.if-is_multiple_of.ensures.0 refl))

pub returns-else-is_multiple_of : goal.returns-else-is_multiple_of
returns-else-is_multiple_of c = sym (mirror-odd c.args.n c.args.index (omega arith) (λ e. false≢true (c.if-is_multiple_of.ensures.1 e)))
