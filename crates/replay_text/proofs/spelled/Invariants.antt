-- The loop's invariant: the digits read and the remaining ones give the number of the word. Assumes nothing.
use Rattle.std.proofs.Common.{◌≡◌, drop}
use Rattle.replay_text.specs.Numbers.{spelled}
use Rattle.replay_text.proofs.Reading.{continued}
use Rattle.replay_text.proofs.spelled.Given as goal

abbrev pub invariant-loop-byte : goal.invariant-loop-byte
invariant-loop-byte l = spelled l.base l.negative l.digits ≡ continued l.base l.negative l.size (drop l.byte-index l.digits)
