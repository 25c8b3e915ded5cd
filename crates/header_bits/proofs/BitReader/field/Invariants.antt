-- `header_bits::BitReader::field` meets its contract. The loop's invariant: `value` is the field made of the bits from `i` on. Assumes nothing.
use Rattle.std.proofs.Common.{◌≡◌, ◌+◌, ◌-◌}
use Rattle.header_bits.specs.Bits.{field}
use Rattle.header_bits.proofs.BitReader.field.Given as goal

abbrev pub invariant-loop-i : goal.invariant-loop-i
invariant-loop-i l = l.value ≡ field l.self.bytes.now (l.self.at + l.i) (l.width - l.i)
