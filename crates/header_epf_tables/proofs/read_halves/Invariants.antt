-- `header_epf_tables::read_halves` meets its contract. The loop's invariant: the first `value-index` values are the first `value-index` halves. Assumes nothing.
use mathlib.Core.Path.{◌≡◌}
use lib.ListN.{length, take}
use Rattle.header_bits.specs.Outcome.{accepted}
use Rattle.header_fields.specs.Fields.{f16s}
use Rattle.header_epf_tables.proofs.read_halves.Given as goal

abbrev pub invariant-loop-value : goal.invariant-loop-value
invariant-loop-value g l = (length l.value-items ≡ g.row.N) × (l.ahead.bytes ≡ l.reader.bytes) × (f16s l.value-index l.reader.bytes.now l.reader.at ≡ accepted (take l.value-index l.value-items) l.ahead.at)
