-- The first refusals of a table whose first field is always present. Assumes nothing.
use mathlib.Core.Path.{sym}
use Rattle.header_bits.proofs.Checked.{u_long, u_short}
use Rattle.header_fields.specs.Fields.{read}
use Rattle.header_fields.specs.Order.{TooLong, RunsOut}

pub too_long : TooLong
unfolding read
too_long A n d rows s p h = rw (sym (u_long s p n h))

pub runs-out : RunsOut
unfolding read
runs-out A n d rows s p h k = rw (sym (u_short s p n h k))
