use mathlib.Core.Path.{refl, ◌∙◌}
use mathlib.Core.List.{[]}
use native.Mathlib.Omega.{arith}
use lib.ListN.{length-replicate, length-set}
use Rattle.header_epf_tables.proofs.Halves.{halves_none, halves_more}
use Rattle.header_epf_tables.proofs.read_halves.Goals as goal

pub loop-value-init : goal.loop-value-init
loop-value-init g c = (length-replicate g.row.N _, refl, halves_none _ _ [])

pub loop-value-preserved : goal.loop-value-preserved
loop-value-preserved g c = (
  simp length-set c.loop-value.invariant.0,
  c.in_ok-value.ensures.same_bytes ∙ c.loop-value.invariant.1,
  halves_more _ _ c.loop-value.value-items _ _ _ _ (omega arith) c.loop-value.invariant.2 (rw c.loop-value.invariant.1 at c.in_ok-value.ensures.reading),
)
