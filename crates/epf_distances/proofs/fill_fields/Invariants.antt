-- `epf_distances::fill_fields` meets its contract. The invariant: h fields are written. Assumes nothing.
use mathlib.Core.Path.{◌≡◌}
use mathlib.Core.Bool.{cond}
use Prim.Native.Nat.{◌≤◌}
use lib.Dec.{ltb}
use Rattle.epf_step.specs.Steps.{scaled}
use Rattle.epf_distances.specs.Fields.{fields_fill, differences_fill}
use Rattle.epf_distances.proofs.fill_fields.Given as goal

abbrev pub invariant-loop-h : goal.invariant-loop-h
invariant-loop-h g l = (l.h ≤ l.count) × (l.fields ≡ fields_fill g.row.STEP (scaled g.row.N l.scales) l.src l.v l.rows l.cols l.initial.fields l.h) × (l.d ≡ cond (ltb g.row.STEP 2) (differences_fill g.row.STEP g.row.N l.src l.v l.rows l.cols l.initial.d l.h) l.initial.d)
