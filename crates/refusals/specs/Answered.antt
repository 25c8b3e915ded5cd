-- What a field of an answer on the C boundary holds: the value, or a zero in a refused call. Definitions only.
use Rattle.std.specs.Prelude.{Result, Ok, Err}
use Rattle.refusals.specs.declared.Refusal.{Refusal}

abbrev pub value_or : {A : Type 0} → A → Result A Refusal → A
value_or z (Ok a) = a
value_or z (Err e) = z
