-- A reader of a header's bits: what a reading answers, and where it leaves the reader (Specification 3.3, 5.3).
use Rattle.std.specs.Prelude.{ℕ, List, ◌≡◌, Result, Ok, Err, OnErr}
use Rattle.refusals.specs.Refusals.{refusal_number}
use Rattle.refusals.specs.declared.Refusal.{Refusal}
use Rattle.header_bits.specs.Outcome.{Outcome, accepted, refused}
use Rattle.header_bits.specs.declared.BitReader.{BitReader}
use Rattle.header_bits.specs.declared.Width.{Width}
use Rattle.header_bits.specs.declared.Width.TheVariants.{U1, U2, U16, U32}

-- the bits of a field
abbrev pub width_of : Width → ℕ
width_of U1 = 1
width_of U2 = 2
width_of U16 = 16
width_of U32 = 32

-- the outcome of a reading that ends at a bit position (Specification 1.5)
abbrev pub outcome : {A : Type 0} → Result A Refusal → ℕ → Outcome A
outcome (Ok a) next = accepted a next
outcome (Err e) next = refused (refusal_number e)

-- the outcome of a reading that answers the next bit position beside its value
abbrev pub parsed : {A : Type 0} → Result (A × ℕ) Refusal → Outcome A
parsed (Ok a) = accepted a.0 a.1
parsed (Err e) = refused (refusal_number e)

-- a reader reads what `f` gives from its bytes and position: it moves to the next bit, or, where it is refused, stays
pub record Reads {A : Type 0} (old : BitReader) (f : List ℕ → ℕ → Outcome A) (result : Result A Refusal) (new : BitReader) : Type 0 where
  pub reading : outcome result new.at ≡ f old.bytes.now old.at
  pub same_bytes : new.bytes ≡ old.bytes
  pub stays : OnErr result (new.at ≡ old.at)
