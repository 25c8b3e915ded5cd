-- One reading after another. Assumes nothing.
use Prim.Native.Nat.{ℕ}
use mathlib.Core.Bool.{Bool}
use mathlib.Core.List.{List}
use mathlib.Core.Path.{◌≡◌, refl, ◌∙◌}
use borrow.Author.Tests.{ne_eqb}
use Rattle.std.specs.Prelude.{Result, Ok, Err}
use Rattle.refusals.specs.declared.Refusal.{Refusal}
use Rattle.refusals.specs.Refusals.{refusal_number as number, IsOutcome}
use Rattle.refusals.proofs.Outcomes.{number-nonzero}
use Rattle.header_bits.specs.Outcome.{Outcome, accepted, refused, checked, and_then}
use Rattle.header_bits.specs.Bits.{u, yes, flag}
use Rattle.header_bits.specs.Reader.{outcome, Reads}
use Rattle.header_bits.specs.declared.BitReader.{BitReader}

-- a reading from where the one before it ends reads the same bytes
pub follow : {A B : Type 0} {r s t : BitReader} {f : List ℕ → ℕ → Outcome A} {g : List ℕ → ℕ → Outcome B} {a : A} {o : Result B Refusal}
    → Reads r f (Ok a) s → Reads s g o t → Reads (record { bytes = r.bytes; at = s.at }) g o t
follow h k = record { reading = rw (← h.same_bytes) k.reading; same_bytes = k.same_bytes ∙ h.same_bytes; stays = k.stays }

-- a check of a value that is read
pub checked_is : {A : Type 0} (o : Result A Refusal) (n : ℕ) (a : A) (next : ℕ) → IsOutcome o n a → outcome o next ≡ checked n a next
checked_is (Ok v) n a next h = rw (← h.0, h.1)
checked_is (Err e) n a next h = rw (← h.0, ne_eqb (number e) 0 (number-nonzero e))

-- a Bool() field, read as a bit or as a flag
pub flag_bit : {B : Type 0} (s : List ℕ) (p : ℕ) (k : Bool → ℕ → Outcome B) → and_then (u 1 s p) (λ v. k (yes v)) ≡ and_then (flag s p) k
unfolding flag
flag_bit s p k = by (u 1 s p)
  where
    by : (o : Outcome ℕ) → and_then o (λ v. k (yes v)) ≡ and_then (and_then o (λ v q. accepted (yes v) q)) k
    by (accepted v q) = refl
    by (refused n) = refl
