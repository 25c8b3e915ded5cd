-- Reading a half-precision number (Specification 5.2, 5.3).
use Rattle.std.specs.Prelude.{ℕ, List, [], ◌∷◌, eqb, Float}
use Rattle.refusals.specs.Numbers.{half_not_finite}
use Rattle.refusals.specs.Checks.{Check, always, first_of}
use Rattle.refusals.specs.Refusals.{refusal_number}
use Rattle.header_bits.specs.Outcome.{Outcome, accepted, refused, checked, and_then}
use Rattle.header_bits.specs.Bits.{u}
use Rattle.header_half.specs.declared.Half.{Half}
use Rattle.header_half.specs.declared.Half.TheVariants.{Value, Refused}
use Rattle.header_half.specs.Value.{exponent_of, half_of}

-- exponent field 31: an infinity or a NaN
abbrev pub half_checks : ℕ → List Check
half_checks h = always half_not_finite (eqb (exponent_of h) 31) ∷ []

-- 16 bits as a half-precision number, refused if it is not finite
abbrev pub finite : ℕ → ℕ → Outcome Float
finite h next = checked (first_of (half_checks h)) (half_of h) next

-- F16() of ISO/IEC 18181-1, read from bit p
unfoldable pub f16 : List ℕ → ℕ → Outcome Float
f16 s p = and_then (u 16 s p) finite

-- number, value and next bit position of each case of a reading
abbrev pub half_outcome : Half → Outcome Float
half_outcome (Value v next) = accepted v next
half_outcome (Refused e) = refused (refusal_number e)
