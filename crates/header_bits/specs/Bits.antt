-- Bits of a header, and bit fields (Specification 5.1, 5.2).
use Rattle.std.specs.Prelude.{ℕ, zero, suc, ◌+◌, ◌*◌, ◌/◌, ◌%◌, ◌^◌, Bool, not, List, [], ◌∷◌, eqb, ltb, length, get_or}
use Rattle.refusals.specs.Numbers.{bits_run_out, wrong_length}
use Rattle.refusals.specs.Checks.{Check, always, first_of}
use Rattle.header_bits.specs.Outcome.{Outcome, accepted, checked, and_then}

-- bit p is bit p mod 8 of byte p / 8, counted from the least significant bit
abbrev pub bit : List ℕ → ℕ → ℕ
bit s p = get_or s (p / 8) 0 / 2 ^ (p % 8) % 2

-- a field of n bits: its first bit is the least significant
unfoldable pub field : List ℕ → ℕ → ℕ → ℕ
field s p zero = 0
field s p (suc n) = bit s p + 2 * field s (p + 1) n

-- more than 65,536 bytes, then a field that ends past the last bit
abbrev pub field_checks : List ℕ → ℕ → ℕ → List Check
field_checks s p n = always wrong_length (ltb 65536 (length s)) ∷ always bits_run_out (ltb (length s * 8) (p + n)) ∷ []

-- u(n) of ISO/IEC 18181-1, read from bit p
unfoldable pub u : ℕ → List ℕ → ℕ → Outcome ℕ
u n s p = checked (first_of (field_checks s p n)) (field s p n) (p + n)

-- a Bool() field
abbrev pub yes : ℕ → Bool
yes b = not (eqb b 0)

unfoldable pub flag : List ℕ → ℕ → Outcome Bool
flag s p = and_then (u 1 s p) (λ b q. accepted (yes b) q)
