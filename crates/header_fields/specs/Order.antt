-- The first refusals of a header (Specification 5.3): 7 for its length, then the first refusal in bit order.
use Rattle.std.specs.Prelude.{ℕ, ◌+◌, ◌*◌, ◌<◌, ◌≤◌, true, List, ◌≡◌, length}
use Rattle.refusals.specs.Numbers.{bits_run_out, wrong_length}
use Rattle.header_bits.specs.Outcome.{refused}
use Rattle.header_fields.specs.Fields.{Fields, bits, read}

-- a slice of more than 65,536 bytes is refused with 7, whatever its contents and the bit position
abbrev pub TooLong : Type 1
TooLong = (A : Type 0) (n d : ℕ) (rows : ℕ → Fields A) (s : List ℕ) (p : ℕ) → 65536 < length s → read (bits true n d rows) s p ≡ refused wrong_length

-- otherwise a first field that ends past the last bit is refused with 1
abbrev pub RunsOut : Type 1
RunsOut =
    (A : Type 0) (n d : ℕ) (rows : ℕ → Fields A) (s : List ℕ) (p : ℕ)
    → length s ≤ 65536 → length s * 8 < p + n → read (bits true n d rows) s p ≡ refused bits_run_out
