-- Flags: a yes or no argument is a number, so that every bit pattern has a meaning (Specification 2.6). Definitions only.
use Rattle.std.specs.Prelude.{Bool, ℕ, eqb, leb}

-- 0 or 1; any other value is refused with 9
abbrev pub flag_fits : ℕ → Bool
flag_fits k = leb k 1

-- 1 is yes
abbrev pub flag_set : ℕ → Bool
flag_set k = eqb k 1
