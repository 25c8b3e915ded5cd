-- The number that a call returns: that of the first check that applies in an ordered table.
-- Numbers ascend in each table but those of cut files (Specification 16.5, 16.7). A check is passed over where its condition needs a value that is itself out of range (Specification 3.2).
use Rattle.std.specs.Prelude.{Bool, true, cond, ◌&&◌, List, [], ◌∷◌, ℕ}

-- a row of a table: its number, whether the values that its condition needs are in range, and the condition
pub record Check : Type 0 where
  pub number : ℕ
  pub needs : Bool
  pub fault : Bool

-- a check that needs no other value
abbrev pub always : ℕ → Bool → Check
always n f = record { number = n; needs = true; fault = f }

-- a check that is passed over unless the values that it needs are in range
abbrev pub given : Bool → ℕ → Bool → Check
given s n f = record { number = n; needs = s; fault = f }

-- a check applies if the values that it needs are in range and its condition holds
abbrev pub applies : Check → Bool
applies c = c.needs && c.fault

-- the number of the first check that applies, 0 if none does
abbrev pub first_of : List Check → ℕ
first_of [] = 0
first_of (c ∷ cs) = cond (applies c) c.number (first_of cs)
