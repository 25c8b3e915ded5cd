-- Division of an integer by a natural number, rounded down and rounded up, and the minimum and maximum of two integers, for Specification 6.1–6.3.
use Rattle.std.specs.Prelude.{cond, ℕ, ◌/◌, ℤ, pos, negsuc, neg_ℤ}
use Rattle.std.specs.Int.Signed.{le_z}

-- z / m rounded toward minus infinity
abbrev pub floor_div : ℤ → ℕ → ℤ
floor_div (pos a) m = pos (a / m)
floor_div (negsuc a) m = negsuc (a / m)

-- z / m rounded toward plus infinity
abbrev pub ceil_div : ℤ → ℕ → ℤ
ceil_div z m = neg_ℤ (floor_div (neg_ℤ z) m)

abbrev pub least : ℤ → ℤ → ℤ
least a b = cond (le_z a b) a b

abbrev pub greatest : ℤ → ℤ → ℤ
greatest a b = cond (le_z a b) b a
