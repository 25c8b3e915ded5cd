-- The number that a word denotes.
use Rattle.std.specs.Prelude.{ℕ, ◌+◌, ◌-◌, ◌*◌, Bool, true, false, cond, Option, Some, None, List, [], ◌∷◌, length, ℤ, pos, neg_ℤ, ltb, leb, eqb}

-- the value of an ASCII digit, 0 to 9 and a to f; 16 for any other byte
unfoldable pub digit_of : ℕ → ℕ
digit_of x =
    cond (ltb x 48) 16
    (cond (leb x 57) (x - 48)
    (cond (ltb x 97) 16
    (cond (leb x 102) (x - 87) 16)))

-- each byte is a digit of the base
unfoldable pub all_digits : ℕ → List ℕ → Bool
all_digits base [] = true
all_digits base (x ∷ rest) = cond (ltb (digit_of x) base) (all_digits base rest) false

-- n with more digits appended
unfoldable pub appended : ℕ → ℕ → List ℕ → ℕ
appended base n [] = n
appended base n (x ∷ rest) = appended base (n * base + digit_of x) rest

-- the number of this sign and size; none if the size is over 2^63 - 1
abbrev pub value_of : Bool → ℕ → Option ℤ
value_of negative n = cond (leb n 0x7fff_ffff_ffff_ffff) (Some (cond negative (neg_ℤ (pos n)) (pos n))) None

-- at least one digit, and nothing but digits
unfoldable pub spelled : ℕ → Bool → List ℕ → Option ℤ
spelled base negative [] = None
spelled base negative (x ∷ rest) = cond (all_digits base (x ∷ rest)) (value_of negative (appended base 0 (x ∷ rest))) None

-- a minus sign and decimal digits; x and eight hexadecimal digits, the bits of a float; or decimal digits
unfoldable pub number_of : List ℕ → Option ℤ
number_of [] = None
number_of (x ∷ rest) =
    cond (eqb x 45) (spelled 10 true rest)
    (cond (eqb x 120) (cond (eqb (length rest) 8) (spelled 16 false rest) None)
    (spelled 10 false (x ∷ rest)))
