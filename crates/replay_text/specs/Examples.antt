-- Words and their numbers, computed.
use Rattle.std.specs.Prelude.{◌≡◌, refl, Some, None, [], ◌∷◌, pos, negsuc}
use Rattle.replay_text.specs.Numbers.{digit_of, all_digits, appended, spelled, number_of}

-- 0
zero_is : number_of (48 ∷ []) ≡ Some (pos 0)
unfolding digit_of all_digits appended spelled number_of
zero_is = refl

-- -16
minus-sixteen : number_of (45 ∷ 49 ∷ 54 ∷ []) ≡ Some (negsuc 15)
unfolding digit_of all_digits appended spelled number_of
minus-sixteen = refl

-- x3f800000, the bits of 1.0
one-bits : number_of (120 ∷ 51 ∷ 102 ∷ 56 ∷ 48 ∷ 48 ∷ 48 ∷ 48 ∷ 48 ∷ []) ≡ Some (pos 0x3f80_0000)
unfolding digit_of all_digits appended spelled number_of
one-bits = refl

-- not numbers: an empty word, a sign alone, 1a, and x1
nothing : number_of [] ≡ None
unfolding number_of
nothing = refl

sign-alone : number_of (45 ∷ []) ≡ None
unfolding spelled number_of
sign-alone = refl

no-decimal : number_of (49 ∷ 97 ∷ []) ≡ None
unfolding digit_of all_digits spelled number_of
no-decimal = refl

few_bits : number_of (120 ∷ 49 ∷ []) ≡ None
unfolding number_of
few_bits = refl
