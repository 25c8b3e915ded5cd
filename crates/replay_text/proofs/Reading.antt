-- Reading a number digit by digit: the number from the digits read and the rest of the word. Assumes nothing.
use mathlib.Core.Path.{◌≡◌, refl}
use mathlib.Core.Bool.{Bool, true, false, cond}
use mathlib.Core.List.{List, [], ◌∷◌}
use Prim.Native.Nat.{ℕ, ◌+◌, ◌*◌, ◌<◌, ◌≤◌}
use native.Mathlib.Nat.{mul-le-mul_left, le_trans}
use native.Mathlib.Numerals.{add-one}
use native.Mathlib.Omega.{arith}
use borrow.Author.Tests.{lt-ltb, le-ltb, lt-leb}
use lib.ListN.{length, get_or, drop}
use lib.Seq.{drop-cons}
use Rattle.std.proofs.Common.{drop_of_length-le}
use Rattle.std.specs.Prelude.{Option, None, ℤ}
use Rattle.replay_text.specs.Numbers.{digit_of, all_digits, appended, value_of, spelled}

-- the number when n has been read and xs are the remaining bytes
unfoldable pub continued : ℕ → Bool → ℕ → List ℕ → Option ℤ
continued base negative n xs = cond (all_digits base xs) (value_of negative (appended base n xs)) None

cond_same : (x : Bool) {a : Option ℤ} → cond x a a ≡ a
cond_same true = refl
cond_same false = refl

at_least : (base n : ℕ) (xs : List ℕ) → 8 ≤ base → n ≤ appended base n xs
unfolding appended
at_least base n [] h = omega arith
at_least base n (x ∷ rest) h =
    let k : n * 1 ≤ n * base = mul-le-mul_left n (omega arith) in
    le_trans (omega arith) (at_least base (n * base + digit_of x) rest h)

module _ (base : ℕ) (negative : Bool) where
  pub none : (xs : List ℕ) → length xs ≤ 0 → spelled base negative xs ≡ None
  unfolding spelled
  none [] h = refl
  none (x ∷ rest) h = absurd (omega arith)

  pub first : (xs : List ℕ) → 0 < length xs → spelled base negative xs ≡ continued base negative 0 xs
  unfolding spelled continued
  first [] h = absurd (omega arith)
  first (x ∷ rest) h = refl

  pub last : (word : List ℕ) (i n : ℕ) → length word ≤ i → continued base negative n (drop i word) ≡ value_of negative n
  unfolding continued all_digits appended
  last word i n h = rw (drop_of_length-le word h)

  module _ (word : List ℕ) (i n : ℕ) (h : i < length word) where
    next : drop i word ≡ get_or word i 0 ∷ drop (i + 1) word
    next = rw (add-one, drop-cons word i 0)

    pub turn : digit_of (get_or word i 0) < base
        → continued base negative n (drop i word) ≡ continued base negative (n * base + digit_of (get_or word i 0)) (drop (i + 1) word)
    unfolding continued all_digits appended
    turn l = rw (next, lt-ltb _ _ l)

    pub no_digit : base ≤ digit_of (get_or word i 0) → continued base negative n (drop i word) ≡ None
    unfolding continued all_digits
    no_digit l = rw (next, le-ltb _ _ l)

    grown : 8 ≤ base → n * base + digit_of (get_or word i 0) ≤ appended base n (drop i word)
    unfolding appended
    grown l = rw next (at_least base (n * base + digit_of (get_or word i 0)) (drop (i + 1) word) l)

    pub too_large : 8 ≤ base → 0x7fff_ffff_ffff_ffff < n * base + digit_of (get_or word i 0) → continued base negative n (drop i word) ≡ None
    unfolding continued
    too_large l k = rw (lt-leb (appended base n (drop i word)) 0x7fff_ffff_ffff_ffff (omega (arith, grown l))) (cond_same (all_digits base (drop i word)))
