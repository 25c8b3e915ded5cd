-- Laws of numbers as bytes: what is written is read back, and stores of parts are a store of the whole.
use mathlib.Core.Path.{◌≡◌, refl, sym, ap, ◌∙◌, subst}
use mathlib.Core.List.{List, [], ◌∷◌, ◌++◌, append-nil, append_assoc}
use Prim.Native.Nat.{ℕ, zero, suc, ◌+◌, ◌*◌, ◌/◌, ◌%◌, ◌^◌, ◌≤◌, ◌<◌}
use native.Mathlib.Nat.{suc-add, add-suc, pow-zero, pow-suc}
use native.Mathlib.Omega.{arith}
use borrow.Author.Tests.{le-leb}
use lib.ListN.{length, get_or, set, take, drop, drop_of_length-le, get_or-append}
use lib.Seq.{sets, sets-eq, get_or-append-add, drop-drop}
use borrow.Rule.Slice.PartMut.{put_mid}
use Rattle.cut_bytes.specs.Bytes.{bytes_of, number_at, stored}

-- ---- bytes

pub length-bytes : (n x : ℕ) → length (bytes_of n x) ≡ n
unfolding bytes_of
length-bytes zero x = refl
length-bytes (suc n) x = ap suc (length-bytes n (x / 256))

pub two_bytes : (s : List ℕ) (at : ℕ) → number_at s at 2 ≡ get_or s at 0 + 256 * get_or s (at + 1) 0
unfolding number_at
two_bytes s at = omega arith

pub four_bytes : (s : List ℕ) (at : ℕ) → number_at s at 4 ≡ get_or s at 0 + 256 * get_or s (at + 1) 0 + 65536 * get_or s (at + 2) 0 + 16777216 * get_or s (at + 3) 0
unfolding number_at
four_bytes s at =
    let e : at + 1 + 1 ≡ at + 2 = omega arith in
    let f : at + 2 + 1 ≡ at + 3 = omega arith in
    rw (e, f) (omega arith)

pub bytes-two : (x : ℕ) → bytes_of 2 x ≡ x % 256 ∷ x / 256 % 256 ∷ []
unfolding bytes_of
bytes-two x = refl

pub bytes-four : (x : ℕ) → bytes_of 4 x ≡ x % 256 ∷ x / 256 % 256 ∷ x / 65536 % 256 ∷ x / 16777216 % 256 ∷ []
unfolding bytes_of
bytes-four x =
    let e : x / 256 / 256 ≡ x / 65536 = omega arith in
    let f : x / 65536 / 256 ≡ x / 16777216 = omega arith in
    rw (e, f)

-- ---- stores

pub stored-inside : (s : List ℕ) (at : ℕ) (xs : List ℕ) → at + length xs ≤ length s → stored s at xs ≡ sets s at xs
stored-inside s at xs h = rw (le-leb (at + length xs) (length s) h)

-- the same for n bytes of a number
pub bytes_inside : (s : List ℕ) (at n x : ℕ) → at + n ≤ length s → stored s at (bytes_of n x) ≡ sets s at (bytes_of n x)
bytes_inside s at n x h = stored-inside s at (bytes_of n x) (omega (arith, length-bytes n x))

pub sets-sets : (l : List ℕ) (i : ℕ) (xs ys : List ℕ) → sets (sets l i xs) (i + length xs) ys ≡ sets l i (xs ++ ys)
sets-sets l i [] ys = ap (λ (k : ℕ). sets l k ys) (omega arith)
sets-sets l i (x ∷ xs) ys = ap (λ (k : ℕ). sets (sets (set l i x) (suc i) xs) k ys) (add-suc i (length xs) ∙ sym (suc-add i (length xs))) ∙ sets-sets (set l i x) (suc i) xs ys

-- the same, where the place of the second part is known by an equation
pub sets_then : (l : List ℕ) (i : ℕ) (xs ys : List ℕ) (k : ℕ) → i + length xs ≡ k → sets (sets l i xs) k ys ≡ sets l i (xs ++ ys)
sets_then l i xs ys k e = subst (λ (j : ℕ). sets (sets l i xs) j ys ≡ sets l i (xs ++ ys)) e (sets-sets l i xs ys)

-- a list that is overwritten whole
pub sets-whole : (l xs : List ℕ) → length xs ≡ length l → sets l 0 xs ≡ xs
sets-whole l xs e =
    sets-eq xs l 0 (omega arith)
    ∙ ap (λ (r : List ℕ). xs ++ r) (drop_of_length-le l {i = 0 + length xs} (omega arith))
    ∙ append-nil xs

-- ---- what is written is read

pub number-after : (xs ys : List ℕ) (i n : ℕ) → number_at (xs ++ ys) (length xs + i) n ≡ number_at ys i n
unfolding number_at
number-after xs ys i zero = refl
number-after xs ys i (suc n) =
    let e : length xs + i + 1 ≡ length xs + (i + 1) = omega arith in
    rw (e, get_or-append-add xs ys i 0, number-after xs ys (i + 1) n)

pub number-before : (xs ys : List ℕ) (i n : ℕ) → i + n ≤ length xs → number_at (xs ++ ys) i n ≡ number_at xs i n
unfolding number_at
number-before xs ys i zero l = refl
number-before xs ys i (suc n) l = rw (get_or-append xs ys 0 i (omega arith), number-before xs ys (i + 1) n (omega arith))

number-first : (n v : ℕ) (ys : List ℕ) → v < 256 ^ n → number_at (bytes_of n v ++ ys) 0 n ≡ v
unfolding number_at bytes_of
number-first zero v ys l = omega (arith, rw pow-zero at l)
number-first (suc n) v ys l =
    let h : v / 256 < 256 ^ n = omega (arith, rw pow-suc at l) in
    let e : number_at (v % 256 ∷ (bytes_of n (v / 256) ++ ys)) (0 + 1) n ≡ v / 256 =
    number-after (v % 256 ∷ []) (bytes_of n (v / 256) ++ ys) 0 n ∙ number-first n (v / 256) ys h in
    rw e (omega arith)

pub number-bytes : (xs : List ℕ) (n v : ℕ) (ys : List ℕ) → v < 256 ^ n → number_at (xs ++ (bytes_of n v ++ ys)) (length xs) n ≡ v
number-bytes xs n v ys l =
    let e : length xs ≡ length xs + 0 = omega arith in
    ap (λ (k : ℕ). number_at (xs ++ (bytes_of n v ++ ys)) k n) e ∙ number-after xs (bytes_of n v ++ ys) 0 n ∙ number-first n v ys l

-- a number in n bytes is below 256 ^ n
pub number_small : (s : List ℕ) → ((i : ℕ) → get_or s i 0 < 256) → (at n : ℕ) → number_at s at n < 256 ^ n
unfolding number_at
number_small s b at zero = omega (arith, pow-zero 256)
number_small s b at (suc n) = omega (arith, pow-suc 256 n, b at, number_small s b (at + 1) n)

-- a part of a list that is written over
pub part-stored : (s : List ℕ) (at k : ℕ) (xs : List ℕ) → k ≡ length xs → at + length xs ≤ length s → put_mid at k s xs ≡ stored s at xs
part-stored s at k xs e h =
    sym (stored-inside s at xs h ∙ sets-eq xs s at h ∙ append_assoc (take at s) xs (drop (at + length xs) s) ∙ rw (e, drop-drop (length xs) at s))
