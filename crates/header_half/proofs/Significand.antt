-- A significand with zeros appended and the exponent lowered by as many is the same number, so binary16 and binary32 can encode the same value. Assumes nothing.
use Prim.Native.Nat.{ℕ, zero, suc, ◌+◌, ◌-◌, ◌*◌, ◌/◌, ◌%◌, ◌^◌, ◌<◌}
use mathlib.Core.Bool.{Bool, true, false}
use mathlib.Core.Path.{◌≡◌, refl, sym, ap, ◌∙◌}
use native.Mathlib.Nat.{mul_assoc, mul_comm, mul-one, mul-pos, mul-div-mul_right, zero-add, suc-add, pow-suc, not-suc-le-zero}
use native.Mathlib.Omega.{arith}
use borrow.Author.Tests.{le-leb, lt-leb, leb-true, leb-false}
use lib.Dec.{leb}
use lib.IntN.{pos, negsuc}
use lib.Count.{count_trailing_zeros, under}
use lib.Pow.{pow_pos, pow-add}
use lib.Ieee.{fin, odd, minus}

-- ---- trailing zeros
double-div : (n : ℕ) → n * 2 / 2 ≡ n
double-div n = omega arith

double-mod : (n : ℕ) → n * 2 % 2 ≡ 0
double-mod n = omega arith

zeros-double : (d n : ℕ) → count_trailing_zeros (suc d) (n * 2) ≡ suc (count_trailing_zeros d n)
unfolding count_trailing_zeros
zeros-double d n = rw (double-mod n, double-div n)

double-power : (q j : ℕ) → q * 2 ^ suc j ≡ q * 2 ^ j * 2
double-power q j = ap (λ (n : ℕ). q * n) (pow-suc 2 j) ∙ sym (mul_assoc q (2 ^ j) 2)

zeros-shift : (j d q : ℕ) → count_trailing_zeros (j + d) (q * 2 ^ j) ≡ j + count_trailing_zeros d q
zeros-shift zero d q = simp (zero-add, mul-one)
zeros-shift (suc j) d q =
    ap (λ (n : ℕ). count_trailing_zeros n (q * 2 ^ suc j)) (suc-add j d) ∙ ap (count_trailing_zeros (suc (j + d))) (double-power q j)
    ∙ zeros-double (j + d) (q * 2 ^ j) ∙ ap suc (zeros-shift j d q) ∙ sym (suc-add j (count_trailing_zeros d q))

under_same : (r a b : ℕ) → (r ≡ 0 → a ≡ b) → under r a ≡ under r b
under_same zero a b h = ap suc (h refl)
under_same (suc r) a b h = refl

-- a number has no more trailing zeros if more digits are examined
zeros-more : (d m t : ℕ) → 0 < t → t < 2 ^ d → count_trailing_zeros (d + m) t ≡ count_trailing_zeros d t
unfolding count_trailing_zeros
zeros-more zero m t p h = absurd (none t p h)
  where
    none : (t : ℕ) → 0 < t → t < 1 → ⊥
    none t p h = omega arith
zeros-more (suc d) m t p h =
    ap (λ (n : ℕ). count_trailing_zeros n t) (suc-add d m)
    ∙ under_same (t % 2) (count_trailing_zeros (d + m) (t / 2)) (count_trailing_zeros d (t / 2))
    (λ e. zeros-more d m (t / 2) (omega arith) (omega (arith, pow-suc 2 d)))

-- ---- the same number
minus-both : (a b n : ℕ) (x : Bool) → leb b a ≡ x → minus (a + n) (b + n) ≡ minus a b
minus-both a b n true e =
    let h : a + n - (b + n) ≡ a - b = omega arith in
    rw (le-leb (b + n) (a + n) (omega (arith, leb-true b a e)), e) (ap pos h)
minus-both a b n false e =
    let h : b + n - suc (a + n) ≡ b - suc a = omega arith in
    rw (lt-leb (b + n) (a + n) (omega (arith, leb-false b a e)), e) (ap negsuc h)

odd_is : (d : ℕ) (s : Bool) (q k l : ℕ) → 0 < q → odd d s q k l ≡ fin s (q / 2 ^ count_trailing_zeros d q) (minus (k + count_trailing_zeros d q) l)
unfolding odd
odd_is d s zero k l p = absurd (not-suc-le-zero p)
odd_is d s (suc q) k l p = refl

power-over : (q j t : ℕ) → q * 2 ^ j / 2 ^ (j + t) ≡ q / 2 ^ t
power-over q j t = ap (λ (n : ℕ). q * 2 ^ j / n) (pow-add 2 j t ∙ mul_comm (2 ^ j) (2 ^ t)) ∙ mul-div-mul_right q (2 ^ t) (pow_pos j)

pub odd_shift : (d j i : ℕ) (s : Bool) (q k l : ℕ) → 0 < q → odd (j + d) s (q * 2 ^ j) (k + i) (l + (i + j)) ≡ odd d s q k l
odd_shift d j i s q k l p =
    let t = count_trailing_zeros d q in
    let e : k + i + (j + t) ≡ k + t + (i + j) = omega arith in
    odd_is (j + d) s (q * 2 ^ j) (k + i) (l + (i + j)) (mul-pos p (pow_pos j))
    ∙ ap (λ (n : ℕ). fin s (q * 2 ^ j / 2 ^ n) (minus (k + i + n) (l + (i + j)))) (zeros-shift j d q)
    ∙ ap (λ (m : ℕ). fin s m (minus (k + i + (j + t)) (l + (i + j)))) (power-over q j t)
    ∙ ap (λ (n : ℕ). fin s (q / 2 ^ t) (minus n (l + (i + j)))) e
    ∙ ap (fin s (q / 2 ^ t)) (minus-both (k + t) l (i + j) (leb l (k + t)) refl)
    ∙ sym (odd_is d s q k l p)

-- a significand of d digits also fits d + m digits
pub odd-room : (d m : ℕ) (s : Bool) (q k l : ℕ) → 0 < q → q < 2 ^ d → odd (d + m) s q k l ≡ odd d s q k l
odd-room d m s q k l p h =
    odd_is (d + m) s q k l p
    ∙ ap (λ (z : ℕ). fin s (q / 2 ^ z) (minus (k + z) l)) (zeros-more d m q p h)
    ∙ sym (odd_is d s q k l p)
