-- Laws of the mirror: inside, at both edges, its range and its period. Assumes nothing.
use mathlib.Core.Path.{◌≡◌, refl, sym, ap, ◌∙◌}
use Prim.Native.Nat.{ℕ, zero, suc, ◌+◌, ◌-◌, ◌*◌, ◌/◌, ◌%◌, ◌<◌, ◌≤◌}
use native.Mathlib.Nat.{mod-lt, mod-eq_of_lt, add-mod_right, mod-eq-sub-mod, add-mul-mod_self_right, div-add-mod', suc-mul, mul_assoc}
use native.Mathlib.Decide.{dec_lt, dec_le}
use native.Mathlib.Omega.{arith}
use borrow.Author.Tests.{lt-ltb, le-ltb}
use lib.IntN.{ℤ, pos, negsuc, neg_ℤ, ◌+ℤ◌, ◌-ℤ◌, ◌*ℤ◌, sub_ℕ, +ℤ_comm, +ℤ_assoc, neg_ℤ-+ℤ}
use lib.Signed.{mag}
use Rattle.mirror.specs.Mirror.{folded, mirror, modℤ}

-- ---- modulo

-- the result is below the modulus
pub modℤ-lt : (z : ℤ) (m : ℕ) → 0 < m → modℤ z m < m
unfolding modℤ
modℤ-lt (pos k) m p = mod-lt k p
modℤ-lt (negsuc k) m p = omega (arith, mod-lt k p)

-- a number and its modulo differ by a multiple of the modulus
pub modℤ-is : (z : ℤ) (m : ℕ) → 0 < m → (q : ℤ) × (z ≡ q *ℤ pos m +ℤ pos (modℤ z m))
unfolding modℤ
modℤ-is (pos k) m p = (pos (k / m), ap pos (sym (div-add-mod' k m)))
modℤ-is (negsuc k) m p = (negsuc (k / m), rw whole (sym (below ∙ ap negsuc (omega (arith, mod-lt k p, div-add-mod' k m)))))
  where
    whole : suc (k / m) * m ≡ suc (k / m * m + (m - 1))
    whole = omega (arith, suc-mul (k / m) m)

    below : negsuc (k / m * m + (m - 1)) +ℤ pos (m - 1 - k % m) ≡ negsuc (k / m * m + (m - 1) - (m - 1 - k % m))
    below = rw (lt-ltb (m - 1 - k % m) (suc (k / m * m + (m - 1))) (omega arith)) (ap negsuc (omega arith))

-- adding the modulus changes nothing
modℤ-more : (z : ℤ) (m : ℕ) → modℤ (z +ℤ pos m) m ≡ modℤ z m
unfolding modℤ
modℤ-more (pos k) m = add-mod_right k m
modℤ-more (negsuc k) m = go (dec_le (suc k) m)
  where
    go : Dec (suc k ≤ m) → modℤ (negsuc k +ℤ pos m) m ≡ modℤ (negsuc k) m
    go (yes h) =
        let e : (m - suc k) % m ≡ m - suc k = mod-eq_of_lt (omega arith) in
        let f : k % m ≡ k = mod-eq_of_lt (omega arith) in
        rw (le-ltb m (suc k) h, e, f) (omega arith)
    go (no h) =
        let e : suc k - suc m ≡ k - m = omega arith in
        let f : k % m ≡ (k - m) % m = mod-eq-sub-mod (omega arith) in
        rw (lt-ltb m (suc k) (omega arith), e, f)

-- ---- folding

pub folded_low : (n m : ℕ) → m < n → folded n m ≡ m
unfolding folded
folded_low n m h = rw (lt-ltb m n h)

pub folded-high : (n m : ℕ) → n ≤ m → folded n m ≡ 2 * n - 1 - m
unfolding folded
folded-high n m h = rw (le-ltb m n h)

folded-lt : (n m : ℕ) → 0 < n → m < 2 * n → folded n m < n
folded-lt n m p h = go (dec_lt m n)
  where
    go : Dec (m < n) → folded n m < n
    go (yes l) = omega (arith, folded_low n m l)
    go (no l) = let g : n ≤ m = omega arith in omega (arith, folded-high n m g)

-- folding is symmetric about the middle of 0 to 2n - 1
folded_turned : (n m : ℕ) → m < 2 * n → folded n (2 * n - 1 - m) ≡ folded n m
folded_turned n m h = go (dec_lt m n)
  where
    go : Dec (m < n) → folded n (2 * n - 1 - m) ≡ folded n m
    go (yes l) = omega (arith, folded-high n (2 * n - 1 - m) (omega arith), folded_low n m l)
    go (no l) = let g : n ≤ m = omega arith in omega (arith, folded_low n (2 * n - 1 - m) (omega arith), folded-high n m g)

-- ---- laws of the mirror

-- Range: each mirrored index is below n.
pub mirror-lt : (z : ℤ) (n : ℕ) → 0 < n → mirror z n < n
unfolding mirror
mirror-lt z n p = folded-lt n (modℤ z (2 * n)) p (modℤ-lt z (2 * n) (omega arith))

-- Identity: an index inside the row is its own mirrored index.
pub mirror-in : (n k : ℕ) → k < n → mirror (pos k) n ≡ k
unfolding mirror
mirror-in n k h =
    let e : k % (2 * n) ≡ k = mod-eq_of_lt (omega arith) in
    rw e (folded_low n k h)

-- One reflection at the low edge: -1 - k is mirrored to k.
pub mirror-under : (n k : ℕ) → k < n → mirror (negsuc k) n ≡ k
unfolding mirror
mirror-under n k h =
    let e : k % (2 * n) ≡ k = mod-eq_of_lt (omega arith) in
    rw e (omega (arith, folded-high n (2 * n - 1 - k) (omega arith)))

-- One reflection at the high edge: k from n to 2n - 1 is mirrored to 2n - 1 - k.
pub mirror-over : (n k : ℕ) → n ≤ k → k < 2 * n → mirror (pos k) n ≡ 2 * n - 1 - k
unfolding mirror
mirror-over n k h l =
    let e : k % (2 * n) ≡ k = mod-eq_of_lt l in
    rw e (folded-high n k h)

-- Among 0 samples every mirrored index is 0.
pub mirror-none : (z : ℤ) → mirror z 0 ≡ 0
unfolding mirror
mirror-none z = omega (arith, folded-high 0 (modℤ z (2 * 0)) (omega arith))

-- Periodic: adding 2n changes nothing.
pub mirror-periodic : (z : ℤ) (n : ℕ) → mirror (z +ℤ pos (2 * n)) n ≡ mirror z n
unfolding mirror
mirror-periodic z n = ap (folded n) (modℤ-more z (2 * n))

-- -1 - k and k have the same mirrored index, for k not negative
pub mirror-neg : (n k : ℕ) → mirror (negsuc k) n ≡ mirror (pos k) n
mirror-neg zero k = mirror-none (negsuc k) ∙ sym (mirror-none (pos k))
mirror-neg (suc n) k = unfold mirror modℤ in folded_turned (suc n) (k % (2 * suc n)) (mod-lt k (omega arith))

-- Symmetric at the low edge: -1 - z and z have the same mirrored index.
pub mirror-low : (z : ℤ) (n : ℕ) → mirror (negsuc 0 -ℤ z) n ≡ mirror z n
mirror-low (pos zero) n = mirror-neg n 0
mirror-low (pos (suc k)) n = let e : suc (0 + k) ≡ suc k = omega arith in rw e (mirror-neg n (suc k))
mirror-low (negsuc k) n =
    let e : suc k - 1 ≡ k = omega arith in
    rw (le-ltb (suc k) 1 (omega arith), e) (sym (mirror-neg n k))

-- -n + 2n is n
half-turn : (n : ℕ) → neg_ℤ (pos n) +ℤ pos (2 * n) ≡ pos n
half-turn zero = refl
half-turn (suc n) = rw (le-ltb (2 * suc n) (suc n) (omega arith)) (ap pos (omega arith))

-- -1 - (n + z) + 2n is n - 1 - z
turned : (z : ℤ) (n : ℕ) → negsuc 0 -ℤ (pos n +ℤ z) +ℤ pos (2 * n) ≡ pos n -ℤ pos 1 -ℤ z
turned z n =
    let b = neg_ℤ (pos n) in
    let c = neg_ℤ z in
    let d = pos (2 * n) in
    ap (λ (t : ℤ). negsuc 0 +ℤ t +ℤ d) (neg_ℤ-+ℤ (pos n) z)
    ∙ ap (λ (t : ℤ). t +ℤ d) (sym (+ℤ_assoc (negsuc 0) b c))
    ∙ +ℤ_assoc (negsuc 0 +ℤ b) c d
    ∙ ap (λ (t : ℤ). negsuc 0 +ℤ b +ℤ t) (+ℤ_comm c d)
    ∙ sym (+ℤ_assoc (negsuc 0 +ℤ b) d c)
    ∙ ap (λ (t : ℤ). t +ℤ c) (+ℤ_assoc (negsuc 0) b d ∙ ap (λ (t : ℤ). negsuc 0 +ℤ t) (half-turn n) ∙ +ℤ_comm (negsuc 0) (pos n))

-- Symmetric at the high edge: n + z and n - 1 - z have the same mirrored index.
pub mirror-high : (z : ℤ) (n : ℕ) → mirror (pos n +ℤ z) n ≡ mirror (pos n -ℤ pos 1 -ℤ z) n
mirror-high z n =
    sym (mirror-low (pos n +ℤ z) n)
    ∙ sym (mirror-periodic (negsuc 0 -ℤ (pos n +ℤ z)) n)
    ∙ ap (λ (t : ℤ). mirror t n) (turned z n)

-- ---- as the code computes it

-- An offset z and `mag z` (z, or -1 - z if z is negative) have the same mirrored index.
pub mirror-mag : (z : ℤ) (n : ℕ) → mirror (pos (mag z)) n ≡ mirror z n
mirror-mag (pos k) n = refl
mirror-mag (negsuc k) n = sym (mirror-neg n k)

-- whole periods can be removed
periods : (n k h m : ℕ) → k ≡ m + h * (2 * n) → m < 2 * n → mirror (pos k) n ≡ folded n m
unfolding mirror modℤ
periods n k h m e l = rw (e, add-mul-mod_self_right m h (2 * n), mod-eq_of_lt l)

-- Laps of n indices ascend and descend alternately: in an even lap the mirrored index is k mod n,
pub mirror-even : (n k : ℕ) → 0 < n → k / n % 2 ≡ 0 → mirror (pos k) n ≡ k % n
mirror-even n k p e =
    let l : k % n < n = mod-lt k p in
    let r : k / n * n ≡ k / n / 2 * (2 * n) = even-lap in
    periods n k (k / n / 2) (k % n) (omega (arith, div-add-mod' k n)) (omega arith) ∙ folded_low n (k % n) l
  where
    even-lap : k / n * n ≡ k / n / 2 * (2 * n)
    even-lap =
        let h : k / n ≡ k / n / 2 * 2 = omega (arith, div-add-mod' (k / n) 2) in
        ap (λ (q : ℕ). q * n) h ∙ mul_assoc (k / n / 2) 2 n

-- and in an odd lap it is n - 1 - k mod n.
pub mirror-odd : (n k : ℕ) → 0 < n → (k / n % 2 ≡ 0 → ⊥) → mirror (pos k) n ≡ n - 1 - k % n
mirror-odd n k p e =
    let l : k % n < n = mod-lt k p in
    let r : k / n * n ≡ k / n / 2 * (2 * n) + n = odd-lap in
    periods n k (k / n / 2) (n + k % n) (omega (arith, div-add-mod' k n)) (omega arith)
    ∙ folded-high n (n + k % n) (omega arith)
    ∙ omega arith
  where
    odd-lap : k / n * n ≡ k / n / 2 * (2 * n) + n
    odd-lap =
        let h : k / n ≡ suc (k / n / 2 * 2) = omega (arith, div-add-mod' (k / n) 2, mod-lt (k / n) {m = 2} (omega arith)) in
        ap (λ (q : ℕ). q * n) h ∙ suc-mul (k / n / 2 * 2) n ∙ ap (λ (t : ℕ). t + n) (mul_assoc (k / n / 2) 2 n)

-- x - back if it is negative
pub mirror-back : (n x back : ℕ) → x < back → mirror (pos (back - x - 1)) n ≡ mirror (sub_ℕ x back) n
mirror-back n x back h =
    let e : back - suc x ≡ back - x - 1 = omega arith in
    rw (lt-ltb x back h, e) (sym (mirror-neg n (back - x - 1)))
