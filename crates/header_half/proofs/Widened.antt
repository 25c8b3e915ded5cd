-- The value of a half equals that of the binary32 fields that `widen` computes, in its three cases. Assumes nothing.
use Prim.Native.Nat.{ℕ, zero, suc, ◌+◌, ◌-◌, ◌*◌, ◌/◌, ◌%◌, ◌^◌, ◌<◌, ◌≤◌}
use mathlib.Core.Bool.{Bool, true, false}
use mathlib.Core.Path.{◌≡◌, refl, sym, ap, ◌∙◌, subst}
use native.Mathlib.Nat.{mul_assoc, suc-add, mul-le-mul_right, mul-lt-mul_of_pos_right, not-suc-le-zero, mod-eq_of_lt, lt_of_mul-lt-mul_right, lt_of_not-le}
use native.Mathlib.Omega.{arith}
use borrow.Author.Tests.{le-leb, lt-leb, leb-true, leb-false}
use lib.Dec.{leb}
use lib.Count.{count_leading_zeros, leading_top}
use lib.Pow.{pow_pos, pow-add, pow_mono}
use lib.Ieee.{odd, of_fields, binary32}
use Rattle.header_half.specs.Value.{value_of, half_of}
use Rattle.header_half.proofs.Significand.{odd_shift, odd-room}
use Rattle.header_half.proofs.Fields.{normal-fields}

-- ---- the three cases, on the fields
normal : (s : Bool) (x t : ℕ) → 0 < x → x < 31 → of_fields binary32 s (x + 112) (t * 8192) ≡ value_of s x t
unfolding value_of
normal s zero t p h = absurd (not-suc-le-zero p)
normal s (suc x) t p h =
    let e : 8388608 + t * 8192 ≡ (1024 + t) * 8192 = omega arith in
    ap (λ (n : ℕ). of_fields binary32 s n (t * 8192)) (suc-add x 112) ∙ normal-fields s (x + 112) (t * 8192) (omega arith)
    ∙ ap (λ (q : ℕ). odd 24 s q (x + 112) 149) e ∙ odd_shift 11 13 112 s (1024 + t) x 24 (omega arith)

zeroed : (s : Bool) → of_fields binary32 s 0 0 ≡ value_of s 0 0
unfolding value_of of_fields odd
zeroed s = refl

-- t shifted left by n has 11 binary digits
subnormal : (s : Bool) (t n : ℕ) → 0 < t → 0 < n → n ≤ 10 → 1024 ≤ t * 2 ^ n → t * 2 ^ n < 2048
    → of_fields binary32 s (113 - n) ((t * 2 ^ n - 1024) * 8192) ≡ value_of s 0 t
unfolding value_of
subnormal s t n p h k lo hi =
    let e₁ : 113 - n ≡ suc (112 - n) = omega arith in
    let e₂ : 8388608 + (t * 2 ^ n - 1024) * 8192 ≡ t * 2 ^ n * 8192 = omega arith in
    let e₃ : t * 2 ^ n * 8192 ≡ t * 2 ^ (n + 13) = mul_assoc t (2 ^ n) 8192 ∙ ap (λ (q : ℕ). t * q) (sym (pow-add 2 n 13)) in
    let e₄ : 24 ≡ n + 13 + (11 - n) = omega arith in
    let e₅ : 149 ≡ 24 + (112 - n + (n + 13)) = omega arith in
    let e₆ : 112 - n ≡ 0 + (112 - n) = omega arith in
    let e₇ : 11 - n + n ≡ 11 = omega arith in
    ap (λ (x : ℕ). of_fields binary32 s x ((t * 2 ^ n - 1024) * 8192)) e₁ ∙ normal-fields s (112 - n) ((t * 2 ^ n - 1024) * 8192) (omega arith)
    ∙ ap (λ (q : ℕ). odd 24 s q (112 - n) 149) (e₂ ∙ e₃)
    ∙ ap (λ (d : ℕ). odd d s (t * 2 ^ (n + 13)) (112 - n) 149) e₄
    ∙ ap (λ (l : ℕ). odd (n + 13 + (11 - n)) s (t * 2 ^ (n + 13)) (112 - n) l) e₅
    ∙ ap (λ (x : ℕ). odd (n + 13 + (11 - n)) s (t * 2 ^ (n + 13)) x (24 + (112 - n + (n + 13)))) e₆
    ∙ odd_shift (11 - n) (n + 13) (112 - n) s t 0 24 p
    ∙ sym (odd-room (11 - n) n s t 0 24 p few)
    ∙ ap (λ (d : ℕ). odd d s t 0 24) e₇
  where
    few : t < 2 ^ (11 - n)
    few = lt_of_mul-lt-mul_right (2 ^ n) (subst (λ (m : ℕ). t * 2 ^ n < m) (ap (λ (m : ℕ). 2 ^ m) e ∙ pow-add 2 (11 - n) n) hi)
      where
        e : 11 ≡ 11 - n + n
        e = omega arith

-- ---- how far the digits of a subnormal half are shifted
pub record Moved (t n : ℕ) : Type 0 where
  pub zeros : count_leading_zeros 32 t ≡ 21 + n
  pub n_pos : 0 < n
  pub n-le : n ≤ 10
  pub shifted-ge : 1024 ≤ t * 2 ^ n
  pub shifted-lt : t * 2 ^ n < 2048
  pub whole : (t * 2 ^ n) % 4294967296 ≡ t * 2 ^ n

top_below : (j t : ℕ) → 2 ^ j ≤ t → t < 1024 → j < 10
top_below j t lo h = lt_of_not-le (λ g. clash (pow_mono {i = 10} {j = j} g))
  where
    clash : 1024 ≤ 2 ^ j → ⊥
    clash g = omega arith

pub moved : (t : ℕ) → 0 < t → t < 1024 → Moved t (count_leading_zeros 32 t - 21)
moved t p h =
    let z = leading_top 32 t p (omega arith) in
    let j = z.0 in
    let l : j < 10 = top_below j t z.2 h in
    let a : j + (10 - j) ≡ 10 = omega arith in
    let b : suc j + (10 - j) ≡ 11 = omega arith in
    let e : 10 - j ≡ count_leading_zeros 32 t - 21 = omega (arith, z.1) in
    let up : 1024 ≤ t * 2 ^ (10 - j) = subst (λ (m : ℕ). m ≤ t * 2 ^ (10 - j)) (sym (pow-add 2 j (10 - j)) ∙ ap (λ (m : ℕ). 2 ^ m) a) (mul-le-mul_right (2 ^ (10 - j)) z.2) in
    let under : t * 2 ^ (10 - j) < 2048 = subst (λ (m : ℕ). t * 2 ^ (10 - j) < m) (sym (pow-add 2 (suc j) (10 - j)) ∙ ap (λ (m : ℕ). 2 ^ m) b) (mul-lt-mul_of_pos_right z.3 (pow_pos (10 - j))) in
    subst (Moved t) e
    (record { zeros = omega (arith, z.1); n_pos = omega arith; n-le = omega arith; shifted-ge = up; shifted-lt = under; whole = mod-eq_of_lt (omega arith) })

-- ---- the three cases, on the 16 bits
sign : (h : ℕ) → leb 1 (h / 32768) ≡ leb 32768 h
sign h = by (leb 32768 h) refl
  where
    by : (v : Bool) → leb 32768 h ≡ v → leb 1 (h / 32768) ≡ leb 32768 h
    by true e = le-leb 1 (h / 32768) (omega (arith, leb-true 32768 h e)) ∙ sym e
    by false e = lt-leb 1 (h / 32768) (omega (arith, leb-false 32768 h e)) ∙ sym e

module _ (h : ℕ) where
  by-fields : (x t : ℕ) → h / 1024 % 32 ≡ x → h % 1024 ≡ t → value_of (leb 1 (h / 32768)) x t ≡ half_of h
  unfolding half_of
  by-fields x t ex et = rw (← ex, ← et, sign h)

  pub half_normal : 0 < h / 1024 % 32 → h / 1024 % 32 < 31 → of_fields binary32 (leb 1 (h / 32768)) (h / 1024 % 32 + 112) (h % 1024 * 8192) ≡ half_of h
  half_normal p q = normal (leb 1 (h / 32768)) (h / 1024 % 32) (h % 1024) p q ∙ by-fields (h / 1024 % 32) (h % 1024) refl refl

  pub half_zero : h / 1024 % 32 ≡ 0 → h % 1024 ≡ 0 → of_fields binary32 (leb 1 (h / 32768)) 0 0 ≡ half_of h
  half_zero p q = zeroed (leb 1 (h / 32768)) ∙ by-fields 0 0 p q

  pub half_subnormal : h / 1024 % 32 ≡ 0 → 0 < h % 1024
      → of_fields binary32 (leb 1 (h / 32768)) (113 - (count_leading_zeros 32 (h % 1024) - 21)) (((h % 1024 * 2 ^ (count_leading_zeros 32 (h % 1024) - 21)) % 4294967296 - 1024) * 8192) ≡ half_of h
  half_subnormal p q =
      let n = count_leading_zeros 32 (h % 1024) - 21 in
      let m : Moved (h % 1024) n = moved (h % 1024) q (omega arith) in
      ap (λ (d : ℕ). of_fields binary32 (leb 1 (h / 32768)) (113 - n) ((d - 1024) * 8192)) m.whole
      ∙ subnormal (leb 1 (h / 32768)) (h % 1024) n q m.n_pos m.n-le m.shifted-ge m.shifted-lt ∙ by-fields 0 (h % 1024) p refl
