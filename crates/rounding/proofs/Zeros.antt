-- Sums and products of binary32 numbers that differ at most in the sign of a zero differ at most in the sign of a zero. Assumes nothing.
use mathlib.Core.Path.{◌≡◌, refl, sym, ap, ◌∙◌, subst}
use mathlib.Core.Logic.{inl, inr}
use mathlib.Core.Bool.{Bool, true, false, cond, true≢false}
use Prim.Native.Nat.{ℕ, zero, suc, ◌+◌, ◌-◌, ◌*◌, ◌<◌}
use native.Mathlib.Nat.{mul-pos, zero-lt-suc}
use native.Mathlib.Omega.{arith}
use borrow.Author.Tests.{lt-ltb, le-ltb}
use lib.Dec.{T}
use lib.IntN.{ℤ, pos}
use lib.Ieee.{Float, nan, inf, fin, Format, binary32, up, down, unlike, lt, neg, sub, add, mul, sum, round, fits, of_bits}
use lib.Ieee.Fits.{up_pos, down_pos, sub-fits, neg-fits}
use Rattle.rounding.proofs.MagnitudeLaws.{round-back, zero_exp, zero_is, magnitude-fits}
use Rattle.rounding.proofs.Rounded.{round-zero}
use Rattle.rounding.specs.Magnitude.{magnitude}
use Rattle.rounding.specs.Zeros.{Zero, EqualOrZeros, parted}

-- ---- an equivalence

pub zeros-sym : {x y : Float} → EqualOrZeros x y → EqualOrZeros y x
zeros-sym (inl p) = inl (sym p)
zeros-sym (inr z) = inr (z.1, z.0)

pub zeros-trans : {x y z : Float} → EqualOrZeros x y → EqualOrZeros y z → EqualOrZeros x z
zeros-trans (inl p) (inl q) = inl (p ∙ q)
zeros-trans (inl p) (inr z) = inr (subst Zero (sym p) z.0, z.1)
zeros-trans (inr z) (inl q) = inr (z.0, subst Zero q z.1)
zeros-trans (inr z) (inr w) = inr (z.0, w.1)

-- a property of both zeros is one of each zero
at-zero : (P : Float → Type 0) → ((s : Bool) → P (fin s 0 (pos 0))) → (x : Float) → Zero x → P x
at-zero P h x (inl p) = subst P (sym p) (h false)
at-zero P h x (inr p) = subst P (sym p) (h true)

-- what a function does with the two zeros says what it does with numbers that are alike
alike-under : (g : Float → Float) → ((s t : Bool) → EqualOrZeros (g (fin s 0 (pos 0))) (g (fin t 0 (pos 0)))) → {x y : Float} → EqualOrZeros x y → EqualOrZeros (g x) (g y)
alike-under g h (inl p) = inl (ap g p)
alike-under g h {x} {y} (inr z) = at-zero (λ u. EqualOrZeros (g u) (g y)) (λ s. at-zero (λ v. EqualOrZeros (g (fin s 0 (pos 0))) (g v)) (h s) y z.1) x z.0

zero-signed : (s : Bool) → Zero (fin s 0 (pos 0))
zero-signed false = inl refl
zero-signed true = inr refl

round-zeros : (f : Format) (s : Bool) (a c : ℕ) → a ≡ 0 → 0 < c → Zero (round f s a c)
round-zeros f s a c z C = subst Zero (sym (round-zero f s a c z C)) (zero-signed s)

-- ---- sums

sum-zeros : (f : Format) (s t : Bool) (a b c : ℕ) → a ≡ 0 → b ≡ 0 → 0 < c → Zero (sum f s a t b c)
unfolding sum
sum-zeros f true true a b c p q C = round-zeros f true (a + b) c (omega arith) C
sum-zeros f false false a b c p q C = round-zeros f false (a + b) c (omega arith) C
sum-zeros f true false a b c p q C = rw (le-ltb a b (omega arith)) (round-zeros f _ (a - b) c (omega arith) C)
sum-zeros f false true a b c p q C = rw (le-ltb a b (omega arith)) (round-zeros f false (a - b) c (omega arith) C)

-- a number other than zero plus a zero: the zero's sign does not count
sum-left : (f : Format) (s t : Bool) (a b c : ℕ) → 0 < a → b ≡ 0 → sum f s a t b c ≡ round f s a c
unfolding sum
sum-left f true true a b c A q = ap (λ (n : ℕ). round f true n c) (omega arith)
sum-left f false false a b c A q = ap (λ (n : ℕ). round f false n c) (omega arith)
sum-left f true false a b c A q = rw (le-ltb a b (omega arith), lt-ltb b a (omega arith)) (ap (λ (n : ℕ). round f true n c) (omega arith))
sum-left f false true a b c A q = rw (le-ltb a b (omega arith)) (ap (λ (n : ℕ). round f false n c) (omega arith))

sum-right : (f : Format) (s t : Bool) (a b c : ℕ) → a ≡ 0 → 0 < b → sum f s a t b c ≡ round f t b c
unfolding sum
sum-right f true true a b c p B = ap (λ (n : ℕ). round f true n c) (omega arith)
sum-right f false false a b c p B = ap (λ (n : ℕ). round f false n c) (omega arith)
sum-right f true false a b c p B = rw (lt-ltb a b (omega arith)) (ap (λ (n : ℕ). round f false n c) (omega arith))
sum-right f false true a b c p B = rw (lt-ltb a b (omega arith)) (ap (λ (n : ℕ). round f true n c) (omega arith))

scaled : (m : ℕ) (e d : ℤ) → 0 < suc m * up e * down d
scaled m e d = mul-pos (mul-pos (zero-lt-suc m) (up_pos e)) (down_pos d)

under : (e d : ℤ) → 0 < down e * down d
under e d = mul-pos (down_pos e) (down_pos d)

add-signed : (s t : Bool) (x : Float) → EqualOrZeros (add binary32 x (fin s 0 (pos 0))) (add binary32 x (fin t 0 (pos 0)))
unfolding add
add-signed s t nan = inl refl
add-signed s t (inf u) = inl refl
add-signed s t (fin u zero e) =
    inr (sum-zeros binary32 u s _ _ _ (omega arith) (omega arith) (under e (pos 0)), sum-zeros binary32 u t _ _ _ (omega arith) (omega arith) (under e (pos 0)))
add-signed s t (fin u (suc m) e) =
    inl (sum-left binary32 u s _ _ _ (scaled m e (pos 0)) (omega arith) ∙ sym (sum-left binary32 u t _ _ _ (scaled m e (pos 0)) (omega arith)))

signed-add : (s t : Bool) (x : Float) → EqualOrZeros (add binary32 (fin s 0 (pos 0)) x) (add binary32 (fin t 0 (pos 0)) x)
unfolding add
signed-add s t nan = inl refl
signed-add s t (inf u) = inl refl
signed-add s t (fin u zero e) =
    inr (sum-zeros binary32 s u _ _ _ (omega arith) (omega arith) (under (pos 0) e), sum-zeros binary32 t u _ _ _ (omega arith) (omega arith) (under (pos 0) e))
signed-add s t (fin u (suc m) e) =
    inl (sum-right binary32 s u _ _ _ (omega arith) (scaled m e (pos 0)) ∙ sym (sum-right binary32 t u _ _ _ (omega arith) (scaled m e (pos 0))))

pub sums-alike : {a b c d : Float} → EqualOrZeros a c → EqualOrZeros b d → EqualOrZeros (add binary32 a b) (add binary32 c d)
sums-alike {a} {b} {c} {d} h k =
    zeros-trans (alike-under (add binary32 a) (λ s t. add-signed s t a) k) (alike-under (λ x. add binary32 x d) (λ s t. signed-add s t d) h)

-- ---- products

mul-signed : (s t : Bool) (x : Float) → EqualOrZeros (mul binary32 x (fin s 0 (pos 0))) (mul binary32 x (fin t 0 (pos 0)))
unfolding mul
mul-signed s t nan = inl refl
mul-signed s t (inf u) = inl refl
mul-signed s t (fin u m e) =
    inr (round-zeros binary32 (unlike u s) _ _ (omega arith) (under e (pos 0)), round-zeros binary32 (unlike u t) _ _ (omega arith) (under e (pos 0)))

signed-mul : (s t : Bool) (x : Float) → EqualOrZeros (mul binary32 (fin s 0 (pos 0)) x) (mul binary32 (fin t 0 (pos 0)) x)
unfolding mul
signed-mul s t nan = inl refl
signed-mul s t (inf u) = inl refl
signed-mul s t (fin u m e) =
    inr (round-zeros binary32 (unlike s u) _ _ (omega arith) (under (pos 0) e), round-zeros binary32 (unlike t u) _ _ (omega arith) (under (pos 0) e))

pub products-alike : (a : Float) {b d : Float} → EqualOrZeros b d → EqualOrZeros (mul binary32 a b) (mul binary32 a d)
products-alike a = alike-under (mul binary32 a) (λ s t. mul-signed s t a)

pub products-alike-left : (a : Float) {b d : Float} → EqualOrZeros b d → EqualOrZeros (mul binary32 b a) (mul binary32 d a)
products-alike-left a = alike-under (λ x. mul binary32 x a) (λ s t. signed-mul s t a)

-- ---- sums that start at 1 and at 0

one-zero : (s : Bool) → add binary32 (of_bits binary32 0x3f80_0000) (fin s 0 (pos 0)) ≡ fin false 1 (pos 0)
unfolding of_bits add
one-zero true = refl
one-zero false = refl

pub one-plus : {b d : Float} → EqualOrZeros b d → add binary32 (of_bits binary32 0x3f80_0000) b ≡ add binary32 (of_bits binary32 0x3f80_0000) d
one-plus (inl p) = ap (add binary32 (of_bits binary32 0x3f80_0000)) p
one-plus {b} {d} (inr z) = at-zero One one-zero b z.0 ∙ sym (at-zero One one-zero d z.1)
  where
    One : Float → Type 0
    One x = add binary32 (of_bits binary32 0x3f80_0000) x ≡ fin false 1 (pos 0)

plus-zero : (x : Float) → T (fits binary32 x) → EqualOrZeros (add binary32 (fin false 0 (pos 0)) x) x
unfolding add
plus-zero nan t = inl refl
plus-zero (inf s) t = inl refl
plus-zero (fin s zero e) t =
    inr (sum-zeros binary32 false s _ _ _ (omega arith) (omega arith) (under (pos 0) e), subst Zero (round-back binary32 s 0 e t) (round-zeros binary32 s _ _ (omega arith) (down_pos e)))
plus-zero (fin s (suc m) e) t =
    let a : suc m * up e * 1 ≡ suc m * up e = omega arith in
    let c : 1 * down e ≡ down e = omega arith in
    inl (sum-right binary32 false s _ _ _ (omega arith) (scaled m e (pos 0)) ∙ rw (a, c) (round-back binary32 s (suc m) e t))

pub zero-plus : (x : Float) → T (fits binary32 x) → EqualOrZeros (add binary32 (of_bits binary32 0) x) x
zero-plus x t = rw zero_is (plus-zero x t)

-- ---- |d|, from the part of d that is not below 0 and the part that is

abbrev zero_f : Float
zero_f = fin false 0 (pos 0)

below-zero : (d : Float) → lt d zero_f ≡ true → neg d ≡ magnitude d
unfolding lt neg magnitude
below-zero nan h = absurd (true≢false (sym h))
below-zero (inf true) h = refl
below-zero (inf false) h = absurd (true≢false (sym h))
below-zero (fin true m e) h = refl
below-zero (fin false m e) h = absurd (true≢false (sym h ∙ le-ltb (m * up e * 1) (0 * 1 * down e) (omega arith)))

not-below : (d : Float) → T (fits binary32 d) → lt d zero_f ≡ false → EqualOrZeros d (magnitude d)
unfolding lt magnitude
not-below nan t h = inl refl
not-below (inf true) t h = absurd (true≢false h)
not-below (inf false) t h = inl refl
not-below (fin false m e) t h = inl refl
not-below (fin true zero e) t h = rw (zero_exp binary32 true e t) (inr (inr refl, inl refl))
not-below (fin true (suc m) e) t h =
    let l : 0 < suc m * up e * 1 + 0 * 1 * down e = omega (arith, scaled m e (pos 0)) in
    absurd (true≢false (sym (lt-ltb 0 (suc m * up e * 1 + 0 * 1 * down e) l) ∙ h))

add-later : (x : Float) → T (fits binary32 x) → EqualOrZeros (add binary32 x (fin true 0 (pos 0))) x
unfolding add
add-later nan t = inl refl
add-later (inf s) t = inl refl
add-later (fin s zero e) t =
    inr (sum-zeros binary32 s true _ _ _ (omega arith) (omega arith) (under e (pos 0)), subst Zero (round-back binary32 s 0 e t) (round-zeros binary32 s _ _ (omega arith) (down_pos e)))
add-later (fin s (suc m) e) t =
    let a : suc m * up e * 1 ≡ suc m * up e = omega arith in
    let c : down e * 1 ≡ down e = omega arith in
    inl (sum-left binary32 s true _ _ _ (scaled m e (pos 0)) (omega arith) ∙ rw (a, c) (round-back binary32 s (suc m) e t))

pub parted-alike : (x y : Float) → EqualOrZeros (parted (sub binary32 x y)) (magnitude (sub binary32 x y))
unfolding sub
parted-alike x y = rw zero_is (go (lt d zero_f) refl)
  where
    d : Float
    d = sub binary32 x y

    go : (b : Bool) → lt d zero_f ≡ b → EqualOrZeros (sub binary32 (cond b zero_f d) (cond b d zero_f)) (magnitude d)
    go true h = zeros-trans (plus-zero (neg d) (neg-fits binary32 d (sub-fits binary32 x y))) (inl (below-zero d h))
    go false h = zeros-trans (add-later d (sub-fits binary32 x y)) (not-below d (sub-fits binary32 x y) h)

pub zero-plus-magnitude : (x y : Float) → EqualOrZeros (add binary32 (of_bits binary32 0) (magnitude (sub binary32 x y))) (magnitude (sub binary32 x y))
zero-plus-magnitude x y = zero-plus (magnitude (sub binary32 x y)) (magnitude-fits (sub binary32 x y) (sub-fits binary32 x y))
