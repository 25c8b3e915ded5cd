-- The side of zero on which a value lies, for infinities too; a NaN is on both sides. A sum of values on one side stays there; products and quotients follow the rule of signs.
-- `Side false x`: x is not below zero. `Side true x`: x is not above zero. A zero of either sign is on both sides. Assumes nothing.
use mathlib.Core.Path.{◌≡◌, refl, ap, ap₂, ◌∙◌, subst}
use mathlib.Core.Logic.{◌⊎◌, inl, inr}
use mathlib.Core.Bool.{Bool, true, false, not, ◌&&◌, cond, beq}
use Prim.Native.Nat.{ℕ, zero, suc, ◌+◌, ◌-◌, ◌*◌, ◌≤◌, ◌<◌}
use native.Mathlib.Nat.{mul-pos, zero-mul, mul-zero, zero-lt-suc}
use native.Mathlib.Omega.{arith}
use lib.Dec.{T, eqb, ltb, ltb→lt, nltb→le, eqb-suc-zero}
use lib.IntN.{pos}
use lib.Ieee.{Float, nan, inf, fin, Format, up, down, unlike, round, sum, add, mul, div, lt}
use lib.Ieee.Fits.{up_pos, down_pos}
use lib.Ieee.Positive.{above}
use Rattle.rounding.proofs.Rounded.{Signed, round-signed, round-zero}

abbrev pub Side : Bool → Float → Type 0
Side t nan = Unit
Side t (inf s) = s ≡ t
Side t (fin s m e) = (s ≡ t) ⊎ (m ≡ 0)

pub of-signed : (t : Bool) (x : Float) → Signed t x → Side t x
of-signed t nan h = tt
of-signed t (inf s) h = h
of-signed t (fin s m e) h = inl h

-- a rounded fraction is on the side of its sign, or it is zero
round-side : (f : Format) (t s : Bool) (a c : ℕ) → 0 < c → (s ≡ t) ⊎ (a ≡ 0) → Side t (round f s a c)
round-side f t s a c C (inl p) = rw p (of-signed t (round f t a c) (round-signed f t a c))
round-side f t s a c C (inr z) = rw (round-zero f s a c z C) (inr refl)

-- both branches of a test
pub either : (P : Float → Type 0) (b : Bool) (x y : Float) → (T b → P x) → (T (not b) → P y) → P (cond b x y)
either P true x y h k = h tt
either P false x y h k = k tt

beq→eq : (s t : Bool) → T (beq s t) → s ≡ t
beq→eq true true h = refl
beq→eq true false h = absurd h
beq→eq false true h = absurd h
beq→eq false false h = refl

-- ---- the sum
sum-side : (f : Format) (t s u : Bool) (a b c : ℕ) → 0 < c → (s ≡ t) ⊎ (a ≡ 0) → (u ≡ t) ⊎ (b ≡ 0) → Side t (sum f s a u b c)
unfolding sum
sum-side f t s u a b c C p q =
    either (Side t) (beq s u) _ _ (λ e. round-side f t s (a + b) c C (both (beq→eq s u e) p q))
    (λ _. either (Side t) (ltb a b) _ _ (λ h. round-side f t u (b - a) c C (second q))
    (λ h. round-side f t (s && ltb b a) (a - b) c C (first s (ltb b a) (nltb→le b a) p)))
  where
    both : s ≡ u → (s ≡ t) ⊎ (a ≡ 0) → (u ≡ t) ⊎ (b ≡ 0) → (s ≡ t) ⊎ (a + b ≡ 0)
    both e (inl p) q = inl p
    both e (inr z) (inl q) = inl (e ∙ q)
    both e (inr z) (inr w) = inr (omega arith)

    second : (u ≡ t) ⊎ (b ≡ 0) → (u ≡ t) ⊎ (b - a ≡ 0)
    second (inl q) = inl q
    second (inr w) = inr (omega arith)

    first : (s l : Bool) → (T (not l) → a ≤ b) → (s ≡ t) ⊎ (a ≡ 0) → ((s && l) ≡ t) ⊎ (a - b ≡ 0)
    first s l g (inr z) = inr (omega arith)
    first false l g (inl p) = inl p
    first true true g (inl p) = inl p
    first true false g (inl p) = inr (let h : a ≤ b = g tt in omega arith)

-- also times a factor
pub wider : (t s : Bool) (m a b : ℕ) → (s ≡ t) ⊎ (m ≡ 0) → (s ≡ t) ⊎ (m * a * b ≡ 0)
wider t s m a b (inl p) = inl p
wider t s m a b (inr z) = inr (ap (λ (k : ℕ). k * a * b) z ∙ ap (λ (k : ℕ). k * b) (zero-mul a) ∙ zero-mul b)

pub add-side : (f : Format) (t : Bool) (x y : Float) → Side t x → Side t y → Side t (add f x y)
unfolding add
add-side f t nan y h k = tt
add-side f t (inf s) nan h k = tt
add-side f t (inf s) (inf u) h k = either (Side t) (beq s u) (inf s) nan (λ _. h) (λ _. tt)
add-side f t (inf s) (fin u n d) h k = h
add-side f t (fin s m e) nan h k = tt
add-side f t (fin s m e) (inf u) h k = k
add-side f t (fin s m e) (fin u n d) h k =
    sum-side f t s u (m * up e * down d) (n * up d * down e) (down e * down d) (mul-pos (down_pos e) (down_pos d)) (wider t s m (up e) (down d) h) (wider t u n (up d) (down e) k)

-- ---- the product and the quotient
pair : (p s q t : Bool) (m u n v : ℕ) → (s ≡ p) ⊎ (m ≡ 0) → (t ≡ q) ⊎ (n ≡ 0) → (unlike s t ≡ unlike p q) ⊎ (m * u * (n * v) ≡ 0)
pair p s q t m u n v (inl a) (inl b) = inl (ap₂ unlike a b)
pair p s q t m u n v (inl a) (inr z) = inr (rw z (rw (zero-mul v) (mul-zero (m * u))))
pair p s q t m u n v (inr z) k = inr (rw z (rw (zero-mul u) (zero-mul (n * v))))

-- a value other than zero has the sign of its side
sign_of : (p s : Bool) (m : ℕ) → (s ≡ p) ⊎ (m ≡ 0) → T (not (eqb m 0)) → s ≡ p
sign_of p s m (inl a) h = a
sign_of p s m (inr z) h = absurd (subst (λ (k : ℕ). T (not (eqb k 0))) z h)

pub mul-side : (f : Format) (p q : Bool) (x y : Float) → Side p x → Side q y → Side (unlike p q) (mul f x y)
unfolding mul
mul-side f p q nan y h k = tt
mul-side f p q (inf s) nan h k = tt
mul-side f p q (inf s) (inf t) h k = ap₂ unlike h k
mul-side f p q (inf s) (fin t n d) h k = either (Side (unlike p q)) (eqb n 0) nan (inf (unlike s t)) (λ _. tt) (λ z. ap₂ unlike h (sign_of q t n k z))
mul-side f p q (fin s m e) nan h k = tt
mul-side f p q (fin s m e) (inf t) h k = either (Side (unlike p q)) (eqb m 0) nan (inf (unlike s t)) (λ _. tt) (λ z. ap₂ unlike (sign_of p s m h z) k)
mul-side f p q (fin s m e) (fin t n d) h k =
    round-side f (unlike p q) (unlike s t) (m * up e * (n * up d)) (down e * down d) (mul-pos (down_pos e) (down_pos d)) (pair p s q t m (up e) n (up d) h k)

-- division by a divisor with a known sign, which may be zero
pub div-side : (f : Format) (p q : Bool) (x y : Float) → Side p x → Signed q y → Side (unlike p q) (div f x y)
unfolding div
div-side f p q nan y h k = tt
div-side f p q (inf s) nan h k = tt
div-side f p q (inf s) (inf t) h k = tt
div-side f p q (inf s) (fin t n d) h k = ap₂ unlike h k
div-side f p q (fin s m e) nan h k = tt
div-side f p q (fin s m e) (inf t) h k = inr refl
div-side f p q (fin s m e) (fin t zero d) h k = either (Side (unlike p q)) (eqb m 0) nan (inf (unlike s t)) (λ _. tt) (λ z. ap₂ unlike (sign_of p s m h z) k)
div-side f p q (fin s m e) (fin t (suc n) d) h k =
    rw (eqb-suc-zero n)
    (round-side f (unlike p q) (unlike s t) (m * up e * down d) (suc n * up d * down e) (mul-pos (mul-pos (zero-lt-suc n) (up_pos d)) (down_pos e)) (go (wider p s m (up e) (down d) h)))
  where
    go : (s ≡ p) ⊎ (m * up e * down d ≡ 0) → (unlike s t ≡ unlike p q) ⊎ (m * up e * down d ≡ 0)
    go (inl a) = inl (ap₂ unlike a k)
    go (inr z) = inr z

-- ---- from comparisons
-- x is not below zero
pub not_negative_lem : (x : Float) → T (not (lt x (fin false 0 (pos 0)))) → Side false x
unfolding lt
not_negative_lem nan h = tt
not_negative_lem (inf true) h = absurd h
not_negative_lem (inf false) h = refl
not_negative_lem (fin false m e) h = inl refl
not_negative_lem (fin true zero e) h = inr refl
not_negative_lem (fin true (suc m) e) h =
    absurd (omega (arith, nltb→le 0 (suc m * up e * 1 + 0 * 1 * down e) h, mul-pos (mul-pos (zero-lt-suc m) (up_pos e)) (zero-lt-suc 0)))

-- x is not below a positive value
pub not-under : (lo x : Float) → T (above lo) → T (not (lt x lo)) → Signed false x
unfolding lt
not-under nan x p h = absurd p
not-under (inf true) x p h = absurd p
not-under (fin true n d) x p h = absurd p
not-under (inf false) nan p h = tt
not-under (inf false) (inf true) p h = absurd h
not-under (inf false) (inf false) p h = refl
not-under (inf false) (fin s m e) p h = absurd h
not-under (fin false n d) nan p h = tt
not-under (fin false n d) (inf true) p h = absurd h
not-under (fin false n d) (inf false) p h = refl
not-under (fin false n d) (fin true m e) p h =
    absurd (omega (arith, nltb→le 0 (m * up e * down d + n * up d * down e) h, mul-pos (mul-pos (ltb→lt 0 n p) (up_pos d)) (down_pos e)))
not-under (fin false n d) (fin false m e) p h = refl
