-- Numbers that fit a format, x - y and y - x, and magnitudes. Assumes nothing.
use mathlib.Core.Path.{◌≡◌, refl, sym, ap, ◌∙◌}
use mathlib.Core.Logic.{◌⊎◌, inl, inr}
use mathlib.Core.Bool.{Bool, true, false, not, ◌&&◌, cond}
use Prim.Native.Nat.{ℕ, zero, suc, ◌+◌, ◌-◌, ◌*◌, ◌/◌, ◌%◌, ◌^◌, ◌<◌, ◌≤◌}
use native.Mathlib.Nat.{mul_comm, mul-pos, add_comm, zero-lt-suc, zero-mul, mul-lt-mul_of_pos_right}
use native.Mathlib.Decide.{dec_lt}
use native.Mathlib.Omega.{arith}
use borrow.Author.Tests.{lt-ltb, le-ltb}
use lib.Dec.{T, eqb, ltb, leb, eqb→eq, ltb→lt, leb→le}
use lib.Pow.{pow-add, pow_pos, pow-lt}
use lib.IntN.{ℤ, pos, negsuc}
use lib.Ieee.{Float, nan, inf, fin, Format, binary32, prec, emax, low, up, down, neg, sub, add, sum, round, units, odd, fits, to_bits, of_bits, of_fields}
use lib.Ieee.Fits.{down_pos, and_l, and_r, round_is, round-fits}
use lib.Ieee.Exact.{HasValue, round_exact}
use lib.Ieee.Nearest.{div_same}
use lib.Ieee.Bits.{of_bits-to_bits}
use Rattle.rounding.proofs.Rounded.{round-zero}
use Rattle.rounding.specs.Magnitude.{magnitude}

-- ---- a value that fits a format has one encoding
same_bits : (f : Format) (s : Bool) (m n : ℕ) (e g : ℤ) → m * up e * down g ≡ n * up g * down e → to_bits f (fin s m e) ≡ to_bits f (fin s n g)
unfolding to_bits
same_bits f s m n e g h =
    let q : m * up e * 2 ^ low f / down e ≡ n * up g * 2 ^ low f / down g =
    div_same (m * up e * 2 ^ low f) (down e) (n * up g * 2 ^ low f) (down g) (down_pos e) (down_pos g) (omega (arith, ap (λ (z : ℕ). z * 2 ^ low f) h)) in
    rw q

pub unique : (f : Format) (s : Bool) (m n : ℕ) (e g : ℤ) → T (fits f (fin s m e)) → T (fits f (fin s n g)) → m * up e * down g ≡ n * up g * down e → fin s m e ≡ fin s n g
unique f s m n e g p q h = sym (of_bits-to_bits f (fin s m e) p) ∙ ap (of_bits f) (same_bits f s m n e g h) ∙ of_bits-to_bits f (fin s n g) q

of-value : (f : Format) (x : Float) (s : Bool) (m : ℕ) (e : ℤ) → T (fits f x) → T (fits f (fin s m e)) → HasValue x s (m * up e) (down e) → x ≡ fin s m e
of-value f nan s m e p q v = absurd v
of-value f (inf t) s m e p q v = absurd v
of-value f (fin t n g) s m e p q v = let k = rw v.0 at p in rw v.0 (unique f s n m g e k q v.1)

-- ---- rounding keeps a value that fits
pow-back : (a b : ℕ) → 2 ^ a ≤ 2 ^ b → a ≤ b
pow-back a b h = go (dec_lt b a)
  where
    go : Dec (b < a) → a ≤ b
    go (yes l) = absurd (omega (arith, pow-lt l))
    go (no l) = omega arith

record Kept (f : Format) (m : ℕ) (e : ℤ) : Type 0 where
  small : m < 2 ^ prec f
  fine : down e ≤ 2 ^ low f
  under : m * up e < 2 ^ suc (emax f) * down e

kept : (f : Format) (s : Bool) (m : ℕ) (e : ℤ) → T (fits f (fin s (suc m) e)) → Kept f (suc m) e
unfolding fits
kept f s m e t =
    let a = eqb (suc m % 2) 1 in
    let b = ltb (suc m) (2 ^ prec f) in
    let c = leb (down e) (2 ^ low f) in
    let d = ltb (suc m * up e) (2 ^ suc (emax f) * down e) in
    let abc = and_l (a && b && c) d t in
    record {
      small = ltb→lt (suc m) (2 ^ prec f) (and_r a b (and_l (a && b) c abc));
      fine = leb→le (down e) (2 ^ low f) (and_r (a && b) c abc);
      under = ltb→lt (suc m * up e) (2 ^ suc (emax f) * down e) (and_r (a && b && c) d t);
    }

value : (f : Format) (s : Bool) (m : ℕ) (e : ℤ) → Kept f m e → HasValue (round f s (m * up e) (down e)) s (m * up e) (down e)
value f s m (pos k) h =
    let e = pow-add 2 k (low f) in
    let g = pow-add 2 (low f) (suc (emax f)) in
    round_exact f s (m * 2 ^ k) 1 m (k + low f) (zero-lt-suc 0) h.small
    (rw (e, g) (omega (arith, mul-lt-mul_of_pos_right h.under (pow_pos (low f))))) (rw e (omega arith))
value f s m (negsuc k) h =
    let l : suc k ≤ low f = pow-back (suc k) (low f) h.fine in
    let j = low f - suc k in
    let z : low f ≡ j + suc k = omega arith in
    let e : 2 ^ low f ≡ 2 ^ j * 2 ^ suc k = ap (λ (n : ℕ). 2 ^ n) z ∙ pow-add 2 j (suc k) in
    let g = pow-add 2 (low f) (suc (emax f)) in
    round_exact f s (m * 1) (2 ^ suc k) m j (pow_pos (suc k)) h.small
    (rw (g, e) (omega (arith, mul-lt-mul_of_pos_right h.under (pow_pos j)))) (rw e (omega arith))

flat : (e : ℤ) → up e * down e ≡ 1 → e ≡ pos 0
flat (pos zero) h = refl
flat (pos (suc k)) h = absurd (omega (arith, pow-lt (zero-lt-suc k)))
flat (negsuc k) h = absurd (omega (arith, pow-lt (zero-lt-suc k)))

pub zero_exp : (f : Format) (s : Bool) (e : ℤ) → T (fits f (fin s zero e)) → e ≡ pos 0
unfolding fits
zero_exp f s e t = flat e (eqb→eq (up e * down e) 1 t)

pub round-back : (f : Format) (s : Bool) (m : ℕ) (e : ℤ) → T (fits f (fin s m e)) → round f s (m * up e) (down e) ≡ fin s m e
round-back f s zero e t = round-zero f s (0 * up e) (down e) (zero-mul (up e)) (down_pos e) ∙ ap (fin s 0) (sym (zero_exp f s e t))
round-back f s (suc m) e t = of-value f _ s (suc m) e (round-fits f s (suc m * up e) (down e)) t (value f s (suc m) e (kept f s m e t))

-- ---- negation
odd-neg : (d : ℕ) (s : Bool) (q k l : ℕ) → odd d (not s) q k l ≡ neg (odd d s q k l)
unfolding odd neg
odd-neg d s zero k l = refl
odd-neg d s (suc q) k l = refl

units-neg : (f : Format) (s : Bool) (q k : ℕ) → units f (not s) q k ≡ neg (units f s q k)
unfolding units neg
units-neg f s q k = go (ltb (q * 2 ^ k) (2 ^ (low f + suc (emax f))))
  where
    go : (b : Bool) → cond b (odd (suc (prec f)) (not s) q k (low f)) (inf (not s)) ≡ neg (cond b (odd (suc (prec f)) s q k (low f)) (inf s))
    go true = odd-neg (suc (prec f)) s q k (low f)
    go false = refl

round-neg : (f : Format) (s : Bool) (a c : ℕ) → round f (not s) a c ≡ neg (round f s a c)
round-neg f s a c = rw (round_is f (not s) a c, round_is f s a c) (units-neg f s _ _)

-- ---- x - y and y - x are opposite, or both are +0
abbrev zero_f : Float
zero_f = fin false 0 (pos 0)

abbrev Opp : Float → Float → Type 0
Opp d e = (e ≡ neg d) ⊎ ((d ≡ zero_f) × (e ≡ zero_f))

sum-opp : (f : Format) (s t : Bool) (a b c : ℕ) → 0 < c → Opp (sum f s a (not t) b c) (sum f t b (not s) a c)
unfolding sum
sum-opp f true false a b c C = inl (rw (add_comm b a) (round-neg f true (a + b) c))
sum-opp f false true a b c C = inl (rw (add_comm b a) (round-neg f false (a + b) c))
sum-opp f false false a b c C = go (dec_lt a b) (dec_lt b a)
  where
    go : Dec (a < b) → Dec (b < a) → Opp (sum f false a true b c) (sum f false b true a c)
    go (yes p) (yes q) = absurd (omega arith)
    go (yes p) (no q) = rw (lt-ltb a b p, le-ltb b a (omega arith)) (inl (round-neg f true (b - a) c))
    go (no p) (yes q) = rw (lt-ltb b a q, le-ltb a b (omega arith)) (inl (round-neg f false (a - b) c))
    go (no p) (no q) = rw (le-ltb b a (omega arith), le-ltb a b (omega arith)) (inr (round-zero f false (a - b) c (omega arith) C, round-zero f false (b - a) c (omega arith) C))
sum-opp f true true a b c C = go (dec_lt a b) (dec_lt b a)
  where
    go : Dec (a < b) → Dec (b < a) → Opp (sum f true a false b c) (sum f true b false a c)
    go (yes p) (yes q) = absurd (omega arith)
    go (yes p) (no q) = rw (lt-ltb a b p, le-ltb b a (omega arith)) (inl (round-neg f false (b - a) c))
    go (no p) (yes q) = rw (lt-ltb b a q, le-ltb a b (omega arith)) (inl (round-neg f true (a - b) c))
    go (no p) (no q) = rw (le-ltb b a (omega arith), le-ltb a b (omega arith)) (inr (round-zero f false (a - b) c (omega arith) C, round-zero f false (b - a) c (omega arith) C))

pub opposite : (f : Format) (x y : Float) → Opp (sub f x y) (sub f y x)
unfolding sub add neg
opposite f nan nan = inl refl
opposite f nan (inf t) = inl refl
opposite f nan (fin t n g) = inl refl
opposite f (inf s) nan = inl refl
opposite f (inf true) (inf true) = inl refl
opposite f (inf true) (inf false) = inl refl
opposite f (inf false) (inf true) = inl refl
opposite f (inf false) (inf false) = inl refl
opposite f (inf s) (fin t n g) = inl refl
opposite f (fin s m e) nan = inl refl
opposite f (fin s m e) (inf true) = inl refl
opposite f (fin s m e) (inf false) = inl refl
opposite f (fin s m e) (fin t n g) =
    rw (mul_comm (down g) (down e)) (sum-opp f s t (m * up e * down g) (n * up g * down e) (down e * down g) (mul-pos (down_pos e) (down_pos g)))

-- ---- magnitudes

pub zero_is : of_bits binary32 0 ≡ fin false 0 (pos 0)
unfolding of_bits of_fields odd
zero_is = refl

unsigned : (m : ℕ) (e : ℤ) (s : Bool) → T (fits binary32 (fin s m e)) → T (fits binary32 (fin false m e))
unfolding fits
unsigned zero e s t = t
unsigned (suc m) e s t = t

pub magnitude-fits : (d : Float) → T (fits binary32 d) → T (fits binary32 (magnitude d))
unfolding magnitude
magnitude-fits nan t = t
magnitude-fits (inf s) t = unfold fits in t
magnitude-fits (fin s m e) t = unsigned m e s t

magnitude-neg : (d : Float) → magnitude d ≡ magnitude (neg d)
unfolding magnitude neg
magnitude-neg nan = refl
magnitude-neg (inf s) = refl
magnitude-neg (fin s m e) = refl

-- |x - y| is |y - x|
pub difference-swap : (f : Format) (x y : Float) → magnitude (sub f x y) ≡ magnitude (sub f y x)
difference-swap f x y = go (opposite f x y)
  where
    go : Opp (sub f x y) (sub f y x) → magnitude (sub f x y) ≡ magnitude (sub f y x)
    go (inl p) = rw p (magnitude-neg (sub f x y))
    go (inr p) = rw (p.0, p.1)
