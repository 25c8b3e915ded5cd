-- The lists have exactly the offsets of the rule, each once. Computed for the 25 offsets of at most 2 in each direction; no list has any
-- other. Assumes nothing.
use mathlib.Core.Path.{◌≡◌, refl, ap}
use mathlib.Core.Bool.{Bool, true, false, cond, ◌&&◌}
use mathlib.Core.List.{List, [], ◌∷◌}
use Prim.Native.Nat.{ℕ, zero, suc, ◌<◌, ◌≤◌}
use native.Mathlib.Decide.{dec_le}
use native.Mathlib.Omega.{arith}
use borrow.Author.Tests.{lt-ltb, lt-leb, ne_eqb}
use lib.Dec.{T, leb, eqb→eq, leb→le}
use lib.Ieee.Fits.{and_l, and_r}
use lib.IntN.{ℤ, pos, negsuc, nat_abs}
use Rattle.epf_step.specs.Steps.{Offset, kernel, dists}
use Rattle.epf_step.specs.Offsets.{taxicab, is_neighbour, is_compared, same_number, occurrences, KernelOffsets, DistanceOffsets}

-- ---- offsets of at most 2 in each direction

abbrev Five : (ℤ → Type 0) → Type 0
Five P = P (negsuc 1) × P (negsuc 0) × P (pos 0) × P (pos 1) × P (pos 2)

five : (P : ℤ → Type 0) → Five P → (z : ℤ) → nat_abs z ≤ 2 → P z
five P t (pos zero) h = t.2
five P t (pos (suc zero)) h = t.3
five P t (pos (suc (suc zero))) h = t.4
five P t (pos (suc (suc (suc n)))) h = absurd (omega arith)
five P t (negsuc zero) h = t.1
five P t (negsuc (suc zero)) h = t.0
five P t (negsuc (suc (suc n))) h = absurd (omega arith)

-- each of the 25 occurs as often as the rule says
abbrev Square : List Offset → (Offset → Bool) → Type 0
Square l p = Five (λ dx. Five (λ dy. occurrences (dx, dy) l ≡ cond (p (dx, dy)) 1 0))

square : (l : List Offset) (p : Offset → Bool) → Square l p → (o : Offset) → taxicab o ≤ 2 → occurrences o l ≡ cond (p o) 1 0
square l p t o h =
    five (λ dy. occurrences (o.0, dy) l ≡ cond (p (o.0, dy)) 1 0)
    (five (λ dx. Five (λ dy. occurrences (dx, dy) l ≡ cond (p (dx, dy)) 1 0)) t o.0 (omega arith))
    o.1 (omega arith)

-- ---- no list has any other

all_near : List Offset → Bool
all_near [] = true
all_near (k ∷ ks) = leb (taxicab k) 2 && all_near ks

same_size : (a b : ℤ) → T (same_number a b) → nat_abs a ≡ nat_abs b
same_size (pos m) (pos n) t = eqb→eq m n t
same_size (pos m) (negsuc n) t = absurd t
same_size (negsuc m) (pos n) t = absurd t
same_size (negsuc m) (negsuc n) t = ap suc (eqb→eq m n t)

none : (b : Bool) → (T b → ⊥) → ◌≡◌ {A = ℕ} (cond b 1 0) 0
none true f = absurd (f tt)
none false f = refl

far : (o : Offset) → 2 < taxicab o → (l : List Offset) → T (all_near l) → occurrences o l ≡ 0
unfolding occurrences all_near
far o h [] t = refl
far o h (k ∷ ks) t =
    let x = same_number o.0 k.0 in
    let y = same_number o.1 k.1 in
    let here = leb→le (taxicab k) 2 (and_l (leb (taxicab k) 2) (all_near ks) t) in
    let apart : T (x && y) → ⊥ = λ s. omega (arith, here, h, same_size o.0 k.0 (and_l x y s), same_size o.1 k.1 (and_r x y s)) in
    let rest : occurrences o ks ≡ 0 = far o h ks (and_r (leb (taxicab k) 2) (all_near ks) t) in
    rw (none (x && y) apart, rest) refl

-- ---- the statements

pub kernel-offsets : KernelOffsets
unfolding kernel occurrences all_near
kernel-offsets step o = go step (dec_le (taxicab o) 2)
  where
    go : (step : ℕ) → Dec (taxicab o ≤ 2) → occurrences o (kernel step) ≡ cond (is_neighbour step o) 1 0
    go zero (yes h) = square (kernel 0) (is_neighbour 0)
        ((refl, refl, refl, refl, refl), (refl, refl, refl, refl, refl), (refl, refl, refl, refl, refl), (refl, refl, refl, refl, refl), (refl, refl, refl, refl, refl)) o h
    go (suc s) (yes h) = square (kernel (suc s)) (is_neighbour (suc s))
        ((refl, refl, refl, refl, refl), (refl, refl, refl, refl, refl), (refl, refl, refl, refl, refl), (refl, refl, refl, refl, refl), (refl, refl, refl, refl, refl)) o h
    go zero (no h) = rw (lt-ltb 0 (taxicab o) (omega arith), lt-leb (taxicab o) 2 (omega arith)) (far o (omega arith) (kernel 0) tt)
    go (suc s) (no h) = rw (ne_eqb (taxicab o) 1 (λ e. omega arith)) (far o (omega arith) (kernel (suc s)) tt)

pub distance-offsets : DistanceOffsets
unfolding dists occurrences all_near
distance-offsets step o = go step (dec_le (taxicab o) 2)
  where
    go : (step : ℕ) → Dec (taxicab o ≤ 2) → occurrences o (dists step) ≡ cond (is_compared step o) 1 0
    go zero (yes h) = square (dists 0) (is_compared 0)
        ((refl, refl, refl, refl, refl), (refl, refl, refl, refl, refl), (refl, refl, refl, refl, refl), (refl, refl, refl, refl, refl), (refl, refl, refl, refl, refl)) o h
    go (suc zero) (yes h) = square (dists 1) (is_compared 1)
        ((refl, refl, refl, refl, refl), (refl, refl, refl, refl, refl), (refl, refl, refl, refl, refl), (refl, refl, refl, refl, refl), (refl, refl, refl, refl, refl)) o h
    go (suc (suc s)) (yes h) = square (dists (suc (suc s))) (is_compared (suc (suc s)))
        ((refl, refl, refl, refl, refl), (refl, refl, refl, refl, refl), (refl, refl, refl, refl, refl), (refl, refl, refl, refl, refl), (refl, refl, refl, refl, refl)) o h
    go zero (no h) = rw (lt-leb (taxicab o) 1 (omega arith)) (far o (omega arith) (dists 0) tt)
    go (suc zero) (no h) = rw (lt-leb (taxicab o) 1 (omega arith)) (far o (omega arith) (dists 1) tt)
    go (suc (suc s)) (no h) = rw (ne_eqb (taxicab o) 0 (λ e. omega arith)) (far o (omega arith) (dists (suc (suc s))) tt)
