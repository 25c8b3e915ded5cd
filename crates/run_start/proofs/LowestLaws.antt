-- A table of checks with ascending numbers, split into two: its number is the lower of theirs. Assumes nothing.
use mathlib.Core.Path.{◌≡◌, refl, sym}
use mathlib.Core.Bool.{Bool, true, false, cond, ◌&&◌}
use mathlib.Core.List.{List, [], ◌∷◌}
use Prim.Native.Nat.{ℕ, ◌<◌, ◌≤◌}
use native.Mathlib.Decide.{ℕ_discrete}
use native.Mathlib.Omega.{arith}
use borrow.Author.Tests.{leb-true, ltb-false, le-ltb, ne_eqb}
use lib.Dec.{eqb, leb, ltb}
use Rattle.refusals.specs.Checks.{Check, applies, first_of}
use Rattle.refusals.proofs.Outcomes.{number-positive}
use Rattle.planes.proofs.Stored.{and_first, and_second}
use Rattle.run_start.specs.Lowest.{lowest}

-- numbers ascend from k on
abbrev pub ascending : ℕ → List Check → Bool
ascending k [] = true
ascending k (c ∷ cs) = leb k c.number && ascending c.number cs

-- each row of a table is in one of two others, in the same order
pub data Parted : List Check → List Check → List Check → Type 0 where
  none : Parted [] [] []
  left : {c : Check} {cs ls rs : List Check} → Parted cs ls rs → Parted (c ∷ cs) (c ∷ ls) rs
  right : {c : Check} {cs ls rs : List Check} → Parted cs ls rs → Parted (c ∷ cs) ls (c ∷ rs)

-- 0, or at least k
abbrev pub From : ℕ → ℕ → Type 0
From k n = (n ≡ 0 → ⊥) → k ≤ n

-- ---- laws of the lower of two numbers

pub lowest-none : (a b : ℕ) → lowest a b ≡ 0 → (a ≡ 0) × (b ≡ 0)
unfolding lowest
lowest-none a b e = go (ℕ_discrete a 0) (ℕ_discrete b 0)
  where
    go : Dec (a ≡ 0) → Dec (b ≡ 0) → (a ≡ 0) × (b ≡ 0)
    go (yes p) (yes q) = (p, q)
    go (yes p) (no q) = absurd (q (rw p at e))
    go (no p) (yes q) = absurd (p (rw (ne_eqb a 0 p, q) at e))
    go (no p) (no q) = absurd (either (ltb b a) (rw (ne_eqb a 0 p, ne_eqb b 0 q) at e))
      where
        either : (t : Bool) → cond t b a ≡ 0 → ⊥
        either true z = q z
        either false z = p z

pub lowest-left : (a b : ℕ) → 0 < a → From a b → lowest a b ≡ a
unfolding lowest
lowest-left a b p f = go (ℕ_discrete b 0)
  where
    nonzero : eqb a 0 ≡ false
    nonzero = ne_eqb a 0 (λ e. omega arith)

    go : Dec (b ≡ 0) → lowest a b ≡ a
    go (yes z) = rw (nonzero, z)
    go (no z) = rw (nonzero, ne_eqb b 0 z, le-ltb b a (f z))

pub lowest-right : (a b : ℕ) → 0 < b → From b a → lowest a b ≡ b
unfolding lowest
lowest-right a b p f = go (ℕ_discrete a 0)
  where
    nonzero : eqb b 0 ≡ false
    nonzero = ne_eqb b 0 (λ e. omega arith)

    least : (t : Bool) → ltb b a ≡ t → b ≤ a → cond t b a ≡ b
    least true e l = refl
    least false e l = omega (arith, ltb-false b a e)

    go : Dec (a ≡ 0) → lowest a b ≡ b
    go (yes z) = rw z
    go (no z) = rw (ne_eqb a 0 z, nonzero) (least (ltb b a) refl (f z))

-- ---- laws of tables

-- a table whose numbers ascend from k on has no lower number
pub ascending-from : (k : ℕ) (cs : List Check) → ascending k cs ≡ true → From k (first_of cs)
ascending-from k [] e z = absurd (z refl)
ascending-from k (c ∷ cs) e z =
    row (applies c) (leb-true _ _ (and_first (leb k c.number) _ e)) (ascending-from c.number cs (and_second (leb k c.number) _ e)) z
  where
    row : (t : Bool) → k ≤ c.number → From c.number (first_of cs) → From k (cond t c.number (first_of cs))
    row true l f z = l
    row false l f z = omega (arith, l, f z)

-- the number of the whole table is the lower of the parts', and neither is below k
pub record Taken (k whole ls rs : ℕ) : Type 0 where
  pub lower : whole ≡ lowest ls rs
  pub left-from : From k ls
  pub right-from : From k rs

later : (k n m : ℕ) → k ≤ n → From n m → From k m
later k n m l f z = omega (arith, l, f z)

on-left : (t : Bool) (k n whole ls rs : ℕ) → 0 < k → k ≤ n → Taken n whole ls rs → Taken k (cond t n whole) (cond t n ls) rs
on-left true k n whole ls rs p l h = record { lower = sym (lowest-left n rs (omega arith) h.right-from); left-from = λ z. l; right-from = later k n rs l h.right-from }
on-left false k n whole ls rs p l h = record { lower = h.lower; left-from = later k n ls l h.left-from; right-from = later k n rs l h.right-from }

on-right : (t : Bool) (k n whole ls rs : ℕ) → 0 < k → k ≤ n → Taken n whole ls rs → Taken k (cond t n whole) ls (cond t n rs)
on-right true k n whole ls rs p l h = record { lower = sym (lowest-right ls n (omega arith) h.left-from); left-from = later k n ls l h.left-from; right-from = λ z. l }
on-right false k n whole ls rs p l h = record { lower = h.lower; left-from = later k n ls l h.left-from; right-from = later k n rs l h.right-from }

-- A table with ascending numbers, split into two.
taken : (k : ℕ) {cs ls rs : List Check} → Parted cs ls rs → 0 < k → ascending k cs ≡ true → Taken k (first_of cs) (first_of ls) (first_of rs)
unfolding lowest
taken k none p e = record { lower = refl; left-from = λ z. absurd (z refl); right-from = λ z. absurd (z refl) }
taken k (left {c} h) p e =
    let l : k ≤ c.number = leb-true _ _ (and_first (leb k c.number) _ e) in
    on-left (applies c) k c.number _ _ _ p l (taken c.number h (omega arith) (and_second (leb k c.number) _ e))
taken k (right {c} h) p e =
    let l : k ≤ c.number = leb-true _ _ (and_first (leb k c.number) _ e) in
    on-right (applies c) k c.number _ _ _ p l (taken c.number h (omega arith) (and_second (leb k c.number) _ e))

pub first-lowest : {cs ls rs : List Check} → Parted cs ls rs → ascending 1 cs ≡ true → first_of cs ≡ lowest (first_of ls) (first_of rs)
first-lowest h e = (taken 1 h (omega arith) e).lower

-- for the lower of two refusals
pub ruleset lowest_rules = (number-positive)
