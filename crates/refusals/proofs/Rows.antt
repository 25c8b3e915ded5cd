-- Rows of a table of checks by name: none that applies if the number is 0, the first that applies otherwise; and tables one after another. Assumes nothing.
use mathlib.Core.Path.{◌≡◌, refl, sym, ap, ◌∙◌}
use mathlib.Core.Bool.{Bool, true, false, cond}
use mathlib.Core.List.{List, [], ◌∷◌, ◌++◌}
use Prim.Native.Nat.{ℕ, ◌<◌}
use native.Mathlib.Omega.{arith}
use borrow.Author.Tests.{eqb-true, ne_eqb}
use lib.Dec.{T, eqb, ltb, ltb→lt}
use lib.Ieee.Fits.{and_l, and_r}
use Rattle.refusals.specs.Checks.{Check, applies, first_of}
use Rattle.refusals.proofs.Tables.{numbered, NoneApplies, zero-none}

-- ---- a row anywhere in a table: `search (here, below)` finds it

pub data Row (c : Check) : List Check → Type 0 where
  here : {cs : List Check} → Row c (c ∷ cs)
  below : {d : Check} {cs : List Check} → Row c cs → Row c (d ∷ cs)

none-at : {c : Check} {cs : List Check} → Row c cs → NoneApplies cs → applies c ≡ false
none-at here n = n.0
none-at (below r) n = none-at r n.1

-- if the table's number is 0, the row does not apply
pub row-passed : (cs : List Check) → T (numbered cs) → first_of cs ≡ 0 → (c : Check) → Row c cs → applies c ≡ false
row-passed cs t e c r = none-at r (zero-none cs t e)

-- ---- the first row that applies: `search (found, after)` finds it from what the rows before it say

pub data First (c : Check) : List Check → Type 0 where
  found : {cs : List Check} → applies c ≡ true → First c (c ∷ cs)
  after : {d : Check} {cs : List Check} → applies d ≡ false → First c cs → First c (d ∷ cs)

number_of : {c : Check} {cs : List Check} → First c cs → first_of cs ≡ c.number
number_of (found e) = rw e
number_of (after e r) = rw e (number_of r)

-- the table's number is that row's
pub first-number : (cs : List Check) (c : Check) → First c cs → first_of cs ≡ c.number
first-number cs c r = number_of r

-- ---- a table without some of the rows that do not apply: `search (none, keep, drop)`

pub data Without : List Check → List Check → Type 0 where
  none : Without [] []
  keep : {c : Check} {cs ds : List Check} → Without cs ds → Without (c ∷ cs) (c ∷ ds)
  drop : {c : Check} {cs ds : List Check} → applies c ≡ false → Without cs ds → Without (c ∷ cs) ds

number-kept : {cs ds : List Check} → Without cs ds → first_of cs ≡ first_of ds
number-kept none = refl
number-kept (keep {c} w) = ap (λ (k : ℕ). cond (applies c) c.number k) (number-kept w)
number-kept (drop e w) = rw e (number-kept w)

-- both tables have the same number
pub same_number : (cs ds : List Check) → Without cs ds → first_of cs ≡ first_of ds
same_number cs ds w = number-kept w

-- ---- one table after another: the number of the first or, if that is 0, of the second

-- a, or b if a is 0
abbrev pub or_else : ℕ → ℕ → ℕ
or_else a b = cond (eqb a 0) b a

pub first-joined : (xs ys : List Check) → T (numbered xs) → first_of (xs ++ ys) ≡ or_else (first_of xs) (first_of ys)
first-joined [] ys t = refl
first-joined (c ∷ xs) ys t = go (applies c) (first-joined xs ys (and_r (ltb 0 c.number) (numbered xs) t))
  where
    above : 0 < c.number
    above = ltb→lt 0 c.number (and_l (ltb 0 c.number) (numbered xs) t)

    nonzero : eqb c.number 0 ≡ false
    nonzero = ne_eqb c.number 0 (λ z. omega (arith, above, z))

    go : (b : Bool) → first_of (xs ++ ys) ≡ or_else (first_of xs) (first_of ys)
        → cond b c.number (first_of (xs ++ ys)) ≡ or_else (cond b c.number (first_of xs)) (first_of ys)
    go true e = rw nonzero
    go false e = e

pub or-zero : (a : ℕ) → or_else a 0 ≡ a
or-zero a = go (eqb a 0) refl
  where
    go : (b : Bool) → eqb a 0 ≡ b → cond b 0 a ≡ a
    go true e = sym (eqb-true a 0 e)
    go false e = refl

or-none : (a b : ℕ) → or_else a b ≡ 0 → a ≡ 0
or-none a b e = go (eqb a 0) refl e
  where
    go : (t : Bool) → eqb a 0 ≡ t → cond t b a ≡ 0 → a ≡ 0
    go true p q = eqb-true a 0 p
    go false p q = q

pub joined-none : (xs ys : List Check) → T (numbered xs) → first_of (xs ++ ys) ≡ 0 → first_of xs ≡ 0
joined-none xs ys t e = or-none (first_of xs) (first_of ys) (sym (first-joined xs ys t) ∙ e)

-- 0 from the first: the number is that of the second
pub joined-passed : (xs ys : List Check) → T (numbered xs) → first_of xs ≡ 0 → first_of (xs ++ ys) ≡ first_of ys
joined-passed xs ys t e = first-joined xs ys t ∙ rw e

-- another number is that of both
pub joined-refused : (xs ys : List Check) → T (numbered xs) → (first_of xs ≡ 0 → ⊥) → first_of (xs ++ ys) ≡ first_of xs
joined-refused xs ys t h = first-joined xs ys t ∙ rw (ne_eqb (first_of xs) 0 h)
