-- Tables of checks: the number is 0 exactly where no check applies, and rows are found by name. Assumes nothing.
use mathlib.Core.Path.{◌≡◌, refl, sym}
use mathlib.Core.Bool.{Bool, true, false, true≢false, not, ◌&&◌}
use mathlib.Core.List.{List, [], ◌∷◌}
use Prim.Native.Nat.{◌<◌}
use native.Mathlib.Omega.{arith}
use lib.Dec.{T, ltb, ltb→lt}
use lib.Ieee.Fits.{and_l, and_r}
use Rattle.refusals.specs.Checks.{Check, first_of}

-- ---- tests

pub is_true : (b : Bool) → T b → b ≡ true
is_true true t = refl
is_true false t = absurd t

pub of-true : (b : Bool) → b ≡ true → T b
of-true true e = tt
of-true false e = absurd (true≢false (sym e))

-- a table entry `not b` that does not apply: b holds
pub met : (b : Bool) → not b ≡ false → T b
met true e = tt
met false e = absurd (true≢false e)

-- the same where the entry needs a value that is in range
pub met-given : (needs b : Bool) → (needs && not b) ≡ false → T needs → T b
met-given true b e t = met b e
met-given false b e t = absurd t

-- ---- tables

-- every check of the table has a number above 0
abbrev pub numbered : List Check → Bool
numbered [] = true
numbered (c ∷ cs) = ltb 0 c.number && numbered cs

-- no check applies
abbrev pub NoneApplies : List Check → Type 0
NoneApplies [] = Unit {0}
NoneApplies (c ∷ cs) = ((c.needs && c.fault) ≡ false) × NoneApplies cs

pub zero-none : (cs : List Check) → T (numbered cs) → first_of cs ≡ 0 → NoneApplies cs
zero-none [] t e = tt
zero-none (c ∷ cs) t e = go (λ z. zero-none cs (and_r (ltb 0 c.number) (numbered cs) t) z) (c.needs && c.fault) refl
  where
    above : 0 < c.number
    above = ltb→lt 0 c.number (and_l (ltb 0 c.number) (numbered cs) t)

    go : (first_of cs ≡ 0 → NoneApplies cs) → (b : Bool) → (c.needs && c.fault) ≡ b → NoneApplies (c ∷ cs)
    go rest true p = let z : c.number ≡ 0 = rw p at e in absurd (omega (arith, above))
    go rest false p = (p, rest (rw p at e))

pub none-zero : (cs : List Check) → NoneApplies cs → first_of cs ≡ 0
none-zero [] n = refl
none-zero (c ∷ cs) n = rw n.0 (none-zero cs n.1)
