-- The rule behind the lists of offsets (ISO/IEC 18181-1, edge-preserving filter; Specification 11.10): which offsets a step has, each
-- exactly once. The lists `kernel` and `dists` have them in the original's order. proofs/Offsets.antt proves the statements.
use Rattle.std.specs.Prelude.{◌≡◌, Bool, false, cond, ◌&&◌, List, [], ◌∷◌, ℕ, zero, suc, ◌+◌, ltb, leb, eqb, ℤ, pos, negsuc, nat_abs}
use Rattle.epf_step.specs.Steps.{Offset, kernel, dists}

-- |dx| + |dy|
abbrev pub taxicab : Offset → ℕ
taxicab o = nat_abs o.0 + nat_abs o.1

-- the neighbours that a step weighs: |dx| + |dy| is 1 or 2 in step 0, and 1 in steps 1 and 2
abbrev pub is_neighbour : ℕ → Offset → Bool
is_neighbour zero o = ltb 0 (taxicab o) && leb (taxicab o) 2
is_neighbour (suc s) o = eqb (taxicab o) 1

-- where a distance compares samples: |dx| + |dy| is 0 or 1 in steps 0 and 1, and 0 in step 2
abbrev pub is_compared : ℕ → Offset → Bool
is_compared zero o = leb (taxicab o) 1
is_compared (suc zero) o = leb (taxicab o) 1
is_compared (suc (suc s)) o = eqb (taxicab o) 0

abbrev pub same_number : ℤ → ℤ → Bool
same_number (pos m) (pos n) = eqb m n
same_number (pos m) (negsuc n) = false
same_number (negsuc m) (pos n) = false
same_number (negsuc m) (negsuc n) = eqb m n

-- how often an offset occurs in a list
unfoldable pub occurrences : Offset → List Offset → ℕ
occurrences o [] = 0
occurrences o (k ∷ ks) = cond (same_number o.0 k.0 && same_number o.1 k.1) 1 0 + occurrences o ks

-- ---- the statements

-- every offset, of any size, occurs once in the list if it is a neighbour, and never otherwise
abbrev pub KernelOffsets : Type 0
KernelOffsets = (step : ℕ) (o : Offset) → occurrences o (kernel step) ≡ cond (is_neighbour step o) 1 0

-- the same for the offsets at which a distance compares samples
abbrev pub DistanceOffsets : Type 0
DistanceOffsets = (step : ℕ) (o : Offset) → occurrences o (dists step) ≡ cond (is_compared step o) 1 0
