-- The meaning of the formulas and their expansions in exact arithmetic, compared with the standard's mirrored kernel (ISO/IEC 18181-1, Gabor-like filter).
-- proofs/Exact.antt proves the statements.
use Rattle.std.specs.Prelude.{◌≡◌, not, List, [], ◌∷◌, ℕ, zero, suc, T, ℤ, pos, ◌+ℤ◌, ◌*ℤ◌}
use Rattle.gabor_kernel.specs.Ends.{End}
use Rattle.gabor_kernel.specs.Gabor.{alone}
use Rattle.gabor_kernel.specs.Formula.{Formula, one, two, three, w0, w1, sample, ◌⊞◌, ◌⊠◌, up, down, left, right, formula}
use Rattle.gabor_kernel.specs.Mirrored.{Term, expand, mirrored_kernel, Coefficient, coefficient}

-- ---- numbers that are added and multiplied without rounding

pub record Arithmetic : Type 1 where
  pub Number : Type 0
  pub nought : Number
  pub unit : Number
  pub add : Number → Number → Number
  pub mul : Number → Number → Number

-- the laws of a commutative semiring, which integers, rationals and reals have
pub record Exact (R : Arithmetic) : Type 0 where
  pub add-nought : (a : R.Number) → R.add R.nought a ≡ a
  pub add_comm : (a b : R.Number) → R.add a b ≡ R.add b a
  pub add_assoc : (a b c : R.Number) → R.add (R.add a b) c ≡ R.add a (R.add b c)
  pub mul-nought : (a : R.Number) → R.mul R.nought a ≡ R.nought
  pub mul-unit : (a : R.Number) → R.mul R.unit a ≡ a
  pub mul_comm : (a b : R.Number) → R.mul a b ≡ R.mul b a
  pub mul_assoc : (a b c : R.Number) → R.mul (R.mul a b) c ≡ R.mul a (R.mul b c)
  pub mul-add : (a b c : R.Number) → R.mul (R.add a b) c ≡ R.add (R.mul a c) (R.mul b c)

abbrev pub integers : Arithmetic
integers = record { Number = ℤ; nought = pos 0; unit = pos 1; add = ◌+ℤ◌; mul = ◌*ℤ◌ }

unfoldable pub power : (R : Arithmetic) → R.Number → ℕ → R.Number
power R x zero = R.unit
power R x (suc n) = R.mul x (power R x n)

unfoldable pub multiple : (R : Arithmetic) → ℕ → R.Number → R.Number
multiple R zero x = R.nought
multiple R (suc n) x = R.add x (multiple R n x)

-- the offsets of the nine samples, row by row
abbrev pub nine_offsets : List (ℤ × ℤ)
nine_offsets = (left, up) ∷ (pos 0, up) ∷ (right, up) ∷ (left, pos 0) ∷ (pos 0, pos 0) ∷ (right, pos 0) ∷ (left, down) ∷ (pos 0, down) ∷ (right, down) ∷ []

-- ---- values, with weights a and b and the sample v dx dy at offset (dx, dy)

module _ (R : Arithmetic) (a b : R.Number) (v : ℤ → ℤ → R.Number) where
  -- of a formula: `evaluate` without rounding
  unfoldable pub exactly : Formula → R.Number
  exactly one = R.unit
  exactly two = R.add R.unit R.unit
  exactly three = R.add R.unit (R.add R.unit R.unit)
  exactly w0 = a
  exactly w1 = b
  exactly (sample dx dy) = v dx dy
  exactly (f ⊞ g) = R.add (exactly f) (exactly g)
  exactly (f ⊠ g) = R.mul (exactly f) (exactly g)

  -- of a term: the product of its factors
  unfoldable pub read_product : List (ℤ × ℤ) → R.Number
  read_product [] = R.unit
  read_product (o ∷ os) = R.mul (v o.0 o.1) (read_product os)

  abbrev pub term_value : Term → R.Number
  term_value t = R.mul (R.mul (power R a t.sides) (power R b t.diagonals)) (read_product t.reads)

  -- of an expansion: the sum of its terms
  unfoldable pub sum_of : List Term → R.Number
  sum_of [] = R.nought
  sum_of (t ∷ ts) = R.add (term_value t) (sum_of ts)

  -- a coefficient times its sample
  abbrev pub weighted : Coefficient → ℤ × ℤ → R.Number
  weighted c o = R.mul (R.add (multiple R c.0 R.unit) (R.add (multiple R c.1 a) (multiple R c.2 b))) (v o.0 o.1)

  -- the sum of samples, each times its coefficient in a formula
  unfoldable pub weighted_sum : Formula → List (ℤ × ℤ) → R.Number
  weighted_sum f [] = R.nought
  weighted_sum f (o ∷ os) = R.add (weighted (coefficient f o.0 o.1) o) (weighted_sum f os)

  -- a formula is the sum of the nine samples, each times its coefficient
  abbrev pub Weighs : Formula → Type 0
  Weighs f = exactly f ≡ weighted_sum f nine_offsets

  -- the formula for this column and row equals the mirrored kernel
  abbrev pub AsMirrored : End → End → Type 0
  AsMirrored col row = exactly (formula col row) ≡ exactly (mirrored_kernel col row)

-- ---- the statements

-- a formula's value is the sum of its expansion
abbrev pub ExpansionSums : Type 1
ExpansionSums = (R : Arithmetic) → Exact R → (a b : R.Number) (v : ℤ → ℤ → R.Number) (f : Formula) → exactly R a b v f ≡ sum_of R a b v (expand f)

-- so each formula, and the mirrored kernel in each case, is the sum of the nine samples times their coefficients
abbrev pub CoefficientsWeigh : Type 1
CoefficientsWeigh = (R : Arithmetic) → Exact R → (a b : R.Number) (v : ℤ → ℤ → R.Number) (col row : End)
    → Weighs R a b v (formula col row) × Weighs R a b v (mirrored_kernel col row)

-- without rounding, each formula but that of a single sample, which is copied, has the value of the mirrored kernel
abbrev pub FormulasMirrored : Type 1
FormulasMirrored = (R : Arithmetic) → Exact R → (a b : R.Number) (v : ℤ → ℤ → R.Number) (col row : End) → T (not (alone col row)) → AsMirrored R a b v col row

-- the integers satisfy these laws
abbrev pub IntegersExact : Type 0
IntegersExact = Exact integers
