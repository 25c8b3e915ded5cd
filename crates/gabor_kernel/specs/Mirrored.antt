-- The standard's rule for the Gabor-like filter (ISO/IEC 18181-1), a mirrored 3 × 3 kernel, compared with the sixteen formulas in exact arithmetic: the coefficient of each sample.
use Rattle.std.specs.Prelude.{◌≡◌, Bool, false, cond, not, ◌&&◌, List, [], ◌∷◌, ◌++◌, map, ℕ, suc, ◌+◌, ◌<◌, T, eqb, ℤ, pos, negsuc, ◌+ℤ◌}
use Rattle.mirror.specs.Mirror.{mirror}
use Rattle.gabor_kernel.specs.Ends.{End, only, first, last, inner, stands}
use Rattle.gabor_kernel.specs.Gabor.{alone}
use Rattle.gabor_kernel.specs.Formula.{Formula, one, two, three, w0, w1, sample, ◌⊞◌, ◌⊠◌, up, down, left, right, formula}

-- ---- the standard's kernel (ISO/IEC 18181-1, Gabor-like filter): the centre has weight 1, side neighbours w0, diagonal neighbours w1; neighbours are mirrored

-- the offset of the sample to which the neighbour at offset −1, 0 or 1 is mirrored
unfoldable pub fold : End → ℤ → ℤ
fold only d = pos 0
fold first (pos n) = pos n
fold first (negsuc n) = pos 0
fold last (pos n) = pos 0
fold last (negsuc n) = negsuc n
fold inner d = d

abbrev pub mirrored_kernel : End → End → Formula
mirrored_kernel col row =
    at (pos 0) (pos 0)
    ⊞ (at (pos 0) up ⊞ at left (pos 0) ⊞ at right (pos 0) ⊞ at (pos 0) down) ⊠ w0
    ⊞ (at left up ⊞ at right up ⊞ at left down ⊞ at right down) ⊠ w1
  where
    at : ℤ → ℤ → Formula
    at dx dy = sample (fold col dx) (fold row dy)

-- `fold` is the mirror, for each index x among n and the offsets −1, 0 and 1
abbrev pub FoldMirrors : Type 0
FoldMirrors = (n x : ℕ) → x < n → (pos x +ℤ fold (stands n x) (negsuc 0) ≡ pos (mirror (pos x +ℤ negsuc 0) n))
    × (pos x +ℤ fold (stands n x) (pos 0) ≡ pos (mirror (pos x +ℤ pos 0) n))
    × (pos x +ℤ fold (stands n x) (pos 1) ≡ pos (mirror (pos x +ℤ pos 1) n))

-- ---- exact expansion

-- a product: powers of w0 and of w1, and samples
pub record Term : Type 0 where
  pub sides : ℕ
  pub diagonals : ℕ
  pub reads : List (ℤ × ℤ)

abbrev pub constant : Term
constant = record { sides = 0; diagonals = 0; reads = [] }

abbrev pub times : Term → Term → Term
times s t = record { sides = s.sides + t.sides; diagonals = s.diagonals + t.diagonals; reads = s.reads ++ t.reads }

abbrev pub products : List Term → List Term → List Term
products [] ts = []
products (s ∷ ss) ts = map (times s) ts ++ products ss ts

-- the expansion of a formula: products whose sum it is
unfoldable pub expand : Formula → List Term
expand one = constant ∷ []
expand two = constant ∷ constant ∷ []
expand three = constant ∷ constant ∷ constant ∷ []
expand w0 = record { sides = 1; diagonals = 0; reads = [] } ∷ []
expand w1 = record { sides = 0; diagonals = 1; reads = [] } ∷ []
expand (sample dx dy) = record { sides = 0; diagonals = 0; reads = (dx, dy) ∷ [] } ∷ []
expand (f ⊞ g) = expand f ++ expand g
expand (f ⊠ g) = products (expand f) (expand g)

-- ---- coefficients

abbrev pub same : ℤ → ℤ → Bool
same (pos m) (pos n) = eqb m n
same (pos m) (negsuc n) = false
same (negsuc m) (pos n) = false
same (negsuc m) (negsuc n) = eqb m n

abbrev pub reads_only : List (ℤ × ℤ) → ℤ → ℤ → Bool
reads_only [] dx dy = false
reads_only (o ∷ []) dx dy = same o.0 dx && same o.1 dy
reads_only (o ∷ p ∷ os) dx dy = false

-- the number of terms w0^i × w1^j × the sample at (dx, dy)
abbrev pub count : List Term → ℕ → ℕ → ℤ → ℤ → ℕ
count [] i j dx dy = 0
count (t ∷ ts) i j dx dy = cond ((eqb t.sides i && eqb t.diagonals j) && reads_only t.reads dx dy) 1 0 + count ts i j dx dy

-- (a, b, c) for a + b w0 + c w1
abbrev pub Coefficient : Type 0
Coefficient = ℕ × ℕ × ℕ

abbrev pub coefficient : Formula → ℤ → ℤ → Coefficient
coefficient f dx dy = (count (expand f) 0 0 dx dy, count (expand f) 1 0 dx dy, count (expand f) 0 1 dx dy)

-- the coefficients of the nine samples, row by row
abbrev pub coefficients : Formula → List Coefficient
coefficients f =
    coefficient f left up ∷ coefficient f (pos 0) up ∷ coefficient f right up
    ∷ coefficient f left (pos 0) ∷ coefficient f (pos 0) (pos 0) ∷ coefficient f right (pos 0)
    ∷ coefficient f left down ∷ coefficient f (pos 0) down ∷ coefficient f right down ∷ []

-- the number of terms that these coefficients represent
abbrev pub counted : List Coefficient → ℕ
counted [] = 0
counted (c ∷ cs) = c.0 + c.1 + c.2 + counted cs

-- there are no other terms
abbrev pub Linear : Formula → Type 0
Linear f = counted (coefficients f) ≡ number (expand f)
  where
    number : List Term → ℕ
    number [] = 0
    number (t ∷ ts) = suc (number ts)

-- ---- the statements, proved in proofs/Mirrored.antt

-- the formula has the coefficients of the mirrored kernel, and no other terms
abbrev pub IsMirrored : End → End → Type 0
IsMirrored col row = (coefficients (formula col row) ≡ coefficients (mirrored_kernel col row)) × Linear (formula col row)

-- in each case of the column and of the row but that of a single sample
abbrev pub KernelMirrored : Type 0
KernelMirrored = (col row : End) → T (not (alone col row)) → IsMirrored col row

-- a single sample: the mirrored kernel gives it the weight 1 + 4 w0 + 4 w1, which is the divisor too, so it is copied
abbrev pub AloneCopied : Type 0
AloneCopied = (coefficients (mirrored_kernel only only) ≡ none ∷ none ∷ none ∷ none ∷ (1, 4, 4) ∷ none ∷ none ∷ none ∷ none ∷ []) × Linear (mirrored_kernel only only)
  where
    none : Coefficient
    none = (0, 0, 0)
