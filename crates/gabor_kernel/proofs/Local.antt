-- The filter reads only a sample and its eight neighbours. Assumes nothing.
use mathlib.Core.Path.{◌≡◌, refl}
use mathlib.Core.Bool.{Bool, true, ◌&&◌}
use Prim.Native.Nat.{◌≤◌}
use native.Mathlib.Omega.{arith}
use lib.Dec.{T, leb, leb→le}
use lib.IntN.{ℤ, pos, nat_abs}
use lib.Ieee.{Float}
use lib.Ieee.Fits.{and_l, and_r}
use Rattle.gabor_kernel.specs.Ends.{End, only, first, last, inner}
use Rattle.gabor_kernel.specs.Formula.{Formula, one, two, three, w0, w1, sample, ◌⊞◌, ◌⊠◌, evaluate, formula}
use Rattle.gabor_kernel.specs.Gabor.{gabor_by}
use Rattle.gabor_kernel.specs.declared.Kernel.{Kernel}

-- two samples with the same neighbours at most one column and one row away
abbrev pub Alike : (ℤ → ℤ → Float) → (ℤ → ℤ → Float) → Type 0
Alike u v = (dx dy : ℤ) → nat_abs dx ≤ 1 → nat_abs dy ≤ 1 → u dx dy ≡ v dx dy

-- each sample that a formula reads is at most one column and one row away
unfoldable pub near : Formula → Bool
near one = true
near two = true
near three = true
near w0 = true
near w1 = true
near (sample dx dy) = leb (nat_abs dx) 1 && leb (nat_abs dy) 1
near (f ⊞ g) = near f && near g
near (f ⊠ g) = near f && near g

pub formulas-near : (col row : End) → T (near (formula col row))
unfolding near formula
formulas-near only only = tt
formulas-near only first = tt
formulas-near only last = tt
formulas-near only inner = tt
formulas-near first only = tt
formulas-near first first = tt
formulas-near first last = tt
formulas-near first inner = tt
formulas-near last only = tt
formulas-near last first = tt
formulas-near last last = tt
formulas-near last inner = tt
formulas-near inner only = tt
formulas-near inner first = tt
formulas-near inner last = tt
formulas-near inner inner = tt

module _ (a b : Float) (u v : ℤ → ℤ → Float) (alike : Alike u v) where
  evaluate-same : (f : Formula) → T (near f) → evaluate a b u f ≡ evaluate a b v f
  unfolding near evaluate
  evaluate-same one t = refl
  evaluate-same two t = refl
  evaluate-same three t = refl
  evaluate-same w0 t = refl
  evaluate-same w1 t = refl
  evaluate-same (sample dx dy) t =
      alike dx dy (leb→le (nat_abs dx) 1 (and_l (leb (nat_abs dx) 1) (leb (nat_abs dy) 1) t)) (leb→le (nat_abs dy) 1 (and_r (leb (nat_abs dx) 1) (leb (nat_abs dy) 1) t))
  evaluate-same (f ⊞ g) t = rw (evaluate-same f (and_l (near f) (near g) t), evaluate-same g (and_r (near f) (near g) t))
  evaluate-same (f ⊠ g) t = rw (evaluate-same f (and_l (near f) (near g) t), evaluate-same g (and_r (near f) (near g) t))

pub gabor_by-same : (k : Kernel) (u v : ℤ → ℤ → Float) → Alike u v → (col row : End) → gabor_by k u col row ≡ gabor_by k v col row
unfolding gabor_by
gabor_by-same k u v alike col row =
    rw (alike (pos 0) (pos 0) (omega arith) (omega arith), evaluate-same k.w0 k.w1 u v alike (formula col row) (formulas-near col row))
