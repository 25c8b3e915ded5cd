-- Without rounding, the formulas are the standard's mirrored kernel, and a single sample is copied by it; `fold` is the mirror. Assumes nothing.
use mathlib.Core.Path.{◌≡◌, refl, ap}
use Prim.Native.Nat.{ℕ, ◌+◌, ◌-◌, ◌<◌}
use native.Mathlib.Decide.{ℕ_discrete}
use native.Mathlib.Omega.{arith}
use borrow.Author.Tests.{le-ltb}
use lib.IntN.{pos, negsuc, ◌+ℤ◌}
use Rattle.mirror.specs.Mirror.{mirror}
use Rattle.gabor_kernel.specs.Ends.{only, first, last, inner, stands}
use Rattle.gabor_kernel.proofs.EndLaws.{stands-only, stands-first, stands-last, stands-inner, before-first, before-other, after_last, after-other, itself}
use Rattle.gabor_kernel.specs.Gabor.{alone}
use Rattle.gabor_kernel.specs.Formula.{formula}
use Rattle.gabor_kernel.specs.Mirrored.{fold, expand, KernelMirrored, AloneCopied, FoldMirrors}

pub kernel-mirrored : KernelMirrored
unfolding fold expand formula alone
kernel-mirrored only only h = absurd h
kernel-mirrored only first h = (refl, refl)
kernel-mirrored only last h = (refl, refl)
kernel-mirrored only inner h = (refl, refl)
kernel-mirrored first only h = (refl, refl)
kernel-mirrored first first h = (refl, refl)
kernel-mirrored first last h = (refl, refl)
kernel-mirrored first inner h = (refl, refl)
kernel-mirrored last only h = (refl, refl)
kernel-mirrored last first h = (refl, refl)
kernel-mirrored last last h = (refl, refl)
kernel-mirrored last inner h = (refl, refl)
kernel-mirrored inner only h = (refl, refl)
kernel-mirrored inner first h = (refl, refl)
kernel-mirrored inner last h = (refl, refl)
kernel-mirrored inner inner h = (refl, refl)

pub alone-copied : AloneCopied
unfolding fold expand
alone-copied = (refl, refl)

plus-0 : (x : ℕ) → x + 0 ≡ x
plus-0 x = omega arith

pub fold-mirrors : FoldMirrors
unfolding fold
fold-mirrors n x h = go (ℕ_discrete n 1) (ℕ_discrete x 0) (ℕ_discrete (x + 1) n)
  where
    back : 0 < x → pos x +ℤ negsuc 0 ≡ pos (x - 1)
    back p = rw (le-ltb x 1 p)

    go : Dec (n ≡ 1) → Dec (x ≡ 0) → Dec (x + 1 ≡ n) → (pos x +ℤ fold (stands n x) (negsuc 0) ≡ pos (mirror (pos x +ℤ negsuc 0) n))
        × (pos x +ℤ fold (stands n x) (pos 0) ≡ pos (mirror (pos x +ℤ pos 0) n))
        × (pos x +ℤ fold (stands n x) (pos 1) ≡ pos (mirror (pos x +ℤ pos 1) n))
    go (yes p) q r =
        let z : x ≡ 0 = omega arith in
        let e : x + 1 ≡ n = omega arith in
        rw (stands-only n x p, itself n x h, after_last n x e) (rw (z, before-first n (omega arith)), ap pos (plus-0 x), ap pos (plus-0 x))
    go (no p) (yes q) r =
        rw (itself n x h, q, stands-first n (omega arith), before-first n (omega arith), after-other n 0 (omega arith)) (refl, refl, refl)
    go (no p) (no q) (yes r) =
        rw (stands-last n x (omega arith) r, itself n x h, after_last n x r, before-other n x (omega arith) h) (back (omega arith), ap pos (plus-0 x), ap pos (plus-0 x))
    go (no p) (no q) (no r) =
        rw (stands-inner n x (omega arith) (omega arith), itself n x h, after-other n x (omega arith), before-other n x (omega arith) h) (back (omega arith), ap pos (plus-0 x), refl)
