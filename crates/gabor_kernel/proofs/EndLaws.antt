-- Only, first, last or inner: the case of each index, and its mirrored neighbours. Assumes nothing.
use mathlib.Core.Path.{◌≡◌, ◌∙◌}
use Prim.Native.Nat.{ℕ, ◌+◌, ◌-◌, ◌<◌, ◌≤◌}
use native.Mathlib.Omega.{arith}
use borrow.Author.Tests.{eq-eqb, ne_eqb, le-ltb}
use lib.IntN.{pos, negsuc, ◌+ℤ◌}
use Rattle.mirror.specs.Mirror.{mirror}
use Rattle.mirror.proofs.Laws.{mirror-in, mirror-under, mirror-over}
use Rattle.gabor_kernel.specs.Ends.{first, inner, last, only, stands}

-- ---- each case

pub stands-only : (n x : ℕ) → n ≡ 1 → stands n x ≡ only
unfolding stands
stands-only n x p = rw (eq-eqb n 1 p)

pub stands-first : (n : ℕ) → 2 ≤ n → stands n 0 ≡ first
unfolding stands
stands-first n p = rw (ne_eqb n 1 (λ (e : n ≡ 1). omega arith))

pub stands-last : (n x : ℕ) → 2 ≤ n → x + 1 ≡ n → stands n x ≡ last
unfolding stands
stands-last n x p q = rw (ne_eqb n 1 (λ (e : n ≡ 1). omega arith), ne_eqb x 0 (λ (e : x ≡ 0). omega arith), eq-eqb (x + 1) n q)

pub stands-inner : (n x : ℕ) → 0 < x → x + 1 < n → stands n x ≡ inner
unfolding stands
stands-inner n x p q = rw (ne_eqb n 1 (λ (e : n ≡ 1). omega arith), ne_eqb x 0 (λ (e : x ≡ 0). omega arith), ne_eqb (x + 1) n (λ (e : x + 1 ≡ n). omega arith))

-- ---- the mirrored neighbours of index x among n

pub before-first : (n : ℕ) → 0 < n → mirror (pos 0 +ℤ negsuc 0) n ≡ 0
before-first n p = mirror-under n 0 p

pub before-other : (n x : ℕ) → 0 < x → x < n → mirror (pos x +ℤ negsuc 0) n ≡ x - 1
before-other n x p q = rw (le-ltb x 1 p) (mirror-in n (x - 1) (omega arith))

pub after_last : (n x : ℕ) → x + 1 ≡ n → mirror (pos x +ℤ pos 1) n ≡ x
after_last n x p = mirror-over n (x + 1) (omega arith) (omega arith) ∙ omega arith

pub after-other : (n x : ℕ) → x + 1 < n → mirror (pos x +ℤ pos 1) n ≡ x + 1
after-other n x p = mirror-in n (x + 1) p

pub itself : (n x : ℕ) → x < n → mirror (pos x +ℤ pos 0) n ≡ x
itself n x p = let e : x + 0 ≡ x = omega arith in rw e (mirror-in n x p)
