-- The slopes that the loops store are those of the definition; loop invariants. Assumes nothing.
use mathlib.Core.Path.{◌≡◌, refl, sym, ap, ◌∙◌}
use mathlib.Core.Bool.{Bool, true, false, cond}
use mathlib.Core.List.{List}
use Prim.Native.Nat.{ℕ, ◌+◌, ◌*◌, ◌/◌, ◌%◌, ◌<◌, ◌≤◌}
use native.Mathlib.Omega.{arith}
use borrow.Author.Tests.{le-leb}
use lib.ListN.{length, get_or}
use lib.Ieee.{Float, nan}
use Rattle.planes.specs.Samples.{◌⊗◌, ◌⊘◌}
use Rattle.planes.specs.Fill.{fill}
use Rattle.planes.proofs.Fill.{length-fill, fill-then, fill-before, fill-at}
use Rattle.epf_step.specs.Steps.{falloff, border, multiplier}
use Rattle.epf_slopes.specs.Slopes.{slope_at, first_slope, slopes_of, Sloped}

-- ---- the loops

-- only row and column modulo 8 matter
pub multiplier-same : (m b : Float) (row row' col col' : ℕ) → border row ≡ border row' → col % 8 ≡ col' % 8 → multiplier m b row col ≡ multiplier m b row' col'
unfolding multiplier border
multiplier-same m b row row' col col' p q = rw (p, q)

-- one more block
pub block-next : (sigmas d a b : List Float) (first at k : ℕ) (scale edge s : Float) (row : ℕ) → a ≡ fill d at (k * 8) (slope_at sigmas first scale edge row) → s ≡ falloff ⊘ get_or sigmas (first + k) nan
    → b ≡ fill a (at + k * 8) 8 (λ i. s ⊗ multiplier scale edge row i) → b ≡ fill d at ((k + 1) * 8) (slope_at sigmas first scale edge row)
unfolding slope_at
block-next sigmas d a b first at k scale edge s row ea es eb =
    let z : (k + 1) * 8 ≡ k * 8 + 8 = omega arith in
    rw z (eb ∙ rw ea (fill-then d at (k * 8) 8 _ _ _ (λ i l. refl) (λ i l.
    let q : (k * 8 + i) / 8 ≡ k = omega arith in
    rw (es, q, multiplier-same scale edge row row i (k * 8 + i) refl (omega arith)))))

-- ---- the slopes of a tile whose arguments fit
module _ (sigmas : List Float) (first blocks : ℕ) (scale edge : Float) (d : List Float) where
  pub slopes-done : blocks ≤ 8 → first + blocks ≤ length sigmas
      → slopes_of sigmas first blocks scale edge d ≡ fill (fill d 0 (blocks * 8) (slope_at sigmas first scale edge 1)) 64 (blocks * 8) (slope_at sigmas first scale edge 0)
  unfolding slopes_of
  slopes-done h k = rw (le-leb blocks 8 h, le-leb (first + blocks) (length sigmas) k)

pub sloped : (sigmas d b : List Float) (first blocks : ℕ) (scale edge : Float) → blocks ≤ 8 → first + blocks ≤ length sigmas → length d ≡ 128
    → b ≡ slopes_of sigmas first blocks scale edge d → Sloped sigmas first blocks scale edge b
sloped sigmas d b first blocks scale edge few room len e =
    let a = fill d 0 (blocks * 8) (slope_at sigmas first scale edge 1) in
    let la : length a ≡ 128 = length-fill d 0 (blocks * 8) _ ∙ len in
    let eb : b ≡ fill a 64 (blocks * 8) (slope_at sigmas first scale edge 0) = e ∙ slopes-done sigmas first blocks scale edge d few room in
    record {
      slopes-length = ap length eb ∙ length-fill a 64 (blocks * 8) _ ∙ la;
      inner = λ i h. rw eb (fill-before a 64 (blocks * 8) _ (0 + i) (omega arith) ∙ fill-at d 0 (blocks * 8) _ i (omega arith) h);
      outer = λ i h. rw eb (fill-at a 64 (blocks * 8) _ i (omega arith) h);
    }

border-0 : border 0 ≡ true
unfolding border
border-0 = refl

border-1 : border 1 ≡ false
unfolding border
border-1 = refl

-- the slope of a column, by its row y
pub slope-of : (sigmas slopes : List Float) (first blocks : ℕ) (scale edge : Float) (row i : ℕ) → Sloped sigmas first blocks scale edge slopes → i < blocks * 8
    → get_or slopes (first_slope row + i) nan ≡ falloff ⊘ get_or sigmas (first + i / 8) nan ⊗ multiplier scale edge row i
unfolding slope_at
slope-of sigmas slopes first blocks scale edge row i s h = go (border row) refl
  where
    go : (b : Bool) → border row ≡ b → get_or slopes (cond b 64 0 + i) nan ≡ falloff ⊘ get_or sigmas (first + i / 8) nan ⊗ multiplier scale edge row i
    go true e = s.outer i h ∙ rw (multiplier-same scale edge 0 row i i (border-0 ∙ sym e) refl)
    go false e = s.inner i h ∙ rw (multiplier-same scale edge 1 row i i (border-1 ∙ sym e) refl)

-- only the row modulo 8 matters
pub first-same : (k top r : ℕ) → k ≡ first_slope (top % 8 + r) → k ≡ first_slope (top + r)
unfolding border
first-same k top r e = let z : (top % 8 + r) % 8 ≡ (top + r) % 8 = omega arith in e ∙ rw z
