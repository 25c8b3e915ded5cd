-- A sample after a pass depends only on the samples within the pass's reach and on where its position lies in the area. Assumes nothing.
use mathlib.Core.Path.{◌≡◌, refl}
use Prim.Native.Nat.{ℕ, ◌+◌, ◌-◌, ◌/◌, ◌%◌, ◌<◌, ◌≤◌, min}
use native.Mathlib.Omega.{arith}
use lib.Ieee.{Float}
use lib.IntN.{ℤ, pos, nat_abs, ◌+ℤ◌}
use Rattle.mirror.specs.Mirror.{mirror}
use Rattle.mirror.proofs.Laws.{mirror-lt}
use Rattle.mirror.specs.Cut.{Deep}
use Rattle.mirror.proofs.Cut.{mirror-cut}
use Rattle.planes.specs.Picture.{Picture, around}
use Rattle.gabor_kernel.specs.Ends.{stands}
use Rattle.gabor_kernel.specs.Gabor.{gabor_pass, kernel_of, side_weight, diagonal_weight}
use Rattle.gabor_kernel.proofs.Local.{gabor_by-same}
use Rattle.epf_step.specs.Steps.{kernel, dists, border, multiplier, epf_pass, reach as step_reach}
use Rattle.epf_step.proofs.Local.{Alike, steps-near, epf-same}
use Rattle.run_passes.specs.Pass.{Area, Pass, gabor_like, edge_preserving, pass, reach}
use Rattle.run_passes.specs.Near.{IsSound, IsStep, AgreeNear}

-- ---- two positions, of one area or of two

-- A pass reads the same at column x and row y of a as at column X and row Y of b: n planes within its reach; for the Gabor-like filter,
-- whether the position is first, last, only or inner in its row and column; for a step, the block's sigma, the row's position y, and the
-- column in its block.
pub record AlikeAt (n : ℕ) (p : Pass) (a b : Area) (g G : Picture) (x y X Y : ℕ) : Type 0 where
  pub samples : Alike n (reach p) (around a.width a.height g x y) (around b.width b.height G X Y)
  pub column : (IsStep p → ⊥) → stands a.width x ≡ stands b.width X
  pub row : (IsStep p → ⊥) → stands a.height y ≡ stands b.height Y
  pub sigma : IsStep p → a.sigma (x / 8) (y / 8) ≡ b.sigma (X / 8) (Y / 8)
  pub image-row : IsStep p → a.top + y ≡ b.top + Y
  pub in_block : IsStep p → x % 8 ≡ X % 8

-- only the column modulo 8 matters
multiplier-column : (m b : Float) (row x X : ℕ) → x % 8 ≡ X % 8 → multiplier m b row x ≡ multiplier m b row X
unfolding multiplier border
multiplier-column m b row x X e = rw e

-- then the samples after the pass are the same
pub pass-alike : (n : ℕ) (p : Pass) → IsSound n p → (a b : Area) (g G : Picture) (x y X Y : ℕ) → AlikeAt n p a b g G x y X Y → (c : ℕ) → c < n → pass a p g c x y ≡ pass b p G c X Y
unfolding pass reach IsSound IsStep gabor_pass epf_pass
pass-alike n (gabor_like ws) u a b g G x y X Y alike c h =
    rw (alike.column (λ z. z), alike.row (λ z. z))
    (gabor_by-same (kernel_of (side_weight ws c) (diagonal_weight ws c)) _ _ (λ dx dy s t. alike.samples c dx dy h s t) _ _)
pass-alike n (edge_preserving e) u a b g G x y X Y alike c h =
    let mul : multiplier e.multiplier e.border_mul (a.top + y) x ≡ multiplier e.multiplier e.border_mul (b.top + Y) X = rw (alike.image-row tt) (multiplier-column e.multiplier e.border_mul (b.top + Y) x X (alike.in_block tt)) in
    rw (alike.sigma tt, mul)
    (epf-same n (step_reach e.step) _ _ alike.samples e.scales (kernel e.step) (dists e.step) _ _ u.1 (steps-near e.step u.0) e.limit c h)

-- ---- one position of one area

-- a mirrored index is as near as its offset: `mirror-cut` on the part within r of y, clipped to the area
pub mirror-near : (r N y : ℕ) (d : ℤ) → nat_abs d ≤ r → y < N → (y ≤ mirror (pos y +ℤ d) N + r) × (mirror (pos y +ℤ d) N ≤ y + r)
mirror-near r N y d small inside =
    let lo = y - r in
    let n = min (y + r + 1) N - lo in
    let x = y - lo in
    let e : lo + x ≡ y = omega arith in
    let deep : Deep (0 + r) lo n N x = record { inside = omega arith; left = λ f. clear f; right = λ f. far f } in
    let c = mirror-cut 0 r lo n N x d small (omega arith) deep in
    let s : lo + mirror (pos x +ℤ d) n ≡ mirror (pos y +ℤ d) N = rw e at c.same in
    let b : mirror (pos x +ℤ d) n < n = c.deep.inside in
    (omega (arith, s, b), omega (arith, s, b))
  where
    clear : (y - r ≡ 0 → ⊥) → 0 + r ≤ y - (y - r)
    clear f = omega (arith, f)

    far : (y - r + (min (y + r + 1) N - (y - r)) ≡ N → ⊥) → y - (y - r) + (0 + r) < min (y + r + 1) N - (y - r)
    far f = omega (arith, f)

-- then the samples after a pass that reads no further agree too
pub pass-near : (n : ℕ) (p : Pass) → IsSound n p → (a : Area) (g G : Picture) (x y : ℕ) → x < a.width → y < a.height → AgreeNear n (reach p) a x y g G
    → (c : ℕ) → c < n → pass a p g c x y ≡ pass a p G c x y
unfolding around
pass-near n p u a g G x y i j agree = pass-alike n p u a a g G x y x y (record {
  samples = λ c dx dy h s t.
      let v = mirror-near (reach p) a.width x dx s i in
      let w = mirror-near (reach p) a.height y dy t j in
      agree c (mirror (pos x +ℤ dx) a.width) (mirror (pos y +ℤ dy) a.height) h (mirror-lt (pos x +ℤ dx) a.width (omega arith)) (mirror-lt (pos y +ℤ dy) a.height (omega arith))
      (record { below = v.0; above = v.1 }) (record { below = w.0; above = w.1 });
  column = λ z. refl;
  row = λ z. refl;
  sigma = λ z. refl;
  image-row = λ z. refl;
  in_block = λ z. refl;
})

-- in particular if the pictures agree in the whole area: a pass reads nothing else
pub pass-cong : (n : ℕ) (p : Pass) → IsSound n p → (a : Area) (g G : Picture) → ((c x y : ℕ) → c < n → x < a.width → y < a.height → g c x y ≡ G c x y)
    → (c x y : ℕ) → c < n → x < a.width → y < a.height → pass a p g c x y ≡ pass a p G c x y
pass-cong n p u a g G agree c x y h i j = pass-near n p u a g G x y i j (λ c i j h p q v w. agree c i j h p q) c h
