-- The stages of a picture: the picture after the first k passes of a list. Assumes nothing.
use mathlib.Core.Path.{◌≡◌, refl, ◌∙◌}
use mathlib.Core.List.{List, []}
use Prim.Native.Nat.{ℕ, zero, suc, ◌≤◌}
use native.Mathlib.Omega.{arith}
use lib.ListN.{length, get_or, drop, drop_of_length-le}
use lib.Seq.{drop-cons}
use Rattle.planes.specs.Picture.{Picture}
use Rattle.run_passes.specs.Pass.{Area, Pass, gabor_like, pass, passes}

-- after the first k passes
unfoldable pub stage : Area → List Pass → Picture → ℕ → Picture
stage a ps g zero = g
stage a ps g (suc k) = pass a (get_or ps k (gabor_like [])) (stage a ps g k)

module _ (a : Area) (ps : List Pass) (g : Picture) where
  -- the remaining passes turn a stage into the last one,
  stage-left : (k : ℕ) → k ≤ length ps → passes a (drop k ps) (stage a ps g k) ≡ passes a ps g
  unfolding stage passes
  stage-left zero h = refl
  stage-left (suc k) h =
      let one : passes a (drop (suc k) ps) (pass a (get_or ps k (gabor_like [])) (stage a ps g k)) ≡ passes a (drop k ps) (stage a ps g k) = rw (drop-cons ps k (gabor_like []) (omega arith)) in
      one ∙ stage-left k (omega arith)

  -- which is the picture after all passes
  pub stage-last : (k : ℕ) → k ≡ length ps → stage a ps g k ≡ passes a ps g
  unfolding passes
  stage-last k e =
      let none : drop k ps ≡ [] = drop_of_length-le ps {i = k} (omega arith) in
      rw none at (stage-left k (omega arith))
