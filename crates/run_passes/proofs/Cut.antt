-- A filter region cut from a larger one: away from the cut edges each pass, and so any list of passes, gives the larger picture's samples.
-- Assumes nothing.
use mathlib.Core.Path.{◌≡◌, sym, ◌∙◌}
use mathlib.Core.Bool.{Bool, true, false, cond}
use mathlib.Core.List.{List, [], ◌∷◌}
use lib.ListN.{take}
use mathlib.Core.Logic.{inl, inr}
use Prim.Native.Nat.{ℕ, zero, suc, ◌+◌, ◌/◌, ◌<◌, ◌≤◌}
use native.Mathlib.Omega.{arith}
use native.Mathlib.Decide.{ℕ_discrete}
use borrow.Author.Tests.{eq-eqb, ne_eqb}
use lib.Dec.{eqb}
use lib.IntN.{pos, ◌+ℤ◌}
use Rattle.mirror.specs.Mirror.{mirror}
use Rattle.mirror.specs.Cut.{Deep}
use Rattle.mirror.proofs.Cut.{mirror-cut}
use Rattle.planes.specs.Picture.{Picture, around}
use Rattle.gabor_kernel.specs.Ends.{stands}
use Rattle.epf_step.specs.Steps.{reach as step_reach}
use Rattle.epf_step.proofs.Local.{Alike, scaled-below}
use Rattle.run_passes.specs.declared.Settings.{Settings}
use Rattle.run_passes.specs.Pass.{Area, Pass, gabor_like, edge_preserving, pass, passes, reach, reaches}
use Rattle.run_passes.specs.Plan.{gabor_on, step_of, step, steps, plan}
use Rattle.run_passes.specs.Near.{IsSound, IsStep}
use Rattle.run_passes.proofs.Near.{AlikeAt, pass-alike}
use Rattle.run_passes.specs.Cut.{Fits, SameBlocks, Agree, AllSound, SomeStep}

-- ---- where a position lies in its row or column: first, last, only or inner

eqb-iff : (a b c d : ℕ) → (a ≡ b → c ≡ d) → (c ≡ d → a ≡ b) → eqb a b ≡ eqb c d
eqb-iff a b c d f g = go (ℕ_discrete a b)
  where
    go : Dec (a ≡ b) → eqb a b ≡ eqb c d
    go (yes e) = eq-eqb a b e ∙ sym (eq-eqb c d (f e))
    go (no e) = ne_eqb a b e ∙ sym (ne_eqb c d (λ q. e (g q)))

module _ (k lo n N x : ℕ) (fits : lo + n ≤ N) (deep : Deep (k + 1) lo n N x) where
  at_low : x ≡ 0 → lo ≡ 0
  at_low e = go (ℕ_discrete lo 0)
    where
      go : Dec (lo ≡ 0) → lo ≡ 0
      go (yes z) = z
      go (no z) = absurd (omega (arith, deep.left z))

  at_high : x + 1 ≡ n → lo + n ≡ N
  at_high e = go (ℕ_discrete (lo + n) N)
    where
      go : Dec (lo + n ≡ N) → lo + n ≡ N
      go (yes z) = z
      go (no z) = absurd (omega (arith, deep.right z))

  stands_same : stands n x ≡ stands N (lo + x)
  unfolding stands
  stands_same =
      let i : x < n = deep.inside in
      let one_of : eqb n 1 ≡ eqb N 1 = eqb-iff n 1 N 1 (λ (e : n ≡ 1). omega (arith, at_low (omega arith), at_high (omega arith))) (λ (e : N ≡ 1). omega arith) in
      let low : eqb x 0 ≡ eqb (lo + x) 0 = eqb-iff x 0 (lo + x) 0 (λ (e : x ≡ 0). omega (arith, at_low e)) (λ (e : lo + x ≡ 0). omega arith) in
      let high : eqb (x + 1) n ≡ eqb (lo + x + 1) N = eqb-iff (x + 1) n (lo + x + 1) N (λ (e : x + 1 ≡ n). omega (arith, at_high e)) (λ (e : lo + x + 1 ≡ N). omega arith) in
      rw (one_of, low, high)

module _ (n : ℕ) (a b : Area) (lx ly : ℕ) (fits : Fits a b lx ly) (k : ℕ) (g G : Picture) (agree : Agree n a b lx ly k g G) where
  -- what a sample sees within r
  around-same : (r x y : ℕ) → Deep (k + r) lx a.width b.width x → Deep (k + r) ly a.height b.height y
      → Alike n r (around a.width a.height g x y) (around b.width b.height G (lx + x) (ly + y))
  unfolding around
  around-same r x y p q c dx dy h i j =
      let s = mirror-cut k r lx a.width b.width x dx i fits.columns p in
      let t = mirror-cut k r ly a.height b.height y dy j fits.rows q in
      agree c (mirror (pos x +ℤ dx) a.width) (mirror (pos y +ℤ dy) a.height) h s.deep t.deep ∙ rw (s.same, t.same)

  -- a pass reads the same there
  alike : (p : Pass) → (IsStep p → SameBlocks a b lx ly) → (x y : ℕ) → Deep (k + reach p) lx a.width b.width x → Deep (k + reach p) ly a.height b.height y
      → AlikeAt n p a b g G x y (lx + x) (ly + y)
  unfolding reach IsStep
  alike (gabor_like ws) blocks x y i j = record {
    samples = around-same 1 x y i j;
    column = λ z. stands_same k lx a.width b.width x fits.columns i;
    row = λ z. stands_same k ly a.height b.height y fits.rows j;
    sigma = λ z. absurd z;
    image-row = λ z. absurd z;
    in_block = λ z. absurd z;
  }
  alike (edge_preserving e) blocks x y i j =
      let k8 : SameBlocks a b lx ly = blocks tt in
      let xin : x < a.width = i.inside in
      let yin : y < a.height = j.inside in
      let col : (lx + x) / 8 ≡ k8.bx + x / 8 = omega (arith, k8.eight_x) in
      let row : (ly + y) / 8 ≡ k8.by + y / 8 = omega (arith, k8.eight_y) in
      record {
        samples = around-same (step_reach e.step) x y i j;
        column = λ z. absurd (z tt);
        row = λ z. absurd (z tt);
        sigma = λ z. rw (col, row) (k8.sigmas (x / 8) (y / 8) (omega arith) (omega arith));
        image-row = λ z. omega (arith, k8.tops);
        in_block = λ z. omega (arith, k8.eight_x);
      }

  pub pass_same : (p : Pass) → IsSound n p → (IsStep p → SameBlocks a b lx ly) → Agree n a b lx ly (k + reach p) (pass a p g) (pass b p G)
  pass_same p u blocks c x y h i j = pass-alike n p u a b g G x y (lx + x) (ly + y) (alike p blocks x y i j) c h

passes_same : (n : ℕ) (a b : Area) (lx ly : ℕ) → Fits a b lx ly → (k : ℕ) (ps : List Pass) → AllSound n ps → (SomeStep ps → SameBlocks a b lx ly) → (g G : Picture)
    → Agree n a b lx ly k g G → Agree n a b lx ly (k + reaches ps) (passes a ps g) (passes b ps G)
unfolding passes reaches
passes_same n a b lx ly fits k [] ask blocks g G agree c x y h i j =
    let z : k + 0 ≡ k = omega arith in
    agree c x y h (rw z at i) (rw z at j)
passes_same n a b lx ly fits k (p ∷ ps) ask blocks g G agree c x y h i j =
    let z : k + (reach p + reaches ps) ≡ k + reach p + reaches ps = omega arith in
    passes_same n a b lx ly fits (k + reach p) ps ask.1 (λ s. blocks (inr s)) (pass a p g) (pass b p G)
    (pass_same n a b lx ly fits k g G agree p ask.0 (λ s. blocks (inl s))) c x y h (rw z at i) (rw z at j)

-- If the pictures agree on the whole smaller area, they agree after the passes at each sample that is as far from each cut edge as the
-- passes read.
pub cut-same : (n : ℕ) (a b : Area) (lx ly : ℕ) → Fits a b lx ly → (ps : List Pass) → AllSound n ps → (SomeStep ps → SameBlocks a b lx ly) → (g G : Picture)
    → ((c x y : ℕ) → c < n → x < a.width → y < a.height → g c x y ≡ G c (lx + x) (ly + y))
    → Agree n a b lx ly (reaches ps) (passes a ps g) (passes b ps G)
cut-same n a b lx ly fits ps ask blocks g G agree c x y h i j =
    let z : 0 + reaches ps ≡ reaches ps = omega arith in
    passes_same n a b lx ly fits 0 ps ask blocks g G (λ c x y h i j. agree c x y h i.inside j.inside) c x y h (rw z i) (rw z j)

-- ---- the passes of the settings

step-sound : (n : ℕ) (s : Settings) (k : ℕ) → k < 3 → IsSound n (step n s k)
unfolding IsSound step_of
step-sound n s k h = (h, scaled-below n s.epf.channel_scale)

steps-sound : (n : ℕ) (s : Settings) (i : ℕ) → AllSound n (steps n s i)
unfolding steps
steps-sound n s zero = tt
steps-sound n s (suc zero) = (step-sound n s 1 (omega arith), tt)
steps-sound n s (suc (suc zero)) = (step-sound n s 1 (omega arith), (step-sound n s 2 (omega arith), tt))
steps-sound n s (suc (suc (suc i))) = (step-sound n s 0 (omega arith), (step-sound n s 1 (omega arith), (step-sound n s 2 (omega arith), tt)))

-- Their steps are 0, 1 or 2, on channels of the n planes.
pub plan-sound : (n : ℕ) (s : Settings) → AllSound n (plan n s)
unfolding plan IsSound
plan-sound n s = go (gabor_on s)
  where
    go : (on : Bool) → AllSound n (cond on (gabor_like (take n s.gabor.weights) ∷ steps n s s.epf.iters) (steps n s s.epf.iters))
    go true = (tt, steps-sound n s s.epf.iters)
    go false = steps-sound n s s.epf.iters

some-step : (n : ℕ) (s : Settings) (i : ℕ) → SomeStep (steps n s i) → 0 < i
unfolding steps
some-step n s zero h = absurd h
some-step n s (suc i) h = omega arith

-- There is a step among them only if there are iterations.
pub plan-some-step : (n : ℕ) (s : Settings) → SomeStep (plan n s) → 0 < s.epf.iters
unfolding plan IsStep
plan-some-step n s h = go (gabor_on s) h
  where
    go : (on : Bool) → SomeStep (cond on (gabor_like (take n s.gabor.weights) ∷ steps n s s.epf.iters) (steps n s s.epf.iters)) → 0 < s.epf.iters
    go true (inl h) = absurd h
    go true (inr h) = some-step n s s.epf.iters h
    go false h = some-step n s s.epf.iters h
