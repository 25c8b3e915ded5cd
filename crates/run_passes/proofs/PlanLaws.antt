-- Laws of the passes of the settings: how many there are, which is which, and how far they read. Assumes nothing.
use mathlib.Core.Path.{◌≡◌, refl}
use mathlib.Core.Bool.{Bool, true, false, true≢false, false≢true, cond, ◌&&◌}
use mathlib.Core.List.{List, ◌∷◌}
use Prim.Native.Nat.{ℕ, zero, suc, ◌+◌, ◌-◌, ◌<◌, ◌≤◌, min}
use native.Mathlib.Nat.{le_of_suc-le-suc}
use native.Mathlib.Omega.{arith}
use borrow.Author.Tests.{eqb-true, le-ltb, ne_eqb}
use lib.Dec.{eqb, ltb}
use lib.ListN.{length, get_or, take}
use lib.Ieee.{Float}
use Rattle.std.specs.Prelude.{Result, Ok, Err}
use Rattle.refusals.specs.declared.Refusal.{Refusal}
use Rattle.refusals.specs.Refusals.{IsOutcome, refusal_number as number}
use Rattle.refusals.proofs.Outcomes.{number-nonzero}
use Rattle.epf.specs.declared.EpfStep.{EpfStep}
use Rattle.epf_step.specs.Steps.{scaled}
use Rattle.run_passes.specs.Statements.{PlanReads}
use Rattle.run_passes.specs.declared.Pass.TheVariants.{Gabor, Edge}
use Rattle.run_passes.specs.declared.Settings.{Settings}
use Rattle.run_passes.specs.Pass.{Pass, gabor_like, reach, reaches}
use Rattle.run_passes.specs.PassAt.{pass_at}
use Rattle.run_passes.specs.Plan.{gabor_at, gabor_on, margin, margin_answer, margin_number, margin_outcome, one_if, pass_number, plan, scale_of, step, step_index, step_margin, step_of, steps}

-- ---- laws

-- the margin is how far the passes read together
margin-is : (n : ℕ) (s : Settings) (on : Bool) (i : ℕ) → reaches (cond on (gabor_like (take n s.gabor.weights) ∷ steps n s i) (steps n s i)) ≡ one_if on + step_margin i
unfolding steps reaches reach step_margin step_of
margin-is n s true zero = refl
margin-is n s true (suc zero) = refl
margin-is n s true (suc (suc zero)) = refl
margin-is n s true (suc (suc (suc i))) = refl
margin-is n s false zero = refl
margin-is n s false (suc zero) = refl
margin-is n s false (suc (suc zero)) = refl
margin-is n s false (suc (suc (suc i))) = refl

pub plan-reach : (n : ℕ) (s : Settings) → reaches (plan n s) ≡ margin s
unfolding plan
plan-reach n s = margin-is n s (gabor_on s) s.epf.iters

-- the number of passes
pub length-steps : (n : ℕ) (s : Settings) (i : ℕ) → length (steps n s i) ≡ min i 3
unfolding steps
length-steps n s zero = refl
length-steps n s (suc zero) = refl
length-steps n s (suc (suc zero)) = refl
length-steps n s (suc (suc (suc i))) = omega arith

pub plan-length : (n : ℕ) (s : Settings) → length (plan n s) ≡ pass_number s
unfolding plan
plan-length n s = go (gabor_on s)
  where
    go : (on : Bool) → length (cond on (gabor_like (take n s.gabor.weights) ∷ steps n s s.epf.iters) (steps n s s.epf.iters)) ≡ one_if on + min s.epf.iters 3
    go true = omega (arith, length-steps n s s.epf.iters)
    go false = omega (arith, length-steps n s s.epf.iters)

-- ---- what the passes read of the settings

module _ (n : ℕ) (s t : Settings) (scales : scaled n s.epf.channel_scale ≡ scaled n t.epf.channel_scale)
    (pass0 : s.epf.sigma.pass0_sigma_scale ≡ t.epf.sigma.pass0_sigma_scale) (pass2 : s.epf.sigma.pass2_sigma_scale ≡ t.epf.sigma.pass2_sigma_scale)
    (edge : s.epf.sigma.border_sad_mul ≡ t.epf.sigma.border_sad_mul) where
  steps-read : (i : ℕ) → steps n s i ≡ steps n t i
  unfolding steps step_of scale_of
  steps-read zero = refl
  steps-read (suc zero) = rw (scales, edge)
  steps-read (suc (suc zero)) = rw (scales, edge, pass2)
  steps-read (suc (suc (suc i))) = rw (scales, edge, pass0, pass2)

pub plan-reads : PlanReads
unfolding plan
plan-reads n s t enabled weights iters scales pass0 pass2 edge = rw (steps-read n s t scales pass0 pass2 edge s.epf.iters) (rw (enabled, weights, iters) refl)

-- ---- the pass with a given number

and-true : (a b : Bool) → (a && b) ≡ true → (a ≡ true) × (b ≡ true)
and-true true b e = (refl, e)
and-true false b e = absurd (false≢true e)

pub plan-gabor : (n : ℕ) (s : Settings) (p : ℕ) (d : Pass) → gabor_at s p ≡ true → get_or (plan n s) p d ≡ gabor_like (take n s.gabor.weights)
unfolding gabor_at plan
plan-gabor n s p d e =
    let z = and-true (gabor_on s) (eqb p 0) e in
    let q : p ≡ 0 = eqb-true p 0 z.1 in
    rw (z.0, q)

steps-at : (n : ℕ) (s : Settings) (i p : ℕ) (d : Pass) → p < length (steps n s i) → (get_or (steps n s i) p d ≡ step n s (p + one_if (ltb i 3))) × (p + one_if (ltb i 3) ≤ 2)
unfolding steps
steps-at n s zero p d h = absurd (omega arith)
steps-at n s (suc zero) zero d h = (refl, omega arith)
steps-at n s (suc zero) (suc p) d h = absurd (omega arith)
steps-at n s (suc (suc zero)) zero d h = (refl, omega arith)
steps-at n s (suc (suc zero)) (suc zero) d h = (refl, omega arith)
steps-at n s (suc (suc zero)) (suc (suc p)) d h = absurd (omega arith)
steps-at n s (suc (suc (suc i))) zero d h = rw (le-ltb (suc (suc (suc i))) 3 (omega arith)) (refl, omega arith)
steps-at n s (suc (suc (suc i))) (suc zero) d h = rw (le-ltb (suc (suc (suc i))) 3 (omega arith)) (refl, omega arith)
steps-at n s (suc (suc (suc i))) (suc (suc zero)) d h = rw (le-ltb (suc (suc (suc i))) 3 (omega arith)) (refl, omega arith)
steps-at n s (suc (suc (suc i))) (suc (suc (suc p))) d h = absurd (omega arith)

pub plan-step : (n : ℕ) (s : Settings) (p : ℕ) (d : Pass) → gabor_at s p ≡ false → p < length (plan n s) → get_or (plan n s) p d ≡ step n s (step_index s p)
unfolding gabor_at plan step_index
plan-step n s p d e h = go (gabor_on s) p e h
  where
    i : ℕ
    i = s.epf.iters

    go : (on : Bool) (p : ℕ) → (on && eqb p 0) ≡ false → p < length (cond on (gabor_like (take n s.gabor.weights) ∷ steps n s i) (steps n s i))
        → get_or (cond on (gabor_like (take n s.gabor.weights) ∷ steps n s i) (steps n s i)) p d ≡ step n s (min (p + one_if (ltb i 3) - one_if on) 2)
    go true zero e h = absurd (true≢false e)
    go true (suc p) e h =
        let z = steps-at n s i p d (le_of_suc-le-suc h) in
        let q : min (suc p + one_if (ltb i 3) - 1) 2 ≡ p + one_if (ltb i 3) = omega (arith, z.1) in
        rw q z.0
    go false p e h =
        let z = steps-at n s i p d h in
        let q : min (p + one_if (ltb i 3) - 0) 2 ≡ p + one_if (ltb i 3) = omega (arith, z.1) in
        rw q z.0

-- ---- the margin on the C boundary

pub margin-answered : (s : Settings) (m : Result ℕ Refusal) → IsOutcome m (margin_number s) (margin s) → margin_answer m ≡ margin_outcome s
unfolding margin_outcome
margin-answered s (Ok m) o = rw (← o.0, o.1)
margin-answered s (Err e) o = rw (← o.0, ne_eqb (number e) 0 (number-nonzero e))

pub ruleset margin_rules = (margin-answered)

-- ---- what a pass runs

pub pass-gabor : (s : Settings) (p : ℕ) (ws : List (List Float)) → Gabor ws ≡ pass_at s p → (gabor_at s p ≡ true) × (ws ≡ s.gabor.weights)
unfolding pass_at
pass-gabor s p ws e = go (gabor_at s p) refl e
  where
    go : (b : Bool) → gabor_at s p ≡ b → Gabor ws ≡ cond b (Gabor s.gabor.weights) (Edge (step_of s (step_index s p))) → (gabor_at s p ≡ true) × (ws ≡ s.gabor.weights)
    go true g e = (g, cc)
    go false g e = absurd cc

pub pass-edge : (s : Settings) (p : ℕ) (step : EpfStep) → Edge step ≡ pass_at s p → (gabor_at s p ≡ false) × (step ≡ step_of s (step_index s p))
unfolding pass_at
pass-edge s p step e = go (gabor_at s p) refl e
  where
    go : (b : Bool) → gabor_at s p ≡ b → Edge step ≡ cond b (Gabor s.gabor.weights) (Edge (step_of s (step_index s p))) → (gabor_at s p ≡ false) × (step ≡ step_of s (step_index s p))
    go true g e = absurd cc
    go false g e = (g, cc)
