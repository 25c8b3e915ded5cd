-- The code's tests and calls agree with the parts. Assumes nothing.
use mathlib.Core.Path.{◌≡◌, refl}
use mathlib.Core.Bool.{Bool, true, false, cond, not, ◌&&◌}
use Prim.Native.Nat.{ℕ}
use Rattle.std.specs.Prelude.{Result, Ok, Err, IsErrAnd}
use Rattle.refusals.specs.Numbers.{out_of_range}
use Rattle.refusals.specs.declared.Refusal.{Refusal}
use Rattle.refusals.specs.Refusals.{refusal_number as number}
use Rattle.sigma_groups.specs.declared.blocks.Blocks.{Blocks}
use Rattle.sigma.specs.Outcome.{sigmas_outcome}
use Rattle.run_record.specs.declared.Run.{Run}
use Rattle.run_outcomes.specs.declared.RunAnswer.{RunAnswer}
use Rattle.run_outcomes.specs.Start.{Handed, blocks_of, no_run, run_answer}
use Rattle.run_start.specs.Pieces.{epf_flag}

-- the last six rows, of the setup's settings, as one test
pub settings-row : (iters planes full gabor height count : Bool)
    → cond (not (iters && (planes && (full && (gabor && (height && count)))))) out_of_range 0
    ≡ cond (not iters) out_of_range (cond (not planes) out_of_range (cond (not full) out_of_range (cond (not gabor) out_of_range (cond (not height) out_of_range (cond ((full && height) && not count) out_of_range 0)))))
settings-row true true true true true true = refl
settings-row true true true true true false = refl
settings-row true true true true false count = refl
settings-row true true true false height count = refl
settings-row true true false gabor height count = refl
settings-row true false full gabor height count = refl
settings-row false planes full gabor height count = refl

-- equal inputs give equal block sigmas
pub same-sigmas : (h : Handed) (a : ℕ) (b : Blocks) → a ≡ epf_flag h.setup → b ≡ blocks_of h.setup
    → sigmas_outcome a h.frame b h.table h.grids h.setup.settings.epf.sigma_for_modular h.sigmas
    ≡ sigmas_outcome (epf_flag h.setup) h.frame (blocks_of h.setup) h.table h.grids h.setup.settings.epf.sigma_for_modular h.sigmas
same-sigmas h a b p q = rw (p, q)

-- the answer of a refused start
pub refusal-answered : (e : Refusal) (r : Result Run Refusal) → IsErrAnd r (λ x. x ≡ e) → ◌≡◌ {A = RunAnswer} (run_answer r) (record { number = number e; run = no_run })
refusal-answered e (Ok a) is = absurd is
refusal-answered e (Err x) is = rw is
