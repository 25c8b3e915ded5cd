-- What holds of the record that an accepted advance is given, and that the code's tests give the outcomes of the definition. Assumes
-- nothing.
use mathlib.Core.Path.{◌≡◌, refl, ◌∙◌}
use mathlib.Core.Bool.{Bool, true, false}
use Prim.Native.Nat.{ℕ, suc, ◌+◌, ◌<◌, ◌≤◌}
use native.Mathlib.Omega.{arith}
use borrow.Author.Tests.{ne_eqb}
use lib.Dec.{eqb}
use Rattle.refusals.proofs.Outcomes.{number-nonzero}
use Rattle.run_passes.specs.Plan.{gabor_on, one_if}
use Rattle.run_passes.proofs.PlanLaws.{plan-length}
use Rattle.run_setup.specs.declared.Setup.{Setup}
use Rattle.run_record.specs.declared.Run.{Run}
use Rattle.run_record.specs.Record.{none_done, run_of, advanced}
use Rattle.run_setup.specs.Setup.{pass_count}
use Rattle.run_record.proofs.Laws.{pass-left}
use Rattle.run_outcomes.specs.declared.RunAnswer.{RunAnswer}
use Rattle.run_outcomes.specs.Band.{advance_number, advance_outcome}
use Rattle.run_outcomes.proofs.Laws.{advance-fits}

-- at most four passes
few-passes : (s : Setup) → pass_count s ≤ 4
few-passes s = omega (arith, plan-length s.planes s.settings, one (gabor_on s.settings))
  where
    one : (b : Bool) → one_if b ≤ 1
    one true = omega arith
    one false = omega arith

pub advance-refused : (r : Run) (n : ℕ) → n ≡ advance_number r → (n ≡ 0 → ⊥) → ◌≡◌ {A = RunAnswer} (record { number = n; run = r }) (advance_outcome r)
unfolding advance_outcome
advance-refused r n e h =
    let z : eqb (advance_number r) 0 ≡ false = ne_eqb (advance_number r) 0 (λ q. h (e ∙ q)) in
    rw (z, e)

pub advance-few : (r : Run) → advance_number r ≡ 0 → r.pass < 4
advance-few r z =
    let f = advance-fits r z in
    omega (arith, pass-left r f.run f.pass.unfinished, few-passes r.setup)

pub advance-done : (r q : Run) → advance_number r ≡ 0 → q ≡ run_of r.setup (r.pass + 1) none_done → ◌≡◌ {A = RunAnswer} (record { number = 0; run = q }) (advance_outcome r)
unfolding advance_outcome advanced
advance-done r q z e =
    let next : r.pass + 1 ≡ suc r.pass = omega arith in
    rw (z, e, next) refl

-- for the answers of `advance`
pub ruleset advance_rules = (advance-refused, advance-few, advance-done, number-nonzero)
