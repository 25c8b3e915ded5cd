-- Fields of answers on the C boundary, from what a call returned, and calls that are not refused. Assumes nothing.
use mathlib.Core.Path.{◌≡◌, sym, ◌∙◌}
use mathlib.Core.Bool.{cond}
use Prim.Native.Nat.{ℕ}
use borrow.Author.Tests.{ne_eqb}
use lib.Dec.{eqb}
use Rattle.std.specs.Prelude.{Result, Ok, Err, IsOk, is_ok}
use Rattle.refusals.specs.declared.Refusal.{Refusal}
use Rattle.refusals.specs.Refusals.{IsOutcome}
use Rattle.refusals.specs.Answered.{value_or}
use Rattle.refusals.proofs.Outcomes.{number-nonzero}

-- the value if the number is 0, a zero otherwise
pub outcome_value : {A : Type 0} (r : Result A Refusal) (n : ℕ) (v z : A) → IsOutcome r n v → value_or z r ≡ cond (eqb n 0) v z
outcome_value (Ok a) n v z o = rw (← o.0) o.1
outcome_value (Err e) n v z o = rw (ne_eqb n 0 (λ (k : n ≡ 0). number-nonzero e (o.0 ∙ k)))

-- a value is the one that the outcome names
pub outcome_ok : {A : Type 0} (r : Result A Refusal) (n : ℕ) (v a : A) → IsOutcome r n v → r ≡ Ok a → a ≡ v
outcome_ok (Ok b) n v a o e = let f : b ≡ a = cc in sym f ∙ o.1
outcome_ok (Err x) n v a o e = cc

-- there is one if the number is 0, and only then
pub outcome_flag : {A : Type 0} (r : Result A Refusal) (n : ℕ) (v : A) → IsOutcome r n v → is_ok r ≡ eqb n 0
outcome_flag (Ok a) n v o = rw (← o.0)
outcome_flag (Err e) n v o = rw (ne_eqb n 0 (λ (k : n ≡ 0). number-nonzero e (o.0 ∙ k)))

pub outcome_is_ok : {A : Type 0} (r : Result A Refusal) (n : ℕ) (v : A) → IsOutcome r n v → n ≡ 0 → IsOk r
outcome_is_ok r n v o z = outcome_flag r n v o ∙ rw z
