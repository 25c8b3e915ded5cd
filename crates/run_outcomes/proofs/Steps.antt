-- A call that makes several checks by `?`: it answers the refusal of the first that refuses. Assumes nothing.
use mathlib.Core.Path.{◌≡◌, sym, ap, ◌∙◌}
use mathlib.Core.List.{List, [], ◌∷◌}
use lib.Dec.{T}
use Rattle.std.specs.Prelude.{Result, Ok, Err, IsErrAnd}
use Rattle.refusals.specs.declared.Refusal.{Refusal}
use Rattle.refusals.specs.Refusals.{refusal_number as number, number_of}
use Rattle.refusals.specs.Checks.{Check, first_of}
use Rattle.refusals.proofs.Outcomes.{number-nonzero}
use Rattle.refusals.proofs.Tables.{numbered}
use Rattle.refusals.proofs.Rows.{joined-refused, joined-passed}

-- `?` passes a refusal on
pub passed_on : {A : Type 0} (e : Refusal) (r : Result A Refusal) → IsErrAnd r (λ x. x ≡ e) → number_of r ≡ number e
passed_on e (Ok a) is = absurd is
passed_on e (Err x) is = ap number is

-- the first check refuses
pub first-refuses : {A : Type 0} (c : Check) (cs : List Check) → T (numbered (c ∷ [])) → (e : Refusal) → number e ≡ first_of (c ∷ [])
    → (r : Result A Refusal) → IsErrAnd r (λ x. x ≡ e) → number_of r ≡ first_of (c ∷ cs)
first-refuses c cs t e p r is = passed_on e r is ∙ p ∙ sym (joined-refused (c ∷ []) cs t (λ z. number-nonzero e (p ∙ z)))

-- it does not: the others decide
pub first-passes : (c : Check) (cs : List Check) → T (numbered (c ∷ [])) → 0 ≡ first_of (c ∷ []) → first_of cs ≡ first_of (c ∷ cs)
first-passes c cs t z = sym (joined-passed (c ∷ []) cs t (sym z))
