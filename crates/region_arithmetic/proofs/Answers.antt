-- When a result is refused, read off the tables of checks. Assumes nothing.
use mathlib.Core.Path.{◌≡◌, sym, ◌∙◌}
use Rattle.std.specs.Prelude.{Result}
use Rattle.refusals.specs.Refusals.{IsOutcome}
use Rattle.refusals.specs.declared.Refusal.{Refusal}
use Rattle.region.proofs.Answers.{given_passed}
use mathlib.Core.Bool.{Bool, true, false}
use Rattle.refusals.specs.Checks.{applies, first_of}
use Rattle.refusals.proofs.Rows.{none, keep, drop, same_number}
use Rattle.region.specs.Measures.{bounds_fit}
use Rattle.region.specs.Answers.{measured_check, given_checks}
use Rattle.region.specs.declared.Region.{Region}
use Rattle.region_arithmetic.specs.Answers.{made_checks, setting_checks, region_number}

-- ---- rows

in-limits : (r : Region) → bounds_fit r ≡ true → applies (measured_check r) ≡ false
in-limits r e = rw e

-- ---- laws: the number, by the first check that applies
module _ (r made : Region) where
  pub result_checked : bounds_fit r ≡ true → first_of (made_checks r made) ≡ region_number made
  unfolding region_number
  result_checked e = same_number (made_checks r made) (given_checks made) (search (none, keep, drop, in-limits) depth 20)

  pub setting_checked : (sound : Bool) → bounds_fit r ≡ true → sound ≡ true → first_of (setting_checks r sound made) ≡ region_number made
  unfolding region_number
  setting_checked sound e f = rw f (same_number (setting_checks r true made) (given_checks made) (search (none, keep, drop, in-limits) depth 20))

-- ---- what a call returns that has checked its arguments and its setting

module _ (r made : Region) (o : Result Region Refusal) (e : 0 ≡ first_of (given_checks r)) (i : IsOutcome o (region_number made) made) where
  pub made_outcome : IsOutcome o (first_of (made_checks r made)) made
  made_outcome = (i.0 ∙ sym (result_checked r made (given_passed r e)), i.1)

  pub setting_outcome : (sound : Bool) → sound ≡ true → IsOutcome o (first_of (setting_checks r sound made)) made
  setting_outcome sound f = (i.0 ∙ sym (setting_checked r made sound (given_passed r e) f), i.1)
