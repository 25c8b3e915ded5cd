-- When each method refuses, read off its table of checks. Assumes nothing.
use mathlib.Core.Path.{◌≡◌, refl, ◌∙◌}
use mathlib.Core.Bool.{Bool, true, false}
use native.Mathlib.Omega.{arith}
use Rattle.refusals.specs.Numbers.{out_of_limits}
use Rattle.refusals.specs.Checks.{first_of}
use Rattle.region.specs.Measures.{bounds_fit}
use Rattle.region.specs.declared.Region.{Region}
use Rattle.region.specs.Answers.{given_checks}

-- ---- laws: the number, by the first check that applies
module _ (r : Region) where
  pub given-fails : bounds_fit r ≡ false → first_of (given_checks r) ≡ out_of_limits
  given-fails e = rw e

  pub given_passed : 0 ≡ first_of (given_checks r) → bounds_fit r ≡ true
  given_passed = go (bounds_fit r) refl
    where
      go : (x : Bool) → bounds_fit r ≡ x → 0 ≡ first_of (given_checks r) → bounds_fit r ≡ true
      go true e z = e
      go false e z = let w : 0 ≡ out_of_limits = z ∙ given-fails e in absurd (omega (arith, w))

  pub given_holds : bounds_fit r ≡ true → first_of (given_checks r) ≡ 0
  given_holds e = rw e
