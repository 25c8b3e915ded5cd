-- The tests of `Setup::fits` agree with the definition. Assumes nothing.
use mathlib.Core.Path.{◌≡◌, refl}
use mathlib.Core.Bool.{Bool, true, false, ◌&&◌}
use Rattle.std.specs.Prelude.{Result, is_ok}
use Rattle.refusals.specs.Checks.{first_of}
use Rattle.refusals.specs.Refusals.{IsOutcome}
use Rattle.refusals.specs.declared.Refusal.{Refusal}
use Rattle.refusals.proofs.Answered.{outcome_flag}
use Rattle.region.specs.Regions.{inside}
use Rattle.region.specs.Measures.{picture_fits}
use Rattle.region_placement.specs.declared.Place.{Place}
use Rattle.region_placement.specs.Placed.{placed_checks, place_of}
use Rattle.region_placement.proofs.PlacedLaws.{placed_flag}
use Rattle.run_setup.specs.declared.Setup.{Setup}
use Rattle.run_setup.specs.Setup.{blocks_fit, numbers_fit, setup_fits}

regroup : (a b c d e : Bool) → ((((a && b) && c) && d) && e) ≡ (((a && b) && (c && d)) && e)
regroup true true c d e = refl
regroup true false c d e = refl
regroup false b c d e = refl

-- r is the answer of `placed`
pub setup_rules : (s : Setup) (r : Result Place Refusal) → IsOutcome r (first_of (placed_checks s.image s.filter)) (place_of s.image s.filter)
    → ((is_ok r && blocks_fit s) && numbers_fit s) ≡ setup_fits s
unfolding setup_fits
setup_rules s r o =
    rw (outcome_flag r _ _ o, placed_flag s.image s.filter)
    (regroup (picture_fits s.image) (picture_fits s.filter) (inside s.image s.filter) (blocks_fit s) (numbers_fit s))
