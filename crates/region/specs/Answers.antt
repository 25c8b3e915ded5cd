-- The tables of checks of each method (Specification 6.1, 6.4): a refusal has the number of the first check that applies.
use Rattle.std.specs.Prelude.{◌&&◌, not, List, [], ◌∷◌}
use Rattle.refusals.specs.Numbers.{out_of_limits}
use Rattle.refusals.specs.Checks.{Check, always}
use Rattle.region.specs.Measures.{bounds_fit}
use Rattle.region.specs.declared.Region.{Region}

-- a region exceeds the limits
abbrev pub measured_check : Region → Check
measured_check r = always out_of_limits (not (bounds_fit r))

abbrev pub given_checks : Region → List Check
given_checks r = measured_check r ∷ []

abbrev pub pair_checks : Region → Region → List Check
pair_checks a b = always out_of_limits (not (bounds_fit a && bounds_fit b)) ∷ []
