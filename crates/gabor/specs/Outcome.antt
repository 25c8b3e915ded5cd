-- The outcome of the Gabor pass over rows of the result region, for every input (Specification 9.3, 9.4). Definitions only; the laws are in proofs/.
use Rattle.std.specs.Prelude.{List, ℕ, take, Float}
use Rattle.refusals.specs.Checks.{first_of}
use Rattle.refusals.specs.Flags.{flag_set}
use Rattle.region.specs.declared.Region.{Region}
use Rattle.planes.specs.declared.Layout.{Layout}
use Rattle.planes.specs.Band.{inner, passed}
use Rattle.planes_layout.specs.Outcome.{layout_of, pass_checks, PassOutcome, pass_outcome}
use Rattle.gabor_kernel.specs.Gabor.{gabor_pass}

-- The set dst of n planes after an accepted pass over the rows from `from` up to, not including, `to` that reads the set src: of the channels'
-- weights the first n are read.
abbrev pub gabor_passed : ℕ → Layout → List (List Float) → ℕ → ℕ → List Float → List Float → List Float
gabor_passed n l ws from to src dst = passed n l from to (gabor_pass (take n ws) l.width l.height (inner l src)) src dst

-- n planes; the number is 4, 5, 7 or 9, the first that applies, and a refused pass leaves dst unchanged
unfoldable pub gabor_outcome : Region → Region → ℕ → ℕ → List (List Float) → ℕ → ℕ → List Float → List Float → PassOutcome
gabor_outcome image filter n full ws from to src dst =
    pass_outcome (first_of (pass_checks image filter n full from to src dst)) (gabor_passed n (layout_of image filter (flag_set full)) ws from to src dst) dst
