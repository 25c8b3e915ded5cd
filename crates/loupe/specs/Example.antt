-- A call that is accepted and shows a part of a whole picture (Specification 17.6), whatever the samples, weights and sigmas: both filters
-- are on, and all four edges of the widened rectangle are cut. Definitions only.
use Rattle.std.specs.Prelude.{◌≡◌, ℕ, ◌+◌, pos}
use Rattle.region.specs.declared.Region.{Region}
use Rattle.planes.specs.Samples.{b0}
use Rattle.planes.specs.Sets.{set_of, tab}
use Rattle.run_calls.specs.FourEdges.{Given, larger}
use Rattle.loupe_region.specs.Outcome.{widened_region}
use Rattle.loupe.specs.Outcome.{LoupeHanded, loupe_outcome}
use Rattle.loupe.specs.Whole.{PartOf}

-- a square whose left and top are alike
abbrev square : ℕ → ℕ → Region
square left side = record { left = pos left; top = pos left; width = side; height = side }

-- The whole picture is `larger`: columns and rows 0 to 23, in an image region from −1 on. Columns and rows 11 and 12 are wanted, and the
-- first set has 8 to 15.
abbrev pub handed : Given → LoupeHanded
handed g = record {
  setup = record { whole = square 0 24; wanted = square 11 2; planes = 3; settings = (larger g).setup.settings };
  frame = (larger g).frame;
  table = (larger g).table;
  grids = (larger g).grids;
  first = set_of 3 8 8 (λ c x y. g.picture c (9 + x) (9 + y));
  second = set_of 3 8 8 (λ c x y. b0);
  sigmas = tab 1 (λ i. b0);
  out = set_of 3 2 2 (λ c x y. b0);
}

-- it is accepted, its arguments show a part of the whole picture, and each edge of the widened rectangle lies inside the whole
abbrev pub LoupePremisesMet : Type 0
LoupePremisesMet = (g : Given)
    → ((loupe_outcome (handed g)).number ≡ 0) × PartOf (handed g) (larger g) × (widened_region (handed g).setup ≡ square 8 8)
