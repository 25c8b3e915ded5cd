-- The layout of a filter region in an image region, and the outcome of a pass (Specification 9.1, 9.4). Definitions only; the laws are in proofs/Fits.antt.
use Rattle.std.specs.Prelude.{Bool, cond, ◌&&◌, not, List, [], ◌∷◌, ◌++◌, ℕ, ◌*◌, eqb, length, nat_abs, ◌-ℤ◌, Float}
use Rattle.refusals.specs.Numbers.{wrong_length, out_of_range}
use Rattle.refusals.specs.Checks.{Check, always, given}
use Rattle.refusals.specs.Flags.{flag_fits, flag_set}
use Rattle.region.specs.declared.Region.{Region}
use Rattle.region_placement.specs.Placed.{placed_checks}
use Rattle.planes.specs.declared.Layout.{Layout}
use Rattle.planes.specs.Band.{planes_fit, rows_fit}

-- columns and rows count from the image region's corner; full: the result region is the image region
unfoldable pub layout_of : Region → Region → Bool → Layout
layout_of image filter full = record {
  image = record { width = image.width; height = image.height };
  left = nat_abs (filter.left -ℤ image.left);
  top = nat_abs (filter.top -ℤ image.top);
  width = filter.width;
  height = filter.height;
  full = full;
}

-- ---- a pass over the rows from `from` up to, not including, `to` of the result region, from one set of n planes to another

-- the lengths of both sets, which are checked only if the number of planes is in range
abbrev pub lengths_check : Region → ℕ → List Float → List Float → Check
lengths_check image n src dst = given (planes_fit n) wrong_length (not (eqb (length src) (n * image.height * image.width) && eqb (length dst) (n * image.height * image.width)))

-- the number of planes
abbrev pub planes_check : ℕ → Check
planes_check n = always out_of_range (not (planes_fit n))

-- the flag `preserve_outside`
abbrev pub flag_check : ℕ → Check
flag_check full = always out_of_range (not (flag_fits full))

-- the rows, which are checked only if the flag is in range
abbrev pub rows_check : Region → Region → ℕ → ℕ → ℕ → Check
rows_check image filter full from to = given (flag_fits full) out_of_range (not (rows_fit (layout_of image filter (flag_set full)) from to))

-- Specification 9.4: 4, 5, then 7, then 9
unfoldable pub pass_checks : Region → Region → ℕ → ℕ → ℕ → ℕ → List Float → List Float → List Check
pass_checks image filter n full from to src dst =
    placed_checks image filter ++ (lengths_check image n src dst ∷ planes_check n ∷ flag_check full ∷ rows_check image filter full from to ∷ [])

-- the number, and the written set after the pass
pub record PassOutcome : Type 0 where
  pub number : ℕ
  pub target : List Float

-- a refused pass leaves the set unchanged
unfoldable pub pass_outcome : ℕ → List Float → List Float → PassOutcome
pass_outcome n left dst = record { number = n; target = cond (eqb n 0) left dst }
