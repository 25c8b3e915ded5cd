-- Samples by position: signed columns and rows in the coordinates of left and top (Specification 2.1). Definitions only.
use Rattle.std.specs.Prelude.{◌≡◌, List, ℕ, ◌/◌, T, ℤ, pos, nat_abs, ◌+ℤ◌, ◌-ℤ◌, Float}
use Rattle.std.specs.Int.Signed.{le_z, lt_z}
use Rattle.region.specs.declared.Region.{Region}
use Rattle.region.specs.Regions.{columns, rows}
use Rattle.planes.specs.Picture.{Picture}
use Rattle.planes.specs.Sets.{of}
use Rattle.planes.specs.Band.{inner}
use Rattle.run_passes.specs.Pass.{passes}
use Rattle.run_setup.specs.declared.Setup.{Setup}
use Rattle.run_setup.specs.Setup.{passes_of, layout, area, result_region}
use Rattle.run_outcomes.specs.Start.{Handed, start_leaves, sigmas_filled}

-- the sample at a position, of a picture whose corner is the region's
abbrev pub at : Region → Picture → ℕ → ℤ → ℤ → Float
at r g c x y = g c (nat_abs (x -ℤ r.left)) (nat_abs (y -ℤ r.top))

-- h are the arguments of start
module _ (h : Handed) where
  -- the filter region of the first set, as it is after start
  abbrev pub input : Picture
  input = inner (layout h.setup) (start_leaves h)

  -- the smoothed samples (Specification 12.3): the input after all passes
  abbrev pub smoothed : Picture
  smoothed = passes (area h.setup (sigmas_filled h)) (passes_of h.setup) input

  -- the input at a position of the filter region
  abbrev pub input_at : ℕ → ℤ → ℤ → Float
  input_at = at h.setup.filter input

  -- the smoothed sample at a position of the filter region
  abbrev pub sample_at : ℕ → ℤ → ℤ → Float
  sample_at = at h.setup.filter smoothed

  -- the sigma of the block at a position of the filter region
  abbrev pub sigma_at : ℤ → ℤ → Float
  sigma_at x y = (area h.setup (sigmas_filled h)).sigma (nat_abs (x -ℤ h.setup.filter.left) / 8) (nat_abs (y -ℤ h.setup.filter.top) / 8)

-- the sample of the result at a position of the result region
abbrev pub result_at : Setup → List Float → ℕ → ℤ → ℤ → Float
result_at s out = at (result_region s) (of (result_region s).width (result_region s).height out)

-- The position is clear of the cut edges of the smaller region by m (Specification 13.5). An edge is cut if it does not coincide with the
-- same edge of the larger region.
pub record Clear (m : ℕ) (small large : Region) (x y : ℤ) : Type 0 where
  pub left : ((columns small).start ≡ (columns large).start → ⊥) → T (le_z ((columns small).start +ℤ pos m) x)
  pub right : ((columns small).end ≡ (columns large).end → ⊥) → T (lt_z (x +ℤ pos m) (columns small).end)
  pub top : ((rows small).start ≡ (rows large).start → ⊥) → T (le_z ((rows small).start +ℤ pos m) y)
  pub bottom : ((rows small).end ≡ (rows large).end → ⊥) → T (lt_z (y +ℤ pos m) (rows small).end)
