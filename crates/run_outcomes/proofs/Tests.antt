-- The code's tests of lengths agree with the definitions. Assumes nothing.
use mathlib.Core.Path.{◌≡◌}
use mathlib.Core.Bool.{true, ◌&&◌}
use Prim.Native.Nat.{ℕ, ◌+◌, ◌/◌, ◌≤◌}
use native.Mathlib.Omega.{arith}
use borrow.Author.Tests.{leb-true}
use lib.Dec.{leb}
use Rattle.region.specs.declared.Region.{Region}
use Rattle.planes.proofs.Stored.{and_first, and_second}
use Rattle.frame.specs.Sizes.{divided_up}
use Rattle.run_setup.specs.Setup.{size_fits}

-- ---- the sides of a region that is within the limits

pub record Sides (r : Region) : Type 0 where
  pub width-le : r.width ≤ 16384
  pub height-le : r.height ≤ 16384

pub size-sides : (r : Region) → size_fits r ≡ true → Sides r
unfolding size_fits
size-sides r e =
    let s = and_first (leb r.width 16384 && leb r.height 16384) _ e in
    record { width-le = leb-true _ _ (and_first (leb r.width 16384) (leb r.height 16384) s); height-le = leb-true _ _ (and_second (leb r.width 16384) (leb r.height 16384) s) }

-- ---- the block sigmas

-- two formulas for the number of blocks along a side
pub blocks-same : (m : ℕ) → divided_up m 8 ≡ (m + 7) / 8
blocks-same m = omega arith
