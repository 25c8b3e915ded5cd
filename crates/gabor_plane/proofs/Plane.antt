-- When rows of one plane fit, and the result of the loop over them. Assumes nothing.
use mathlib.Core.Path.{◌≡◌}
use mathlib.Core.Bool.{true, false}
use mathlib.Core.List.{List}
use Prim.Native.Nat.{ℕ, ◌+◌, ◌-◌, ◌*◌, ◌<◌, ◌≤◌}
use borrow.Author.Tests.{le-leb, lt-leb, eq-eqb}
use lib.Dec.{eqb}
use lib.ListN.{length}
use lib.Ieee.{Float}
use Rattle.planes.specs.Rect.{rows_fill}
use Rattle.gabor_kernel.specs.Gabor.{kernel_of}
use Rattle.gabor_plane.specs.declared.PlaneRegion.{PlaneRegion}
use Rattle.gabor_plane.specs.Rows.{RegionFits}
use Rattle.gabor_plane.specs.Plane.{region_rows, region_fits, plane_outcome}

-- ---- laws

pub region-true : (r : PlaneRegion) (len : ℕ) → RegionFits r len → region_fits r len ≡ true
region-true r len f =
    rw (
      le-leb 1 r.width f.width-pos,
      le-leb 1 r.height f.height-pos,
      le-leb r.width r.stride f.width-le-stride,
      le-leb r.stride 16384 f.stride-le,
      le-leb r.height 16384 f.height-le,
      le-leb (r.at + ((r.height - 1) * r.stride + r.width)) len f.end-le,
    )

module _ (r : PlaneRegion) (from n : ℕ) (w0 w1 : Float) (src dst : List Float) where
  pub no_region : region_fits r (length src) ≡ false → dst ≡ plane_outcome r from n w0 w1 src dst
  unfolding plane_outcome
  no_region e = rw e

  pub no_length : region_fits r (length src) ≡ true → eqb (length dst) (length src) ≡ false → dst ≡ plane_outcome r from n w0 w1 src dst
  unfolding plane_outcome
  no_length e f = rw (e, f)

  pub no_row : region_fits r (length src) ≡ true → length dst ≡ length src → r.height < from + n → dst ≡ plane_outcome r from n w0 w1 src dst
  unfolding plane_outcome
  no_row e f g = rw (e, eq-eqb (length dst) (length src) f, lt-leb (from + n) r.height g)

  pub plane_rows : region_fits r (length src) ≡ true → length dst ≡ length src → from + n ≤ r.height
      → rows_fill dst (r.at + from * r.stride) r.stride r.width n (region_rows src r (kernel_of w0 w1) from) ≡ plane_outcome r from n w0 w1 src dst
  unfolding plane_outcome
  plane_rows e f g = rw (e, eq-eqb (length dst) (length src) f, le-leb (from + n) r.height g)
