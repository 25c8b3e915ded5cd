-- Rows of the Gabor-like filter in one plane, and the outcome for every input. Definitions only.
use Rattle.std.specs.Prelude.{Bool, cond, ◌&&◌, List, ℕ, ◌+◌, ◌-◌, ◌*◌, leb, eqb, length, Float}
use Rattle.planes.specs.Rect.{rows_fill}
use Rattle.gabor_kernel.specs.declared.Kernel.{Kernel}
use Rattle.gabor_kernel.specs.Gabor.{kernel_of}
use Rattle.gabor_plane.specs.declared.PlaneRegion.{PlaneRegion}
use Rattle.gabor_plane.specs.Rows.{max_side, region_sample}

-- rows of a filtered region, counted from row `from`
unfoldable pub region_rows : List Float → PlaneRegion → Kernel → ℕ → ℕ → ℕ → Float
region_rows s r k from i x = region_sample s r k (from + i) x

-- a region with sides of 1 to 16,384 lies in a list of length len, and width ≤ stride ≤ 16,384
abbrev pub region_fits : PlaneRegion → ℕ → Bool
region_fits r len =
    (leb 1 r.width && leb 1 r.height)
    && ((leb r.width r.stride && leb r.stride max_side) && (leb r.height max_side && leb (r.at + ((r.height - 1) * r.stride + r.width)) len))

-- n rows from row `from` of a region that lies in both lists
abbrev pub plane_fits : PlaneRegion → ℕ → ℕ → ℕ → ℕ → Bool
plane_fits r from n src dst = region_fits r src && (eqb dst src && leb (from + n) r.height)

-- those rows are filtered and all else stays; if they do not fit, everything stays
unfoldable pub plane_outcome : PlaneRegion → ℕ → ℕ → Float → Float → List Float → List Float → List Float
plane_outcome r from n w0 w1 src dst =
    cond (plane_fits r from n (length src) (length dst))
    (rows_fill dst (r.at + from * r.stride) r.stride r.width n (region_rows src r (kernel_of w0 w1) from)) dst
