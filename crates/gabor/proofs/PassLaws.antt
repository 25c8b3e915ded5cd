-- The result of the loops over rows and planes is the pass over the filter region. Assumes nothing.
use mathlib.Core.Path.{◌≡◌, sym, ap, ◌∙◌}
use mathlib.Core.List.{List}
use Prim.Native.Nat.{ℕ, ◌+◌, ◌-◌, ◌*◌, ◌<◌, ◌≤◌}
use native.Mathlib.Nat.{add-mul}
use native.Mathlib.Omega.{arith}
use lib.ListN.{length, get_or}
use lib.IntN.{pos, ◌+ℤ◌}
use lib.Ieee.{Float, nan}
use Rattle.mirror.specs.Mirror.{mirror}
use Rattle.planes.specs.declared.Layout.{Layout}
use Rattle.planes.specs.Picture.{around}
use Rattle.planes.specs.Sets.{of}
use Rattle.planes.specs.Rect.{planes_fill}
use Rattle.planes.proofs.Rect.{planes-turn, rows-cong}
use Rattle.planes.specs.Band.{inner, passed, copied_outside, filter_row}
use Rattle.planes.specs.Fits.{LayoutFits, BandFits}
use Rattle.planes.proofs.Stored.{passed_over, fits-copied}
use Rattle.planes.proofs.Room.{region_start, region-index, PlaneRoom}
use Rattle.gabor_kernel.specs.Ends.{stands}
use Rattle.gabor_kernel.specs.Gabor.{kernel_of, gabor, side_weight, diagonal_weight, gabor_pass}
use Rattle.gabor_kernel.proofs.Local.{gabor_by-same}
use Rattle.gabor_plane.specs.declared.PlaneRegion.{PlaneRegion}
use Rattle.gabor_plane.specs.Rows.{region, region_sample, RegionFits}
use Rattle.gabor_plane.proofs.RowLaws.{row_above}
use Rattle.gabor_plane.specs.Plane.{region_rows, plane_outcome}
use Rattle.gabor_plane.proofs.Plane.{region-true, plane_rows}
use Rattle.gabor.specs.Pass.{pass_rows}

-- the filter region of plane c, as a region of the list
abbrev pub filter_region : Layout → ℕ → PlaneRegion
filter_region l c = record { at = region_start l c; stride = l.image.width; width = l.width; height = l.height }

module _ (l : Layout) (s : List Float) (c : ℕ) where
  pub region-sample : (w0 w1 : Float) (y x : ℕ)
      → region_sample s (filter_region l c) (kernel_of w0 w1) y x
      ≡ gabor w0 w1 (around l.width l.height (inner l s) x y c) (stands l.width x) (stands l.height y)
  unfolding region_sample region around inner of
  region-sample w0 w1 y x = gabor_by-same (kernel_of w0 w1) _ _
      (λ dx dy p q. ap (λ (i : ℕ). get_or s i nan) (region-index l c (mirror (pos x +ℤ dx) l.width) (mirror (pos y +ℤ dy) l.height))) (stands l.width x) (stands l.height y)

-- an iteration of the loop over planes
pub plane_next : (l : Layout) (ws : List (List Float)) (s d a b : List Float) (k from m : ℕ)
    → a ≡ planes_fill l.image.width l.image.height l.left l.width (l.top + from) m (pass_rows ws l s from) d k
    → RegionFits (filter_region l k) (length s) → length a ≡ length s → from + m ≤ l.height
    → b ≡ plane_outcome (filter_region l k) from m (side_weight ws k) (diagonal_weight ws k) s a
    → b ≡ planes_fill l.image.width l.image.height l.left l.width (l.top + from) m (pass_rows ws l s from) d (k + 1)
unfolding region_rows pass_rows gabor_pass
plane_next l ws s d a b k from m p f len rows q =
    let z : region_start l k + from * l.image.width ≡ (k * l.image.height + (l.top + from)) * l.image.width + l.left =
    let r : k * l.image.height + (l.top + from) ≡ k * l.image.height + l.top + from = omega arith in
    rw r (omega (arith, add-mul (k * l.image.height + l.top) from l.image.width)) in
    planes-turn l.image.width l.image.height l.left l.width (l.top + from) m _ d a b k p
    (q ∙ sym (plane_rows (filter_region l k) from m (side_weight ws k) (diagonal_weight ws k) s a (region-true (filter_region l k) (length s) f) len rows)
    ∙ rw z (rows-cong a _ l.image.width l.width m _ _ (λ i x h t. region-sample l s k (side_weight ws k) (diagonal_weight ws k) (from + i) x)))

-- the filter region's part of plane c lies within the n planes
pub plane_region : (l : Layout) (n c : ℕ) → LayoutFits l → PlaneRoom l n c → 0 < l.width → 0 < l.height
    → RegionFits (filter_region l c) (n * l.image.height * l.image.width)
plane_region l n c f r w h = record {
  width-pos = w;
  height-pos = h;
  width-le-stride = omega (arith, f.across);
  stride-le = f.width-le;
  height-le = omega (arith, f.down, f.height-le);
  end-le = omega (arith, f.across, r.ends, row_above l.height l.image.width h);
}

-- a band: samples outside the filter region are copied, then those inside are filtered
pub band_passed : (l : Layout) (n from to f t : ℕ) (ws : List (List Float)) (src dst a b : List Float) → BandFits l n from to src dst
    → a ≡ copied_outside l n from to src dst → f ≡ filter_row l from → t ≡ filter_row l to
    → b ≡ planes_fill l.image.width l.image.height l.left l.width (l.top + f) (t - f) (pass_rows ws l src f) a n
    → b ≡ passed n l from to (gabor_pass ws l.width l.height (inner l src)) src dst
unfolding pass_rows
band_passed l n from to f t ws src dst a b fits e p q h =
    passed_over l n from to src dst fits (gabor_pass ws l.width l.height (inner l src)) b
    (h ∙ rw (e, fits-copied l n from to src dst fits, p, q))
