-- What a setup in range has: its regions, and a band for each row. Assumes nothing.
use mathlib.Core.Path.{◌≡◌}
use mathlib.Core.Bool.{Bool, true, false, cond, ◌&&◌}
use Prim.Native.Nat.{ℕ, ◌+◌, ◌-◌, ◌*◌, ◌/◌, ◌%◌, ◌<◌, ◌≤◌}
use native.Mathlib.Nat.{le-div_iff_mul-le, div-mul-le_self, suc-mul, div-add-mod', mod-lt}
use native.Mathlib.Omega.{arith}
use borrow.Author.Tests.{le-leb}
use lib.Dec.{T, leb, leb→le, le→leb}
use lib.Ieee.Fits.{and_l, and_r, and_i}
use Rattle.region.specs.Regions.{inside}
use Rattle.region.specs.Measures.{picture_fits}
use Rattle.region.proofs.Laws.{picture-bounds, picture-width, picture-height, picture-area, bounds-width, bounds-height}
use Rattle.refusals.specs.Checks.{first_of}
use Rattle.region.specs.declared.Region.{Region}
use Rattle.region_placement.specs.Placed.{placed_checks}
use Rattle.region_placement.proofs.PlacedLaws.{placed-inside}
use Rattle.planes_layout.proofs.Fits.{Accepted, layout-accepted}
use Rattle.region_placement.specs.Blocks.{on_blocks}
use Rattle.planes.specs.Band.{planes_fit}
use Rattle.run_passes.specs.Plan.{gabor_fits}
use Rattle.run_setup.specs.declared.Setup.{Setup}
use Rattle.refusals.proofs.Tables.{is_true}
use Rattle.run_setup.specs.Setup.{max_bands, full_planes, full_fits, numbers_fit, layout, epf_on, row_count, band_count, band_from, band_to, size_fits, result_region, iters_fit, blocks_fit, height_fits, count_fits, setup_fits}
use Rattle.run_setup.specs.SetupFits.{SetupFits}

blocks-are : (on b : Bool) → T (cond on b true) → T on → T b
blocks-are true b t o = t
blocks-are false b t o = absurd o

are-blocks : (on b : Bool) → (T on → T b) → T (cond on b true)
are-blocks true b f = f tt
are-blocks false b f = tt

pub setup-fits : (s : Setup) → T (setup_fits s) → SetupFits s
unfolding setup_fits numbers_fit
setup-fits s t =
    let pictures = picture_fits s.image && picture_fits s.filter in
    let placed = inside s.image s.filter && blocks_fit s in
    let gabor = gabor_fits s.settings in
    let bands = height_fits s && count_fits s in
    let p = and_l (pictures && placed) (numbers_fit s) t in
    let q = and_r (pictures && placed) (numbers_fit s) t in
    let few = planes_fit s.planes in
    let counts = and_r (iters_fit s) (few && (full_fits s && (gabor && bands))) q in
    let flags = and_r few (full_fits s && (gabor && bands)) counts in
    let u = and_r gabor bands (and_r (full_fits s) (gabor && bands) flags) in
    let h = and_l (height_fits s) (count_fits s) u in
    record {
      image = and_l (picture_fits s.image) (picture_fits s.filter) (and_l pictures placed p);
      filter = and_r (picture_fits s.image) (picture_fits s.filter) (and_l pictures placed p);
      contained = and_l (inside s.image s.filter) (blocks_fit s) (and_r pictures placed p);
      blocks = blocks-are (epf_on s) (on_blocks s.filter) (and_r (inside s.image s.filter) (blocks_fit s) (and_r pictures placed p));
      iterations = leb→le s.settings.epf.iters 3 (and_l (iters_fit s) (few && (full_fits s && (gabor && bands))) q);
      planes = and_l few (full_fits s && (gabor && bands)) counts;
      full = and_l (full_fits s) (gabor && bands) flags;
      gabor = and_l gabor bands (and_r (full_fits s) (gabor && bands) flags);
      height-least = leb→le 1 s.band_height (and_l (leb 1 s.band_height) (leb s.band_height 16384) h);
      height-most = leb→le s.band_height 16384 (and_r (leb 1 s.band_height) (leb s.band_height 16384) h);
      count = leb→le (band_count s) max_bands (and_r (height_fits s) (count_fits s) u);
    }

pub fits-setup : (s : Setup) → SetupFits s → T (setup_fits s)
unfolding setup_fits numbers_fit
fits-setup s f =
    let gabor = gabor_fits s.settings in
    let bands = height_fits s && count_fits s in
    and_i ((picture_fits s.image && picture_fits s.filter) && (inside s.image s.filter && blocks_fit s)) (numbers_fit s)
    (and_i (picture_fits s.image && picture_fits s.filter) (inside s.image s.filter && blocks_fit s)
    (and_i (picture_fits s.image) (picture_fits s.filter) f.image f.filter)
    (and_i (inside s.image s.filter) (blocks_fit s) f.contained (are-blocks (epf_on s) (on_blocks s.filter) f.blocks)))
    (and_i (iters_fit s) (planes_fit s.planes && (full_fits s && (gabor && bands))) (le→leb s.settings.epf.iters 3 f.iterations)
    (and_i (planes_fit s.planes) (full_fits s && (gabor && bands)) f.planes
    (and_i (full_fits s) (gabor && bands) f.full (and_i gabor bands f.gabor
    (and_i (height_fits s) (count_fits s)
    (and_i (leb 1 s.band_height) (leb s.band_height 16384) (le→leb 1 s.band_height f.height-least) (le→leb s.band_height 16384 f.height-most))
    (le→leb (band_count s) max_bands f.count))))))

-- sides and area of a picture's region
pub picture-size : (r : Region) → T (picture_fits r) → size_fits r ≡ true
unfolding size_fits
picture-size r t =
    let m = picture-bounds r t in
    rw (
      le-leb r.width 16384 (bounds-width r m),
      le-leb r.height 16384 (bounds-height r m),
      le-leb 1 r.width (picture-width r t),
      le-leb 1 r.height (picture-height r t),
      le-leb (r.width * r.height) 16777216 (picture-area r t),
    )

module _ (s : Setup) (f : SetupFits s) where
  pub image-size : size_fits s.image ≡ true
  image-size = picture-size s.image f.image

  pub filter-size : size_fits s.filter ≡ true
  filter-size = picture-size s.filter f.filter

  pub result-size : size_fits (result_region s) ≡ true
  result-size = go (full_planes s)
    where
      go : (b : Bool) → size_fits (cond b s.image s.filter) ≡ true
      go true = image-size
      go false = filter-size

  -- neither 4 nor 5 applies
  pub placed-accepted : first_of (placed_checks s.image s.filter) ≡ 0
  placed-accepted = placed-inside s.image s.filter (is_true (picture_fits s.image) f.image) (is_true (picture_fits s.filter) f.filter) (is_true (inside s.image s.filter) f.contained)

  -- in its layout the filter region lies inside the image region
  pub setup-layout : Accepted (layout s)
  setup-layout = layout-accepted s.image s.filter (full_planes s) placed-accepted

-- ---- bands

-- each row of the result region lies in a band
pub record InBand (s : Setup) (k y : ℕ) : Type 0 where
  pub from : band_from s k ≤ y
  pub to : y < band_to s k

div-up : (r m b : ℕ) → 0 < b → r < m → r / b < (m + b - 1) / b
div-up r m b p h = (le-div_iff_mul-le p).1 (omega (arith, suc-mul (r / b) b, div-mul-le_self r b))

pub band-of : (s : Setup) → SetupFits s → (y : ℕ) → y < row_count s → (y / s.band_height < band_count s) × InBand s (y / s.band_height) y
unfolding band_count
band-of s f y h =
    let b = s.band_height in
    let p : 0 < b = f.height-least in
    let up : y / b < (row_count s + b - 1) / b = div-up y (row_count s) b p h in
    let e : y / b * b + y % b ≡ y = div-add-mod' y b in
    let m : y % b < b = mod-lt y p in
    (up, record { from = omega arith; to = omega arith })
