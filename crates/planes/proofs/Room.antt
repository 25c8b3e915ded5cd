-- Room in a slice: what the tests of a run and of a set say, and where rows and the filter region's part of a plane lie. Assumes nothing.
use mathlib.Core.Path.{◌≡◌}
use mathlib.Core.Bool.{true, ◌&&◌}
use Prim.Native.Nat.{ℕ, ◌+◌, ◌-◌, ◌*◌, ◌<◌, ◌≤◌}
use native.Mathlib.Nat.{suc-mul, mul-le-mul, mul-le-mul_right, add-mul}
use native.Mathlib.Decide.{dec_le}
use native.Mathlib.Omega.{arith}
use borrow.Author.Tests.{leb-true, eqb-true, le-leb, lt-leb, eq-eqb}
use lib.Dec.{eqb, leb}
use Rattle.planes.specs.declared.Layout.{Layout}
use Rattle.planes.specs.Band.{layout_fits, set_fits}
use Rattle.planes.proofs.Stored.{and_first, and_second, layout-fits}
use Rattle.planes.specs.Fits.{LayoutFits}

-- a test that n samples from index `at` end at `end` or before, without overflow
pub run_ends : (at n end : ℕ) → n ≤ end → leb at (end - n) ≡ leb (at + n) end
run_ends at n end h = go (dec_le (at + n) end)
  where
    go : Dec (at + n ≤ end) → leb at (end - n) ≡ leb (at + n) end
    go (yes p) = rw (le-leb at (end - n) (omega arith), le-leb (at + n) end p)
    go (no p) = rw (lt-leb at (end - n) (omega arith), lt-leb (at + n) end (omega arith))

-- ---- rows of w samples

-- row i of n ends within n rows
pub row_room : (i n w : ℕ) → i < n → i * w + w ≤ n * w
row_room i n w p = omega (arith, suc-mul i w, mul-le-mul_right w p)

-- m rows of plane c from row `top`: their indices fit machine integers, and they lie within n planes of h rows
pub record RowsRoom (w h n c top m : ℕ) : Type 0 where
  pub lines : c * h ≤ 49152
  pub start : (c * h + top) * w ≤ 65536 * 16384
  pub ends : (c * h + top) * w + m * w ≤ n * h * w

pub rows-room : (w h n c top m : ℕ) → w ≤ 16384 → h ≤ 16384 → top + m ≤ h → n ≤ 3 → c < n → RowsRoom w h n c top m
rows-room w h n c top m wide high down q p =
    let few : c ≤ 3 = omega arith in
    let a : c * h ≤ 3 * 16384 = mul-le-mul few high in
    let b : c * h + top ≤ 65536 = omega arith in
    let t : c * h + top + m ≤ n * h = omega (arith, suc-mul c h, mul-le-mul_right h p) in
    record { lines = omega arith; start = mul-le-mul b wide; ends = omega (arith, add-mul (c * h + top) m w, mul-le-mul_right w t) }

-- ---- sets

-- a slice of length len is a set of n planes
pub record SetFits (l : Layout) (n len : ℕ) : Type 0 where
  pub layout : LayoutFits l
  pub planes : n ≤ 3
  pub size : len ≡ n * l.image.height * l.image.width

pub set-facts : (l : Layout) (n len : ℕ) → set_fits l n len ≡ true → SetFits l n len
set-facts l n len e =
    let length-fits = eqb len (n * l.image.height * l.image.width) in
    let few = and_second (layout_fits l) (leb n 3 && length-fits) e in
    record {
      layout = layout-fits l (and_first (layout_fits l) (leb n 3 && length-fits) e);
      planes = leb-true _ _ (and_first (leb n 3) length-fits few);
      size = eqb-true _ _ (and_second (leb n 3) length-fits few);
    }

pub set-true : (l : Layout) (n len : ℕ) → SetFits l n len → set_fits l n len ≡ true
set-true l n len s =
    let f = s.layout in
    rw (
      le-leb l.image.width 16384 f.width-le,
      le-leb l.image.height 16384 f.height-le,
      le-leb (l.left + l.width) l.image.width f.across,
      le-leb (l.top + l.height) l.image.height f.down,
      le-leb n 3 s.planes,
      eq-eqb len (n * l.image.height * l.image.width) s.size,
    )

-- ---- the filter region's part of a plane

-- the index of its first sample
abbrev pub region_start : Layout → ℕ → ℕ
region_start l c = (c * l.image.height + l.top) * l.image.width + l.left

pub region-index : (l : Layout) (c x y : ℕ) → region_start l c + y * l.image.width + x ≡ (c * l.image.height + (l.top + y)) * l.image.width + (l.left + x)
region-index l c x y =
    let e : c * l.image.height + (l.top + y) ≡ c * l.image.height + l.top + y = omega arith in
    rw e (omega (arith, add-mul (c * l.image.height + l.top) y l.image.width))

-- its rows, in plane c of n
abbrev pub PlaneRoom : Layout → ℕ → ℕ → Type 0
PlaneRoom l n c = RowsRoom l.image.width l.image.height n c l.top l.height

pub plane-room : (l : Layout) (n c : ℕ) → LayoutFits l → n ≤ 3 → c < n → PlaneRoom l n c
plane-room l n c f = rows-room l.image.width l.image.height n c l.top l.height f.width-le f.height-le f.down
