-- Strips make rows of the filter region. Assumes nothing.
use mathlib.Core.Path.{◌≡◌, refl, ◌∙◌}
use mathlib.Core.List.{List}
use Prim.Native.Nat.{ℕ, ◌+◌, ◌-◌, ◌*◌, ◌≤◌}
use native.Mathlib.Omega.{arith}
use borrow.Author.Tests.{le-leb, lt-ltb, eq-eqb}
use lib.ListN.{length}
use lib.Ieee.{Float}
use Rattle.planes.specs.declared.Layout.{Layout}
use Rattle.planes.specs.Picture.{Picture}
use Rattle.planes.specs.Rect.{planes_fill}
use Rattle.planes.proofs.Rect.{rows-none}
use Rattle.planes.proofs.Join.{rect-below}
use Rattle.planes.specs.Fits.{LayoutFits}
use Rattle.planes.proofs.Room.{set-true}
use Rattle.epf_tiles.specs.declared.Step.{Step}
use Rattle.epf_tiles.specs.Tile.{step_over}
use Rattle.epf_tiles.specs.Blocks.{block_columns, block_rows}
use Rattle.epf_tiles.specs.Region.{RegionFits, region_of}

-- no rows
pub rows_start : (w h left n top y : ℕ) (v : Picture) (d : List Float) (k : ℕ) → d ≡ planes_fill w h left n top (y - y) v d k
rows_start w h left n top y v d k = let z : y - y ≡ 0 = omega arith in rw z (rows-none w h left n top v d k)

-- one more strip
pub strip-below : (l : Layout) (n : ℕ) (p : Picture) (d a b : List Float) (from y rows : ℕ) → length d ≡ n * l.image.height * l.image.width → LayoutFits l → from ≤ y → y + rows ≤ l.height
    → a ≡ planes_fill l.image.width l.image.height l.left l.width (l.top + from) (y - from) (λ c i r. p c i (from + r)) d n
    → b ≡ planes_fill l.image.width l.image.height l.left l.width (l.top + y) rows (λ c i r. p c i (y + r)) a n
    → b ≡ planes_fill l.image.width l.image.height l.left l.width (l.top + from) (y + rows - from) (λ c i r. p c i (from + r)) d n
strip-below l n p d a b from y rows long lay h deep ea eb =
    let at : l.top + from + (y - from) ≡ l.top + y = omega arith in
    let m : y + rows - from ≡ y - from + rows = omega arith in
    rw m (rect-below n l.image.width l.image.height n (omega arith) l.left l.width (l.top + from) (y - from) rows _ (λ c i r. p c i (y + r)) (λ c i r. p c i (from + r)) d a b long lay.across (omega (arith, lay.down)) ea (rw at eb)
    (λ c i r _ _ _. refl) (λ c i r _ _ _. let z : from + (y - from + r) ≡ y + r = omega arith in rw z))

pub region-long : {l : Layout} {n : ℕ} {s : Step} {top a b count : ℕ} → a ≡ b → RegionFits l n s top b count → RegionFits l n s top a count
region-long e f = rw e f

module _ (n : ℕ) (l : Layout) (s : Step) (top from to : ℕ) (sigmas src dst : List Float) where
  pub region-done : RegionFits l n s top (length dst) (length sigmas) → length src ≡ length dst → from ≤ to → to ≤ l.height
      → region_of n l s top from to sigmas src dst
      ≡ planes_fill l.image.width l.image.height l.left l.width (l.top + from) (to - from) (λ c i r. step_over n l s top sigmas src c i (from + r)) dst n
  unfolding region_of
  region-done f e p q =
      rw (
        set-true l n (length src) (record { layout = f.layout; planes = f.planes-le; size = e ∙ f.set }),
        set-true l n (length dst) (record { layout = f.layout; planes = f.planes-le; size = f.set }),
        eq-eqb (length sigmas) (block_rows l * block_columns l) f.sigmas,
        lt-ltb s.step 3 f.step-lt,
        le-leb top 4294967296 f.top-le,
        le-leb from to p,
        le-leb to l.height q,
      )
