-- When a window fits, and the invariants of the loops that load it. Assumes nothing.
use mathlib.Core.Path.{◌≡◌, refl, ap, ◌∙◌}
use mathlib.Core.List.{List}
use Prim.Native.Nat.{ℕ, ◌+◌, ◌-◌, ◌*◌, ◌<◌, ◌≤◌}
use native.Mathlib.Nat.{mul-le-mul_right, add-mul}
use native.Mathlib.Omega.{arith}
use borrow.Author.Tests.{le-ltb, lt-ltb, le-leb}
use lib.ListN.{length, get_or}
use lib.IntN.{sub_ℕ}
use lib.Ieee.{Float, nan}
use Rattle.mirror.specs.Mirror.{mirror}
use Rattle.mirror.proofs.Laws.{mirror-in, mirror-lt}
use Rattle.planes.specs.declared.Layout.{Layout}
use Rattle.planes.specs.Sets.{of}
use Rattle.planes.specs.Fill.{fill}
use Rattle.planes.proofs.Fill.{fill-cong, fill-then}
use Rattle.planes.specs.Rect.{rows_fill}
use Rattle.planes.proofs.Rect.{planes-turn}
use Rattle.planes.specs.Band.{inner}
use Rattle.planes.proofs.Room.{set-true, region_start, region-index, plane-room}
use Rattle.epf_window.specs.declared.WindowPart.{WindowPart}
use Rattle.epf_window.specs.Window.{row_sample, window_sample, window_filled, loaded, WindowFits, PlaneFits}

-- a mirrored index lies inside the row
pub ruleset mirror_inside = (mirror-lt)

-- ---- a row: mirrored left of the region, copied inside it, mirrored right of it
module _ (src : List Float) (row x w : ℕ) where
  sample-later : (m j : ℕ) → row_sample src row (x + m) w j ≡ row_sample src row x w (m + j)
  unfolding row_sample
  sample-later m j = let z : x + m + j ≡ x + (m + j) = omega arith in rw z

  sample-inside : (from m j : ℕ) → 4 ≤ x + m → from ≡ row + (x + m - 4) → x + m + j < w + 4 → get_or src (from + j) nan ≡ row_sample src row x w (m + j)
  unfolding row_sample
  sample-inside from m j p e q =
      let z : from + j ≡ row + (x + (m + j) - 4) = omega arith in
      rw (le-ltb (x + (m + j)) 4 (omega arith), mirror-in w (x + (m + j) - 4) (omega arith), z)

  -- the row after the three loops
  pub row_loaded : (win a b d : List Float) (at low high cols from : ℕ) → low ≤ high → high ≤ cols → 4 ≤ x + low → x + high ≤ w + 4 → from ≡ row + (x + low - 4)
      → a ≡ fill win at low (row_sample src row x w) → b ≡ fill a (at + low) (high - low) (λ j. get_or src (from + j) nan)
      → d ≡ fill b (at + high) (cols - high) (row_sample src row (x + high) w) → d ≡ fill win at cols (row_sample src row x w)
  row_loaded win a b d at low high cols from p q r s e ea eb ed =
      let z : low + (high - low) ≡ high = omega arith in
      let y : high + (cols - high) ≡ cols = omega arith in
      let first : b ≡ fill win at high (row_sample src row x w) =
      eb ∙ rw ea (fill-then win at low (high - low) (row_sample src row x w) _ (row_sample src row x w) (λ i l. refl) (λ i l. sample-inside from low i r e (omega arith)) ∙ rw z) in
      ed ∙ rw first (fill-then win at high (cols - high) (row_sample src row x w) _ (row_sample src row x w) (λ i l. refl) (λ i l. sample-later high i) ∙ rw y)

-- ---- a plane

-- the row at index k lies inside the list
pub row_room : (l : Layout) (c k len : ℕ) → (c * l.image.height + l.top + (l.height - 1)) * l.image.width + l.left + l.width ≤ len → k < l.height → region_start l c + k * l.image.width + l.width ≤ len
row_room l c k len r h =
    let m : k * l.image.width ≤ (l.height - 1) * l.image.width = mul-le-mul_right l.image.width (omega arith) in
    omega (arith, r, m, add-mul (c * l.image.height + l.top) (l.height - 1) l.image.width)

-- row i of the part, read from the row at the mirrored index k
pub row_is : (l : Layout) (src a b : List Float) (p : WindowPart) (c o i k q : ℕ) → k ≡ mirror (sub_ℕ (p.y + (p.top + i)) 3) l.height → q ≡ region_start l c + k * l.image.width
    → b ≡ fill a o p.cols (row_sample src q p.x l.width) → b ≡ fill a o p.cols (λ j. window_sample l src p.x p.y c j (p.top + i))
unfolding row_sample window_sample inner of
row_is l src a b p c o i k q ek eq h =
    h ∙ fill-cong a o p.cols _ _ (λ j _. ap (λ (m : ℕ). get_or src m nan) (rw (eq, ek) (region-index l c (mirror (sub_ℕ (p.x + j) 4) l.width) (mirror (sub_ℕ (p.y + (p.top + i)) 3) l.height))))

-- an iteration of the loop over planes
pub plane-next : (l : Layout) (src win a b : List Float) (p : WindowPart) (k : ℕ)
    → a ≡ window_filled l k src p.x p.y p.top p.rows p.cols win
    → b ≡ rows_fill a ((k * 14 + p.top) * 72) 72 p.cols p.rows (λ i j. window_sample l src p.x p.y k j (p.top + i))
    → b ≡ window_filled l (k + 1) src p.x p.y p.top p.rows p.cols win
plane-next l src win a b p k e q =
    let z : (k * 14 + p.top) * 72 ≡ (k * 14 + p.top) * 72 + 0 = omega arith in
    planes-turn 72 14 0 p.cols p.top p.rows (λ c j i. window_sample l src p.x p.y c j (p.top + i)) win a b k e (rw z at q)

-- what plane c's loop requires
pub plane-fits : (l : Layout) (n c len : ℕ) (p : WindowPart) → WindowFits l n len p.x p.y p.top p.rows p.cols → c < n → PlaneFits l c p len
plane-fits l n c len p f lt =
    let g = f.layout in
    let r = plane-room l n c g f.planes-le lt in
    let h : l.height - 1 + 1 ≡ l.height = omega (arith, f.y-lt) in
    record {
      layout = g;
      plane-le = omega (arith, f.planes-le);
      region-le = omega (arith, f.source, g.across, r.ends, add-mul (c * l.image.height + l.top + (l.height - 1)) 1 l.image.width, ap (λ (k : ℕ). (c * l.image.height + l.top + k) * l.image.width) h);
      x_lt = f.x_lt;
      y-lt = f.y-lt;
      rows-le = f.rows-le;
      cols-ge = f.cols-ge;
      cols-le = f.cols-le;
    }

-- ---- a window that fits
module _ (l : Layout) (n : ℕ) (src : List Float) (x y top rows cols : ℕ) (win : List Float) where
  pub window-loaded : WindowFits l n (length src) x y top rows cols → loaded l n src x y top rows cols win ≡ window_filled l n src x y top rows cols win
  unfolding loaded
  window-loaded f =
      rw (
        set-true l n (length src) (record { layout = f.layout; planes = f.planes-le; size = f.source }),
        lt-ltb x l.width f.x_lt,
        lt-ltb y l.height f.y-lt,
        le-leb top 14 (omega (arith, f.rows-le)),
        le-leb rows (14 - top) (omega (arith, f.rows-le)),
        le-leb 4 cols f.cols-ge,
        le-leb cols 72 f.cols-le,
      )
