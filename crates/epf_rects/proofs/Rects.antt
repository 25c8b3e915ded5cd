-- When a rectangle fits, and the invariants of the loops that copy it. Assumes nothing.
use mathlib.Core.Path.{◌≡◌, ap, ◌∙◌}
use mathlib.Core.Bool.{true, ◌&&◌}
use mathlib.Core.List.{List}
use Prim.Native.Nat.{ℕ, ◌+◌, ◌*◌, ◌<◌, ◌≤◌}
use native.Mathlib.Nat.{suc-mul, mul_assoc, mul-le-mul, mul-le-mul_right, add-mul}
use native.Mathlib.Omega.{arith}
use borrow.Author.Tests.{leb-true, le-leb, eq-eqb}
use lib.Dec.{leb}
use lib.ListN.{length, get_or}
use lib.Ieee.{Float, nan}
use Rattle.planes.specs.declared.Layout.{Layout}
use Rattle.planes.specs.Sets.{of}
use Rattle.planes.specs.Rect.{rows_fill}
use Rattle.planes.proofs.Rect.{planes-turn, rows-cong}
use Rattle.planes.specs.Band.{inner, set_fits}
use Rattle.planes.proofs.Stored.{and_first, and_second}
use Rattle.planes.proofs.Room.{set-facts, set-true}
use Rattle.epf_rects.specs.declared.Rect.{Rect}
use Rattle.epf_rects.specs.Rects.{rect_filled, rect_fits, copied_rect, RectFits}

-- where the rectangle starts in plane c
abbrev pub rect_start : Layout → ℕ → ℕ → ℕ → ℕ
rect_start l c x y = (c * l.image.height + (l.top + y)) * l.image.width + (l.left + x)

-- plane c of the rectangle, in machine integers
pub record PlaneRoom (l : Layout) (c : ℕ) (q : Rect) (len : ℕ) : Type 0 where
  pub rows-above-le : c * l.image.height ≤ 49152
  pub start-le : (c * l.image.height + (l.top + q.y)) * l.image.width ≤ 65536 * 16384
  pub rows-fit : (r : ℕ) → r < q.rows → rect_start l c q.x q.y + r * l.image.width + q.cols ≤ len

pub plane-room : (l : Layout) (n c : ℕ) (q : Rect) (len : ℕ) → RectFits l n q len → c < n → PlaneRoom l c q len
plane-room l n c q len f p =
    let few : c ≤ 2 = omega (arith, f.planes-le) in
    let g = f.layout in
    let y = q.y in
    let a : c * l.image.height ≤ 2 * 16384 = mul-le-mul few g.height-le in
    let b : c * l.image.height + (l.top + y) ≤ 65536 = omega (arith, g.down, g.height-le, f.down) in
    record {
      rows-above-le = omega arith;
      start-le = mul-le-mul b g.width-le;
      rows-fit = λ r h.
          let t : c * l.image.height + (l.top + y) + r + 1 ≤ n * l.image.height = omega (arith, g.down, f.down, suc-mul c l.image.height, mul-le-mul_right l.image.height p) in
          omega (arith, f.set, g.across, f.across, add-mul (c * l.image.height + (l.top + y)) r l.image.width, add-mul (c * l.image.height + (l.top + y) + r) 1 l.image.width, mul-le-mul_right l.image.width t);
    }

-- ---- a rectangle of a set as a picture over the filter region

-- sample i of row r of the rectangle, in plane c
placed-inner : (l : Layout) (src : List Float) (x y c i r : ℕ) → get_or src (rect_start l c x y + r * l.image.width + i) nan ≡ inner l src c (x + i) (y + r)
unfolding inner of
placed-inner l src x y c i r =
    let z : c * l.image.height + (l.top + (y + r)) ≡ c * l.image.height + (l.top + y) + r = omega arith in
    ap (λ (k : ℕ). get_or src k nan) (rw z (omega (arith, add-mul (c * l.image.height + (l.top + y)) r l.image.width)))

-- the same with an index split into plane and index in it
pub taken-inner : (l : Layout) (src : List Float) (x y at plane c i r : ℕ) → at ≡ (l.top + y) * l.image.width + (l.left + x) → plane ≡ l.image.height * l.image.width
    → get_or src (at + c * plane + r * l.image.width + i) nan ≡ inner l src c (x + i) (y + r)
taken-inner l src x y at plane c i r p q = rw start (placed-inner l src x y c i r)
  where
    start : at + c * plane ≡ rect_start l c x y
    start = rw (p, q) (omega (arith, mul_assoc c l.image.height l.image.width, add-mul (c * l.image.height) (l.top + y) l.image.width))

-- an iteration of the loop over planes
pub plane-next : (l : Layout) (src d a b : List Float) (q : Rect) (k o : ℕ) → a ≡ rect_filled l k q (λ c i r. inner l src c (q.x + i) (q.y + r)) d → o ≡ rect_start l k q.x q.y
    → b ≡ rows_fill a o l.image.width q.cols q.rows (λ r i. get_or src (o + r * l.image.width + i) nan) → b ≡ rect_filled l (k + 1) q (λ c i r. inner l src c (q.x + i) (q.y + r)) d
plane-next l src d a b q k o ea eo eb =
    planes-turn l.image.width l.image.height (l.left + q.x) q.cols (l.top + q.y) q.rows (λ c i r. inner l src c (q.x + i) (q.y + r)) d a b k ea
    (eb ∙ rw eo (rows-cong a (rect_start l k q.x q.y) l.image.width q.cols q.rows _ _ (λ r i _ _. placed-inner l src q.x q.y k i r)))

-- ---- the code's test
module _ (l : Layout) (n : ℕ) (q : Rect) (len : ℕ) where
  pub rect-facts : rect_fits l n q len ≡ true → RectFits l n q len
  rect-facts e =
      let lies = leb (q.y + q.rows) l.height && leb 1 q.rows in
      let placed = leb (q.x + q.cols) l.width && lies in
      let s = set-facts l n len (and_first (set_fits l n len) placed e) in
      let p = and_second (set_fits l n len) placed e in
      let t = and_second (leb (q.x + q.cols) l.width) lies p in
      record {
        layout = s.layout;
        planes-le = s.planes;
        across = leb-true _ _ (and_first (leb (q.x + q.cols) l.width) lies p);
        down = leb-true _ _ (and_first (leb (q.y + q.rows) l.height) (leb 1 q.rows) t);
        rows-pos = leb-true _ _ (and_second (leb (q.y + q.rows) l.height) (leb 1 q.rows) t);
        set = s.size;
      }

  pub rect-true : RectFits l n q len → rect_fits l n q len ≡ true
  rect-true f =
      rw (
        set-true l n len (record { layout = f.layout; planes = f.planes-le; size = f.set }),
        le-leb (q.x + q.cols) l.width f.across,
        le-leb (q.y + q.rows) l.height f.down,
        le-leb 1 q.rows f.rows-pos,
      )

module _ (l : Layout) (n : ℕ) (q : Rect) (src d : List Float) where
  pub rect-copied : RectFits l n q (length d) → length src ≡ length d → copied_rect l n q src d ≡ rect_filled l n q (λ c i r. inner l src c (q.x + i) (q.y + r)) d
  unfolding copied_rect
  rect-copied f e = rw (rect-true l n q (length d) f, eq-eqb (length src) (length d) e)
