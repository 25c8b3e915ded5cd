-- What lanes see through a view are the definition's samples. Assumes nothing.
use mathlib.Core.Path.{◌≡◌, refl, sym, ap, ◌∙◌}
use mathlib.Core.Bool.{true, ◌&&◌}
use mathlib.Core.List.{List}
use Prim.Native.Nat.{ℕ, suc, ◌+◌, ◌-◌, ◌*◌, ◌<◌, ◌≤◌}
use native.Mathlib.Nat.{add-mul, mul_assoc, mul-le-mul, mul-le-mul_right}
use native.Mathlib.Omega.{arith}
use borrow.Author.Tests.{leb-true, le-ltb}
use lib.Dec.{leb}
use lib.ListN.{length, get_or}
use lib.IntN.{ℤ, pos, negsuc, ◌+ℤ◌, sub_ℕ, nat_abs}
use lib.Ieee.{Float, nan}
use Rattle.mirror.specs.Mirror.{mirror}
use Rattle.mirror.proofs.Offset.{offset-same}
use Rattle.planes.specs.declared.Layout.{Layout}
use Rattle.planes.specs.Picture.{around}
use Rattle.planes.specs.Sets.{of}
use Rattle.planes.specs.Rect.{planes_fill}
use Rattle.planes.proofs.Join.{rect-at}
use Rattle.planes.proofs.SetLaws.{around-inside}
use Rattle.planes.proofs.Stored.{and_first, and_second}
use Rattle.planes.specs.Band.{inner}
use Rattle.epf_rects.specs.declared.Rect.{Rect}
use Rattle.epf_rects.specs.Rects.{RectFits}
use Rattle.epf_rects.proofs.Rects.{taken-inner}
use Rattle.epf_window.specs.Window.{window_sample}
use Rattle.epf_step.specs.Steps.{reach}
use Rattle.epf_step.proofs.Local.{Alike}
use Rattle.epf_distances.specs.Fields.{ViewFits}
use Rattle.epf_distances.proofs.Seen.{seen}
use Rattle.epf_tiles.specs.Views.{lies_inside, Inside, window_view, planes_view}

-- ---- windows

-- an offset of at most r, counted from the window's corner
shifted : (z m r : ℕ) (d : ℤ) → r ≤ m → nat_abs d ≤ r → (pos z +ℤ d ≡ sub_ℕ (z + nat_abs (pos m +ℤ d)) m) × (m ≤ nat_abs (pos m +ℤ d) + r) × (nat_abs (pos m +ℤ d) ≤ m + r)
shifted z m r (pos a) h l = (rw (le-ltb (z + (m + a)) m (omega arith)) (ap pos (omega arith)), omega arith, omega arith)
shifted z m r (negsuc b) h l =
    let k : suc b ≤ m = omega arith in
    rw (le-ltb m (suc b) k) (offset-same z (suc b) (z + (m - suc b)) m (omega arith), omega arith, omega arith)

module _ (l : Layout) (src win d : List Float) (n step x y rows cols : ℕ) (planes-le : n ≤ 3) (step-lt : step < 3) (rows-le : rows ≤ 8) (cols-le : cols ≤ 64) (len : length d ≡ 3032)
    (ew : win ≡ planes_fill 72 14 0 (cols + 8) step (rows + 6 - 2 * step) (λ c j i. window_sample l src x y c j (step + i)) d n) where
  held : (c j i : ℕ) → c < n → j < cols + 8 → step ≤ i → i < rows + 6 - step
      → get_or win ((c * 14 + i) * 72 + j) nan ≡ inner l src c (mirror (sub_ℕ (x + j) 4) l.width) (mirror (sub_ℕ (y + i) 3) l.height)
  unfolding of window_sample
  held c j i C J lo hi =
      let z : i ≡ step + (i - step) = omega arith in
      let q : (c * 14 + (step + (i - step))) * 72 + (0 + j) ≡ (c * 14 + i) * 72 + j = omega arith in
      rw ew (rw (q, ← z) at (rect-at 72 14 0 (cols + 8) step (rows + 6 - 2 * step) (λ c j i. window_sample l src x y c j (step + i)) d n c j (i - step) (omega arith) (omega arith) (omega arith) C J (omega arith)))

  pub windows-alike : (r i : ℕ) → r < rows → i < cols → Alike n (reach step) (seen win window_view (0 + r * 72 + i)) (around l.width l.height (inner l src) (x + i) (y + r))
  unfolding around seen
  windows-alike r i R I c dx dy C X Y =
      let s = shifted (x + i) 4 (3 - step) dx (omega arith) X in
      let t = shifted (y + r) 3 (3 - step) dy (omega arith) Y in
      let u = nat_abs (pos 4 +ℤ dx) in
      let v = nat_abs (pos 3 +ℤ dy) in
      let k : c * 1008 + (0 + r * 72 + i + (v * 72 + u)) ≡ (c * 14 + (r + v)) * 72 + (i + u) = omega arith in
      let e : x + i + u ≡ x + (i + u) = omega arith in
      let f : y + r + v ≡ y + (r + v) = omega arith in
      rw (k, s.0, t.0, e, f) (held c (i + u) (r + v) C (omega arith) (omega arith) (omega arith))

-- ---- planes

-- an offset of at most r, counted from the corner
step_in : (z m r : ℕ) (d : ℤ) → r ≤ m → m ≤ z → nat_abs d ≤ r → (pos z +ℤ d ≡ pos (z - m + nat_abs (pos m +ℤ d))) × (nat_abs (pos m +ℤ d) ≤ m + r)
step_in z m r (pos a) g h l = (ap pos (omega arith), omega arith)
step_in z m r (negsuc b) g h l = rw (le-ltb z (suc b) (omega arith), le-ltb m (suc b) (omega arith)) (ap pos (omega arith), omega arith)

pub planes-alike : (l : Layout) (src : List Float) (n step : ℕ) (q : Rect) → Inside l q → (r i : ℕ) → r < q.rows → i < q.cols
    → Alike n (reach step) (seen src (planes_view l q) ((planes_view l q).corner + r * l.image.width + i)) (around l.width l.height (inner l src) (q.x + i) (q.y + r))
unfolding seen
planes-alike l src n step q f r i R I c dx dy C X Y =
    let x = q.x in
    let y = q.y in
    let s = step_in (x + i) 4 3 dx (omega arith) (omega (arith, f.left)) (omega arith) in
    let t = step_in (y + r) 3 3 dy (omega arith) (omega (arith, f.above)) (omega arith) in
    let a = nat_abs (pos 4 +ℤ dx) in
    let b = nat_abs (pos 3 +ℤ dy) in
    let u : x - 4 + (i + a) ≡ x + i - 4 + a = omega (arith, f.left) in
    let v : y - 3 + (r + b) ≡ y + r - 3 + b = omega (arith, f.above) in
    ap (λ (k : ℕ). get_or src k nan) (index a b) ∙ taken-inner l src (x - 4) (y - 3) _ _ c (i + a) (r + b) refl refl ∙ rw (u, v)
    (sym (around-inside l.width l.height (inner l src) (x + i) (y + r) c dx dy (x + i - 4 + a) (y + r - 3 + b) s.0 t.0 (omega (arith, f.left, f.right, s.1)) (omega (arith, f.above, f.below, t.1))))
  where
    index : (a b : ℕ) → c * (l.image.height * l.image.width) + ((l.top + (q.y - 3)) * l.image.width + (l.left + (q.x - 4)) + r * l.image.width + i + (b * l.image.width + a))
        ≡ (l.top + (q.y - 3)) * l.image.width + (l.left + (q.x - 4)) + c * (l.image.height * l.image.width) + (r + b) * l.image.width + (i + a)
    index a b = omega (arith, add-mul r b l.image.width)

-- ---- what is there
module _ (l : Layout) (q : Rect) where
  pub inside-facts : lies_inside l q ≡ true → Inside l q
  inside-facts e =
      let wide = leb (q.x + q.cols + 8) l.width in
      let high = leb (q.y + q.rows + 3) l.height in
      let a = and_second (leb 4 q.x) (leb 3 q.y && (wide && high)) e in
      let b = and_second (leb 3 q.y) (wide && high) a in
      record {
        left = leb-true _ _ (and_first (leb 4 q.x) (leb 3 q.y && (wide && high)) e);
        above = leb-true _ _ (and_first (leb 3 q.y) (wide && high) a);
        right = leb-true _ _ (and_first wide high b);
        below = leb-true _ _ (and_second wide high b);
      }

  pub planes-fit : (n len : ℕ) → 1 ≤ n → Inside l q → RectFits l n q len → q.rows ≤ 8 → q.cols ≤ 64 → ViewFits (planes_view l q) n q.rows q.cols len
  planes-fit n len some f g low few =
      let w = l.image.width in
      let h = l.image.height in
      let t = l.top + (q.y - 3) in
      let all : t + q.rows + 6 ≤ h = omega (arith, f.above, f.below, g.layout.down) in
      let m = mul-le-mul_right w all in
      let last : (n - 1) * (h * w) + h * w ≡ n * (h * w) = omega (arith, add-mul (n - 1) 1 (h * w), ap (λ (k : ℕ). k * (h * w)) z) in
      record {
        planes-pos = some;
        planes-le = g.planes-le;
        rows-pos = g.rows-pos;
        rows-le = low;
        cols-le = few;
        stride-pos = omega (arith, f.right, g.layout.across);
        plane-le = omega (arith, mul-le-mul g.layout.height-le g.layout.width-le);
        corner-le = omega (arith, m, add-mul t (q.rows + 6) w, mul-le-mul g.layout.height-le g.layout.width-le, f.right, g.layout.across, g.layout.width-le);
        stride-le = omega (arith, g.layout.width-le);
        end-le = omega (arith, m, add-mul t (q.rows + 6) w, add-mul (q.rows + 5) 1 w, last, g.set, mul_assoc n h w, f.left, f.right, g.layout.across);
      }
    where
      z : n - 1 + 1 ≡ n
      z = omega arith

pub window-fits : (n rows cols len : ℕ) → 1 ≤ n → n ≤ 3 → 1 ≤ rows → rows ≤ 8 → cols ≤ 64 → len ≡ 3032 → ViewFits window_view n rows cols len
window-fits n rows cols len a b c d e f = record { planes-pos = a; planes-le = b; rows-pos = c; rows-le = d; cols-le = e; stride-pos = omega arith; plane-le = omega arith; corner-le = omega arith; stride-le = omega arith; end-le = omega (arith, f) }
