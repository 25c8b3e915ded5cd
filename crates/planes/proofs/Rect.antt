-- The result of loops over planes and rows that write a rectangle, as the set of a picture. Assumes nothing.
use mathlib.Core.Path.{◌≡◌, refl, ◌∙◌}
use mathlib.Core.Bool.{true, false, cond, ◌&&◌}
use mathlib.Core.List.{List}
use mathlib.Core.Logic.{◌⊎◌, inl, inr, ⊎_elim}
use Prim.Native.Nat.{ℕ, zero, suc, ◌+◌, ◌-◌, ◌*◌, ◌<◌, ◌≤◌}
use native.Mathlib.Nat.{suc-mul, mul-le-mul_right, add-mul}
use native.Mathlib.Numerals.{add-one}
use native.Mathlib.Decide.{dec_lt, dec_le, ℕ_discrete}
use native.Mathlib.Omega.{arith}
use borrow.Author.Tests.{lt-ltb, le-ltb, le-leb, lt-leb}
use lib.Dec.{leb, ltb}
use lib.ListN.{length, get_or}
use lib.Ieee.{Float, nan}
use Rattle.planes.specs.Picture.{Picture, in_rect}
use Rattle.planes.specs.Sets.{of}
use Rattle.planes.specs.Fill.{fill}
use Rattle.planes.proofs.Fill.{length-fill, fill-before, fill-after, fill-at, fill-cong}
use Rattle.planes.specs.Rect.{rows_fill, planes_fill}

-- ---- loops over rows: an iteration, the end, and the samples that matter

pub rows-turn : (d a b : List Float) (at stride n i o : ℕ) (v : ℕ → ℕ → Float) → a ≡ rows_fill d at stride n i v → o ≡ at + i * stride
    → b ≡ fill a o n (v i) → b ≡ rows_fill d at stride n (i + 1) v
unfolding rows_fill
rows-turn d a b at stride n i o v p e q = rw (add-one i, q, p, e)

pub rows_end : (d a : List Float) (at stride n i m : ℕ) (v : ℕ → ℕ → Float) → a ≡ rows_fill d at stride n i v → i ≤ m → m ≤ i → a ≡ rows_fill d at stride n m v
rows_end d a at stride n i m v e p q = let z : i ≡ m = omega arith in rw (← z) e

pub rows-cong : (d : List Float) (at stride n m : ℕ) (u v : ℕ → ℕ → Float) → ((i x : ℕ) → i < m → x < n → u i x ≡ v i x)
    → rows_fill d at stride n m u ≡ rows_fill d at stride n m v
unfolding rows_fill
rows-cong d at stride n zero u v h = refl
rows-cong d at stride n (suc m) u v h =
    rw (rows-cong d at stride n m u v (λ i x p q. h i x (omega arith) q)) (fill-cong _ (at + m * stride) n (u m) (v m) (λ x q. h m x (omega arith) q))

pub length-rows_fill : (d : List Float) (at stride n m : ℕ) (v : ℕ → ℕ → Float) → length (rows_fill d at stride n m v) ≡ length d
unfolding rows_fill
length-rows_fill d at stride n zero v = refl
length-rows_fill d at stride n (suc m) v = length-fill (rows_fill d at stride n m v) (at + m * stride) n (v m) ∙ length-rows_fill d at stride n m v

-- ---- loops over planes

pub planes-turn : (w h left n top m : ℕ) (v : Picture) (d a b : List Float) (k : ℕ) → a ≡ planes_fill w h left n top m v d k
    → b ≡ rows_fill a ((k * h + top) * w + left) w n m (λ i x. v k x i) → b ≡ planes_fill w h left n top m v d (k + 1)
unfolding planes_fill
planes-turn w h left n top m v d a b k p q = rw (add-one k, q, p)

pub planes-end : (w h left n top m : ℕ) (v : Picture) (d a : List Float) (i k : ℕ) → a ≡ planes_fill w h left n top m v d i → i ≤ k → k ≤ i
    → a ≡ planes_fill w h left n top m v d k
planes-end w h left n top m v d a i k e p q = let z : i ≡ k = omega arith in rw (← z) e

-- ---- no columns, no rows

rows-empty : (d : List Float) (at stride m : ℕ) (v : ℕ → ℕ → Float) → d ≡ rows_fill d at stride 0 m v
unfolding rows_fill fill
rows-empty d at stride zero v = refl
rows-empty d at stride (suc m) v = rows-empty d at stride m v

pub columns-none : (w h left top m : ℕ) (v : Picture) (d : List Float) (k : ℕ) → d ≡ planes_fill w h left 0 top m v d k
unfolding planes_fill
columns-none w h left top m v d zero = refl
columns-none w h left top m v d (suc k) = rw (← (columns-none w h left top m v d k)) (rows-empty d ((k * h + top) * w + left) w m (λ i x. v k x i))

pub rows-none : (w h left n top : ℕ) (v : Picture) (d : List Float) (k : ℕ) → d ≡ planes_fill w h left n top 0 v d k
unfolding planes_fill rows_fill
rows-none w h left n top v d zero = refl
rows-none w h left n top v d (suc k) = rows-none w h left n top v d k

-- ---- one row of a set; r counts the rows of all planes
module _ (d : List Float) (w r left n : ℕ) (f : ℕ → Float) (fits : left + n ≤ w) where
  row_other : (q x : ℕ) → x < w → (q ≡ r → ⊥) → get_or (fill d (r * w + left) n f) (q * w + x) nan ≡ get_or d (q * w + x) nan
  row_other q x h ne = go (dec_lt q r)
    where
      go : Dec (q < r) → get_or (fill d (r * w + left) n f) (q * w + x) nan ≡ get_or d (q * w + x) nan
      go (yes l) = fill-before d (r * w + left) n f (q * w + x) (omega (arith, suc-mul q w, mul-le-mul_right w l))
      go (no l) =
          let m : suc r ≤ q = omega arith in
          fill-after d (r * w + left) n f (q * w + x) (omega (arith, suc-mul r w, mul-le-mul_right w m))

  row_here : (x : ℕ) → r * w + left + n ≤ length d → left ≤ x → x < left + n → get_or (fill d (r * w + left) n f) (r * w + x) nan ≡ f (x - left)
  row_here x room l m =
      let e : r * w + x ≡ r * w + left + (x - left) = omega arith in
      rw e (fill-at d (r * w + left) n f (x - left) room (omega arith))

  row-beside : (x : ℕ) → x < left ⊎ left + n ≤ x → get_or (fill d (r * w + left) n f) (r * w + x) nan ≡ get_or d (r * w + x) nan
  row-beside x (inl l) = fill-before d (r * w + left) n f (r * w + x) (omega arith)
  row-beside x (inr l) = fill-after d (r * w + left) n f (r * w + x) (omega arith)

-- ---- m rows of a set from row r
module _ (w left n : ℕ) (v : ℕ → ℕ → Float) (fits : left + n ≤ w) where
  -- where row r + i starts
  starts : (r i : ℕ) → r * w + left + i * w ≡ (r + i) * w + left
  starts r i = omega (arith, add-mul r i w)

  pub rows_out : (d : List Float) (r m q x : ℕ) → x < w → (q < r ⊎ r + m ≤ q) ⊎ (x < left ⊎ left + n ≤ x)
      → get_or (rows_fill d (r * w + left) w n m v) (q * w + x) nan ≡ get_or d (q * w + x) nan
  unfolding rows_fill
  rows_out d r zero q x h o = refl
  rows_out d r (suc m) q x h o =
      rw (starts r m) (⊎_elim
      (λ a. row_other (rows_fill d (r * w + left) w n m v) w (r + m) left n (v m) fits q x h (λ (e : q ≡ r + m). ⊎_elim (λ (l : q < r). omega arith) (λ (l : r + suc m ≤ q). omega arith) a)
      ∙ rows_out d r m q x h (inl (⊎_elim (λ l. inl l) (λ (l : r + suc m ≤ q). inr (omega arith)) a)))
      (λ b. beside (ℕ_discrete q (r + m)) b ∙ rows_out d r m q x h (inr b))
      o)
    where
      beside : Dec (q ≡ r + m) → x < left ⊎ left + n ≤ x
          → get_or (fill (rows_fill d (r * w + left) w n m v) ((r + m) * w + left) n (v m)) (q * w + x) nan ≡ get_or (rows_fill d (r * w + left) w n m v) (q * w + x) nan
      beside (yes e) b = rw e (row-beside (rows_fill d (r * w + left) w n m v) w (r + m) left n (v m) fits x b)
      beside (no e) b = row_other (rows_fill d (r * w + left) w n m v) w (r + m) left n (v m) fits q x h e

  pub rows_in : (d : List Float) (r m q x : ℕ) → (r + m) * w ≤ length d → r ≤ q → q < r + m → left ≤ x → x < left + n
      → get_or (rows_fill d (r * w + left) w n m v) (q * w + x) nan ≡ v (q - r) (x - left)
  unfolding rows_fill
  rows_in d r zero q x room a b c e = absurd (omega arith)
  rows_in d r (suc m) q x room a b c e =
      rw (starts r m) (go (λ (l : q < r + m). rows_in d r m q x (omega (arith, less)) a l c e) (ℕ_discrete q (r + m)))
    where
      less : (r + m) * w + w ≤ length d
      less = let z : r + suc m ≡ suc (r + m) = omega arith in omega (arith, suc-mul (r + m) w, rw z at room)

      go : (q < r + m → get_or (rows_fill d (r * w + left) w n m v) (q * w + x) nan ≡ v (q - r) (x - left)) → Dec (q ≡ r + m)
          → get_or (fill (rows_fill d (r * w + left) w n m v) ((r + m) * w + left) n (v m)) (q * w + x) nan ≡ v (q - r) (x - left)
      go ih (yes z) =
          let y : r + m - r ≡ m = omega arith in
          rw (z, y) (row_here (rows_fill d (r * w + left) w n m v) w (r + m) left n (v m) fits x (omega (arith, length-rows_fill d (r * w + left) w n m v, less)) c e)
      go ih (no z) = row_other (rows_fill d (r * w + left) w n m v) w (r + m) left n (v m) fits q x (omega arith) z ∙ ih (omega arith)

-- ---- whether a number lies in an interval, decided by its test
abbrev pub Between : ℕ → ℕ → ℕ → Type 0
Between lo n x = ((lo ≤ x) × (x < lo + n) × ((leb lo x && ltb x (lo + n)) ≡ true)) ⊎ ((x < lo ⊎ lo + n ≤ x) × ((leb lo x && ltb x (lo + n)) ≡ false))

pub between : (lo n x : ℕ) → Between lo n x
between lo n x = go (dec_le lo x) (dec_lt x (lo + n))
  where
    go : Dec (lo ≤ x) → Dec (x < lo + n) → Between lo n x
    go (yes a) (yes b) = inl (a, b, rw (le-leb lo x a, lt-ltb x (lo + n) b))
    go (yes a) (no b) = inr (inr (omega arith), rw (le-leb lo x a, le-ltb x (lo + n) (omega arith)))
    go (no a) b = let l : x < lo = omega arith in inr (inl l, rw (lt-leb lo x l))

-- ---- the rectangle in each of k planes
module _ (w h left n top m : ℕ) (v : Picture) (fits : left + n ≤ w) (high : top + m ≤ h) where
  pub length-planes_fill : (d : List Float) (k : ℕ) → length (planes_fill w h left n top m v d k) ≡ length d
  unfolding planes_fill
  length-planes_fill d zero = refl
  length-planes_fill d (suc k) = length-rows_fill (planes_fill w h left n top m v d k) ((k * h + top) * w + left) w n m (λ i x. v k x i) ∙ length-planes_fill d k

  -- a plane that is not yet written
  pub planes-later : (d : List Float) (k c x y : ℕ) → k ≤ c → x < w → y < h → of w h (planes_fill w h left n top m v d k) c x y ≡ of w h d c x y
  unfolding planes_fill of
  planes-later d zero c x y l p q = refl
  planes-later d (suc k) c x y l p q =
      rows_out w left n (λ i x. v k x i) fits (planes_fill w h left n top m v d k) (k * h + top) m (c * h + y) x p (inl (inr (omega (arith, suc-mul k h, mul-le-mul_right h l))))
      ∙ planes-later d k c x y (omega arith) p q

  -- the sample at a position after k planes
  abbrev Then : List Float → ℕ → ℕ → ℕ → ℕ → Type 0
  Then d k c x y = of w h (planes_fill w h left n top m v d k) c x y ≡ cond (in_rect left n top m x y) (v c (x - left) (y - top)) (of w h d c x y)

  planes-step : (d : List Float) (k c x y : ℕ) → suc k * h * w ≤ length d → x < w → y < h
      → (c < k → Then d k c x y) → c ≤ k → Dec (c ≡ k) → Between left n x → Between top m y → Then d (suc k) c x y
  unfolding planes_fill of in_rect
  planes-step d k c x y room p q ih l (no z) a b =
      let u : suc c ≤ k = omega arith in
      rows_out w left n (λ i x. v k x i) fits (planes_fill w h left n top m v d k) (k * h + top) m (c * h + y) x p (inl (inl (omega (arith, suc-mul c h, mul-le-mul_right h u)))) ∙ ih u
  planes-step d k c x y room p q ih l (yes z) (inr a) b =
      rw a.1 (rows_out w left n (λ i x. v k x i) fits (planes_fill w h left n top m v d k) (k * h + top) m (c * h + y) x p (inr a.0) ∙ planes-later d k c x y (omega arith) p q)
  planes-step d k c x y room p q ih l (yes z) (inl a) (inr b) =
      rw (a.2, b.1) (rows_out w left n (λ i x. v k x i) fits (planes_fill w h left n top m v d k) (k * h + top) m (c * h + y) x p
      (inl (⊎_elim (λ (t : y < top). inl (rw z (omega arith))) (λ (t : top + m ≤ y). inr (rw z (omega arith))) b.0)) ∙ planes-later d k c x y (omega arith) p q)
  planes-step d k c x y room p q ih l (yes z) (inl a) (inl b) =
      let lo : k * h + top ≤ c * h + y = rw z (omega arith) in
      let hi : c * h + y < k * h + top + m = rw z (omega arith) in
      let end : k * h + top + m ≤ suc k * h = omega (arith, suc-mul k h) in
      let row : c * h + y - (k * h + top) ≡ y - top = rw z (omega arith) in
      rw (a.2, b.2) (rows_in w left n (λ i x. v k x i) fits (planes_fill w h left n top m v d k) (k * h + top) m (c * h + y) x
      (omega (arith, length-planes_fill d k, mul-le-mul_right w end)) lo hi a.0 a.1 ∙ rw (row, z))

  pub planes-at : (d : List Float) (k c x y : ℕ) → c < k → k * h * w ≤ length d → x < w → y < h
      → of w h (planes_fill w h left n top m v d k) c x y ≡ cond (in_rect left n top m x y) (v c (x - left) (y - top)) (of w h d c x y)
  planes-at d zero c x y l room p q = absurd (omega arith)
  planes-at d (suc k) c x y l room p q =
      planes-step d k c x y room p q (λ (z : c < k). planes-at d k c x y z (omega (arith, suc-mul k h, add-mul (k * h) h w, rw (suc-mul k h) at room)) p q) (omega arith) (ℕ_discrete c k) (between left n x) (between top m y)
