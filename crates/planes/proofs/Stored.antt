-- The result of the loops over planes and rows is `passed`: the samples outside the filter region are copied, then the pass writes its rectangle. Assumes nothing.
use mathlib.Core.Path.{◌≡◌, refl, sym, ◌∙◌}
use mathlib.Core.Bool.{Bool, true, false, false≢true, cond, ◌&&◌, ◌||◌}
use mathlib.Core.List.{List}
use Prim.Native.Nat.{ℕ, ◌+◌, ◌-◌, ◌*◌, ◌<◌, ◌≤◌, min}
use native.Mathlib.Omega.{arith}
use borrow.Author.Tests.{leb-true, eqb-true, le-leb, eq-eqb}
use lib.Dec.{T, eqb, leb, ltb, leb→le, le→leb, ltb→lt, lt→ltb}
use lib.ListN.{length}
use lib.Ieee.{Float}
use lib.Ieee.Fits.{and_l, and_r, and_i}
use Rattle.planes.specs.declared.Layout.{Layout}
use Rattle.planes.specs.Picture.{Picture, in_rect}
use Rattle.planes.specs.Sets.{of}
use Rattle.planes.proofs.SetLaws.{sets-ext, of-set_of, length-set_of}
use Rattle.planes.specs.Rect.{planes_fill}
use Rattle.planes.proofs.Rect.{planes-at, length-planes_fill}
use Rattle.planes.specs.Outside.{planes_outside_of}
use Rattle.planes.specs.Band.{result_height, in_filter, written, inner, passed, layout_fits, planes_fit, set_fits, rows_fit, filter_row, copied_outside}
use Rattle.planes.specs.Fits.{LayoutFits, BandFits}

-- ---- facts that the tests establish

pub and_first : (a b : Bool) → (a && b) ≡ true → a ≡ true
and_first true b e = refl
and_first false b e = e

pub and_second : (a b : Bool) → (a && b) ≡ true → b ≡ true
and_second true b e = e
and_second false true e = refl
and_second false false e = e

-- a picture has one plane at least, and three at most
pub planes-few : (n : ℕ) → planes_fit n ≡ true → (1 ≤ n) × (n ≤ 3)
planes-few n e = go (eqb n 1) refl e
  where
    go : (b : Bool) → eqb n 1 ≡ b → (b || eqb n 3) ≡ true → (1 ≤ n) × (n ≤ 3)
    go true one e = let is : n ≡ 1 = eqb-true n 1 one in (omega arith, omega arith)
    go false one e = let is : n ≡ 3 = eqb-true n 3 e in (omega arith, omega arith)

pub layout-fits : (l : Layout) → layout_fits l ≡ true → LayoutFits l
layout-fits l e =
    let sides = leb l.image.width 16384 && leb l.image.height 16384 in
    let inside = leb (l.left + l.width) l.image.width && leb (l.top + l.height) l.image.height in
    let s = and_first sides inside e in
    let i = and_second sides inside e in
    record {
      width-le = leb-true _ _ (and_first (leb l.image.width 16384) (leb l.image.height 16384) s);
      height-le = leb-true _ _ (and_second (leb l.image.width 16384) (leb l.image.height 16384) s);
      across = leb-true _ _ (and_first (leb (l.left + l.width) l.image.width) (leb (l.top + l.height) l.image.height) i);
      down = leb-true _ _ (and_second (leb (l.left + l.width) l.image.width) (leb (l.top + l.height) l.image.height) i);
    }

pub band-fits : (l : Layout) (n from to : ℕ) (src dst : List Float) → set_fits l n (length src) ≡ true → set_fits l n (length dst) ≡ true → rows_fit l from to ≡ true
    → BandFits l n from to src dst
band-fits l n from to src dst s d r =
    let size = n * l.image.height * l.image.width in
    let few = and_second (layout_fits l) (leb n 3 && eqb (length src) size) s in
    record {
      layout = layout-fits l (and_first (layout_fits l) (leb n 3 && eqb (length src) size) s);
      planes = leb-true _ _ (and_first (leb n 3) (eqb (length src) size) few);
      source = eqb-true _ _ (and_second (leb n 3) (eqb (length src) size) few);
      target = eqb-true _ _ (and_second (leb n 3) (eqb (length dst) size) (and_second (layout_fits l) (leb n 3 && eqb (length dst) size) d));
      order = leb-true _ _ (and_first (leb from to) (leb to (result_height l)) r);
      rows = leb-true _ _ (and_second (leb from to) (leb to (result_height l)) r);
    }

pub full-rows : (l : Layout) (to : ℕ) → l.full ≡ true → to ≤ result_height l → to ≤ l.image.height
full-rows l to e h = rw e at h

-- ---- the test of a rectangle

record Inside (left n top m x y : ℕ) : Type 0 where
  pub a : left ≤ x
  pub b : x < left + n
  pub c : top ≤ y
  pub d : y < top + m

inside : (left n top m x y : ℕ) → T (in_rect left n top m x y) → Inside left n top m x y
unfolding in_rect
inside left n top m x y t =
    let cols = leb left x && ltb x (left + n) in
    let rows = leb top y && ltb y (top + m) in
    let p = and_l cols rows t in
    let q = and_r cols rows t in
    record {
      a = leb→le _ _ (and_l (leb left x) (ltb x (left + n)) p);
      b = ltb→lt _ _ (and_r (leb left x) (ltb x (left + n)) p);
      c = leb→le _ _ (and_l (leb top y) (ltb y (top + m)) q);
      d = ltb→lt _ _ (and_r (leb top y) (ltb y (top + m)) q);
    }

within : (left n top m x y : ℕ) → Inside left n top m x y → T (in_rect left n top m x y)
unfolding in_rect
within left n top m x y i =
    and_i (leb left x && ltb x (left + n)) (leb top y && ltb y (top + m))
    (and_i (leb left x) (ltb x (left + n)) (le→leb left x i.a) (lt→ltb x (left + n) i.b))
    (and_i (leb top y) (ltb y (top + m)) (le→leb top y i.c) (lt→ltb y (top + m) i.d))

bool_iff : (a b : Bool) → (T a → T b) → (T b → T a) → a ≡ b
bool_iff true true f g = refl
bool_iff true false f g = absurd (f tt)
bool_iff false true f g = absurd (g tt)
bool_iff false false f g = refl

-- ---- the written part of the filter region is a rectangle; b: the result region is the image region
module _ (iw ih left width top height from to x y : ℕ) (across : left + width ≤ iw) (down : top + height ≤ ih) (order : from ≤ to) (col : x < iw) where
  abbrev Part : Bool → Type 0
  Part b =
      in_rect left width (top + cond b (min (from - top) height) from) (cond b (min (to - top) height) to - cond b (min (from - top) height) from) x y
      ≡ (in_rect (cond b 0 left) (cond b iw width) (cond b 0 top + from) (to - from) x y && in_rect left width top height x y)

  part : (b : Bool) → to ≤ cond b ih height → Part b
  part true rows =
      let f = min (from - top) height in
      let t = min (to - top) height in
      let w = in_rect 0 iw (0 + from) (to - from) x y in
      let i = in_rect left width top height x y in
      bool_iff _ _
      (λ r. let z = inside left width (top + f) (t - f) x y r in
      and_i w i (within 0 iw (0 + from) (to - from) x y (record { a = omega arith; b = omega arith; c = omega arith; d = omega arith }))
      (within left width top height x y (record { a = z.a; b = z.b; c = omega arith; d = omega arith })))
      (λ r. let u = inside 0 iw (0 + from) (to - from) x y (and_l w i r) in
      let z = inside left width top height x y (and_r w i r) in
      within left width (top + f) (t - f) x y (record { a = z.a; b = z.b; c = omega arith; d = omega arith }))
  part false rows =
      let w = in_rect left width (top + from) (to - from) x y in
      let i = in_rect left width top height x y in
      bool_iff _ _
      (λ r. let z = inside left width (top + from) (to - from) x y r in
      and_i w i r (within left width top height x y (record { a = z.a; b = z.b; c = omega arith; d = omega arith })))
      (λ r. and_l w i r)

-- ---- one sample

cond-parts : (w f : Bool) (p q s d e : Float) → (T (w && f) → p ≡ q) → cond (w && f) p (cond w (cond f d s) e) ≡ cond w (cond f q s) e
cond-parts true true p q s d e h = h tt
cond-parts true false p q s d e h = refl
cond-parts false f p q s d e h = refl

cond_same : (w : Bool) (a b e : Float) → (T w → a ≡ b) → cond w a e ≡ cond w b e
cond_same true a b e h = h tt
cond_same false a b e h = refl

cond-kept : (w f : Bool) (d s e : Float) → (T w → T f) → (T f → d ≡ e) → e ≡ cond w (cond f d s) e
cond-kept true true d s e h k = sym (k tt)
cond-kept true false d s e h k = absurd (h tt)
cond-kept false f d s e h k = refl

-- a sample of the filter region
inner-at : (l : Layout) (s : List Float) (c x y : ℕ) → T (in_filter l x y) → inner l s c (x - l.left) (y - l.top) ≡ of l.image.width l.image.height s c x y
unfolding inner in_filter
inner-at l s c x y t =
    let i = inside l.left l.width l.top l.height x y t in
    let a : l.left + (x - l.left) ≡ x = omega arith in
    let b : l.top + (y - l.top) ≡ y = omega arith in
    rw (a, b)

-- ---- the sets
module _ (l : Layout) (n from to : ℕ) (src dst : List Float) (fits : BandFits l n from to src dst) where
  -- after copying the samples outside the filter region; those inside it are unchanged
  abbrev copied : List Float
  copied = passed n l from to (inner l dst) src dst

  length-passed : (p : Picture) → length (passed n l from to p src dst) ≡ n * l.image.height * l.image.width
  unfolding passed
  length-passed p = length-set_of n l.image.width l.image.height _

  -- if each written sample lies in the filter region, nothing is copied
  copied-within : ((x y : ℕ) → x < l.image.width → y < l.image.height → T (written l from to x y) → T (in_filter l x y)) → dst ≡ copied
  unfolding passed
  copied-within among = sets-ext n l.image.width l.image.height dst copied fits.target (length-passed (inner l dst))
      (λ c x y h i j. sym (of-set_of n l.image.width l.image.height _ c x y h i j ∙ sym (kept c x y i j)))
    where
      kept : (c x y : ℕ) → x < l.image.width → y < l.image.height → of l.image.width l.image.height dst c x y ≡
          cond (written l from to x y)
          (cond (in_filter l x y) (inner l dst c (x - l.left) (y - l.top)) (of l.image.width l.image.height src c x y))
          (of l.image.width l.image.height dst c x y)
      kept c x y i j = cond-kept (written l from to x y) (in_filter l x y) _ _ _ (among x y i j) (inner-at l dst c x y)

  -- the result region is the filter region
  pub copied-alone : l.full ≡ false → dst ≡ copied
  unfolding written in_filter
  copied-alone e = copied-within (λ x y i j t. among l.full e fits.rows x y t)
    where
      among : (b : Bool) → b ≡ false → to ≤ cond b l.image.height l.height → (x y : ℕ)
          → T (in_rect (cond b 0 l.left) (cond b l.image.width l.width) (cond b 0 l.top + from) (to - from) x y) → T (in_filter l x y)
      among true q r x y t = absurd (false≢true (sym q))
      among false q r x y t =
          let z = inside l.left l.width (l.top + from) (to - from) x y t in
          within l.left l.width l.top l.height x y (record { a = z.a; b = z.b; c = omega arith; d = omega arith })

  -- the filter region is the image region
  pub copied-nothing : l.width ≡ l.image.width → l.height ≡ l.image.height → dst ≡ copied
  unfolding in_filter
  copied-nothing p q = copied-within (λ x y i j t.
      within l.left l.width l.top l.height x y (record { a = omega (arith, fits.layout.across); b = omega arith; c = omega (arith, fits.layout.down); d = omega arith }))

  -- the result region is the image region: the samples outside the filter region are copied, those inside it are unchanged
  abbrev kept : Picture
  kept = planes_outside_of l l.image.width l.image.height from src dst

  pub copied-full : l.full ≡ true → planes_fill l.image.width l.image.height 0 l.image.width from (to - from) kept dst n ≡ copied
  unfolding passed written planes_outside_of
  copied-full e = sets-ext n w h (planes_fill w h 0 w from (to - from) kept dst n) copied
      (length-planes_fill w h 0 w from (to - from) kept whole high dst n ∙ fits.target) (length-passed (inner l dst))
      (λ c x y i j k. planes-at w h 0 w from (to - from) kept whole high dst n c x y i (omega (arith, fits.target)) j k
      ∙ each c x y ∙ sym (of-set_of n w h _ c x y i j k))
    where
      w : ℕ
      w = l.image.width

      h : ℕ
      h = l.image.height

      whole : 0 + w ≤ w
      whole = omega arith

      high : from + (to - from) ≤ h
      high = omega (arith, fits.order, full-rows l to e fits.rows)

      rows_written : (b : Bool) → b ≡ true → (x y : ℕ)
          → in_rect (cond b 0 l.left) (cond b w l.width) (cond b 0 l.top + from) (to - from) x y ≡ in_rect 0 w from (to - from) x y
      rows_written true q x y = let z : 0 + from ≡ from = omega arith in rw z
      rows_written false q x y = absurd (false≢true q)

      each : (c x y : ℕ) → cond (in_rect 0 w from (to - from) x y) (kept c (x - 0) (y - from)) (of w h dst c x y)
          ≡ cond (written l from to x y) (cond (in_filter l x y) (inner l dst c (x - l.left) (y - l.top)) (of w h src c x y)) (of w h dst c x y)
      each c x y = rw (rows_written l.full e x y) (cond_same (in_rect 0 w from (to - from) x y) _ _ _ (λ t.
          let z = inside 0 w from (to - from) x y t in
          let a : x - 0 ≡ x = omega arith in
          let b : from + (y - from) ≡ y = omega arith in
          rw (a, b) (cond_same (in_filter l x y) _ _ _ (λ u. sym (inner-at l dst c x y u)))))

  -- the pass writes its rectangle of each plane over what was copied
  pub passed_over : (p : Picture) (b : List Float)
      → b ≡ planes_fill l.image.width l.image.height l.left l.width (l.top + filter_row l from) (filter_row l to - filter_row l from) (λ c x i. p c x (filter_row l from + i)) copied n
      → b ≡ passed n l from to p src dst
  unfolding passed written in_filter
  passed_over p b e = e ∙ sets-ext n w h (planes_fill w h l.left l.width (l.top + f) (t - f) v copied n) (passed n l from to p src dst)
      (length-planes_fill w h l.left l.width (l.top + f) (t - f) v fits.layout.across high copied n ∙ length-passed (inner l dst)) (length-passed p)
      (λ c x y i j k. planes-at w h l.left l.width (l.top + f) (t - f) v fits.layout.across high copied n c x y i (omega (arith, length-passed (inner l dst))) j k
      ∙ each c x y i j k ∙ sym (of-set_of n w h _ c x y i j k))
    where
      w : ℕ
      w = l.image.width

      h : ℕ
      h = l.image.height

      f : ℕ
      f = filter_row l from

      t : ℕ
      t = filter_row l to

      v : Picture
      v = λ c x i. p c x (f + i)

      rows-high : (b : Bool) → to ≤ cond b h l.height
          → l.top + cond b (min (from - l.top) l.height) from + (cond b (min (to - l.top) l.height) to - cond b (min (from - l.top) l.height) from) ≤ h
      rows-high true r = omega (arith, fits.layout.down, fits.order)
      rows-high false r = omega (arith, fits.layout.down, fits.order)

      high : l.top + f + (t - f) ≤ h
      high = rows-high l.full fits.rows

      each : (c x y : ℕ) → c < n → x < w → y < h → cond (in_rect l.left l.width (l.top + f) (t - f) x y) (v c (x - l.left) (y - (l.top + f))) (of w h copied c x y)
          ≡ cond (written l from to x y) (cond (in_filter l x y) (p c (x - l.left) (y - l.top)) (of w h src c x y)) (of w h dst c x y)
      each c x y i j k =
          let r = part w h l.left l.width l.top l.height from to x y fits.layout.across fits.layout.down fits.order j l.full fits.rows in
          rw (of-set_of n w h _ c x y i j k, r) (cond-parts (written l from to x y) (in_filter l x y) _ _ _ _ _ (λ u.
          let z = inside l.left l.width (l.top + f) (t - f) x y (rw r u) in
          let a : f + (y - (l.top + f)) ≡ y - l.top = omega arith in
          rw a))

-- ---- the tests, in order
module _ (l : Layout) (n from to : ℕ) (src dst : List Float) where
  pub no_source : set_fits l n (length src) ≡ false → dst ≡ copied_outside l n from to src dst
  unfolding copied_outside
  no_source p = rw p

  pub no_target : set_fits l n (length src) ≡ true → set_fits l n (length dst) ≡ false → dst ≡ copied_outside l n from to src dst
  unfolding copied_outside
  no_target p q = rw (p, q)

  pub no_rows : set_fits l n (length src) ≡ true → set_fits l n (length dst) ≡ true → rows_fit l from to ≡ false → dst ≡ copied_outside l n from to src dst
  unfolding copied_outside
  no_rows p q r = rw (p, q, r)

  pub all_fit : set_fits l n (length src) ≡ true → set_fits l n (length dst) ≡ true → rows_fit l from to ≡ true
      → passed n l from to (inner l dst) src dst ≡ copied_outside l n from to src dst
  unfolding copied_outside
  all_fit p q r = rw (p, q, r)

-- ---- for callers

pub fits-copied : (l : Layout) (n from to : ℕ) (src dst : List Float) → BandFits l n from to src dst → copied_outside l n from to src dst ≡ passed n l from to (inner l dst) src dst
fits-copied l n from to src dst f =
    let sides : layout_fits l ≡ true =
    rw (le-leb l.image.width 16384 f.layout.width-le, le-leb l.image.height 16384 f.layout.height-le, le-leb (l.left + l.width) l.image.width f.layout.across, le-leb (l.top + l.height) l.image.height f.layout.down) in
    sym (all_fit l n from to src dst
    (rw (sides, le-leb n 3 f.planes, eq-eqb (length src) (n * l.image.height * l.image.width) f.source))
    (rw (sides, le-leb n 3 f.planes, eq-eqb (length dst) (n * l.image.height * l.image.width) f.target))
    (rw (le-leb from to f.order, le-leb to (result_height l) f.rows)))

-- the rows of a band that lie in the filter region
pub record FilterRows (l : Layout) (from to : ℕ) : Type 0 where
  pub order : filter_row l from ≤ filter_row l to
  pub end : filter_row l to ≤ l.height

pub filter-rows : (l : Layout) (from to : ℕ) → from ≤ to → to ≤ result_height l → FilterRows l from to
filter-rows l from to p q = record { order = go l.full; end = last l.full q }
  where
    go : (b : Bool) → cond b (min (from - l.top) l.height) from ≤ cond b (min (to - l.top) l.height) to
    go true = omega arith
    go false = p

    last : (b : Bool) → to ≤ cond b l.image.height l.height → cond b (min (to - l.top) l.height) to ≤ l.height
    last true h = omega arith
    last false h = h
