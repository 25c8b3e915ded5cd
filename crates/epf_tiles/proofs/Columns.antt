-- The columns of a strip: one run of blocks after another, and the copied blocks, which the set holds already. Assumes nothing.
use mathlib.Core.Path.{◌≡◌, refl, sym, ap, ◌∙◌}
use mathlib.Core.Bool.{true, cond}
use mathlib.Core.List.{List}
use mathlib.Core.Logic.{inl, inr}
use Prim.Native.Nat.{ℕ, ◌+◌, ◌-◌, ◌*◌, ◌/◌, ◌<◌, ◌≤◌}
use native.Mathlib.Omega.{arith}
use lib.ListN.{length}
use lib.IntN.{pos}
use lib.Ieee.{Float}
use Rattle.planes.specs.declared.Layout.{Layout}
use Rattle.planes.specs.Picture.{Picture, in_rect}
use Rattle.planes.specs.Sets.{of}
use Rattle.planes.proofs.SetLaws.{around-inside, sets-ext}
use Rattle.planes.specs.Rect.{planes_fill}
use Rattle.planes.proofs.Rect.{Between, between, planes-at, length-planes_fill, columns-none}
use Rattle.planes.proofs.Join.{planes-cong, rect-at, rect-beside, rect-inside}
use Rattle.planes.specs.Band.{inner}
use Rattle.epf_rects.specs.declared.Rect.{Rect}
use Rattle.epf_rects.specs.Rects.{RectFits, copied_rect}
use Rattle.epf_rects.proofs.Rects.{rect-copied}
use Rattle.epf_step.specs.Steps.{copied, epf, epf_pass}
use Rattle.epf_tiles.specs.declared.Pass.{Pass}
use Rattle.epf_tiles.specs.Blocks.{block_columns, sigma_of}
use Rattle.epf_tiles.specs.Tile.{step_over, pass_over, tile_stepped}
use Rattle.epf_tiles.specs.Region.{PassFits, StripFits, AllOfKind, HoldsCopied, block_copied, block_start, columns_stepped, rows_stepped}

-- ---- a rectangle of a set of n planes, and the samples outside it
module _ (n w h left cols top rows : ℕ) (v : Picture) (d : List Float) (long : length d ≡ n * h * w) (fits : left + cols ≤ w) (high : top + rows ≤ h) where
  pub rect-beyond : (c x y : ℕ) → c < n → left + cols ≤ x → x < w → y < h → of w h (planes_fill w h left cols top rows v d n) c x y ≡ of w h d c x y
  unfolding in_rect
  rect-beyond c x y C out X Y = planes-at w h left cols top rows v fits high d n c x y C (omega (arith, long)) X Y ∙ go (between left cols x)
    where
      go : Between left cols x → cond (in_rect left cols top rows x y) (v c (x - left) (y - top)) (of w h d c x y) ≡ of w h d c x y
      go (inl e) = absurd (omega arith)
      go (inr e) = rw e.1

  -- written with what it holds already, it stays
  pub rect-same : ((c i r : ℕ) → c < n → i < cols → r < rows → v c i r ≡ of w h d c (left + i) (top + r)) → planes_fill w h left cols top rows v d n ≡ d
  unfolding in_rect
  rect-same e = sets-ext n w h (planes_fill w h left cols top rows v d n) d (length-planes_fill w h left cols top rows v fits high d n ∙ long) long each
    where
      each : (c x y : ℕ) → c < n → x < w → y < h → of w h (planes_fill w h left cols top rows v d n) c x y ≡ of w h d c x y
      each c x y C X Y = planes-at w h left cols top rows v fits high d n c x y C (omega (arith, long)) X Y ∙ go (between left cols x) (between top rows y)
        where
          go : Between left cols x → Between top rows y → cond (in_rect left cols top rows x y) (v c (x - left) (y - top)) (of w h d c x y) ≡ of w h d c x y
          go (inr p) q = simp p.1
          go (inl p) (inr q) = rw (p.2, q.1)
          go (inl p) (inl q) =
              let a : left + (x - left) ≡ x = omega arith in
              let b : top + (y - top) ≡ y = omega arith in
              rw (p.2, q.2) (e c (x - left) (y - top) C (omega arith) (omega arith) ∙ rw (a, b))

module _ (p : Pass) (sigmas src : List Float) (y rows : ℕ) (d : List Float) (fits : PassFits p (length src) (length d) (length sigmas)) (strip : StripFits p.layout y rows) where
  abbrev l : Layout
  l = p.layout

  abbrev n : ℕ
  n = p.planes

  abbrev part : ℕ → ℕ → List Float → List Float
  part u v = columns_stepped p y rows u v sigmas src

  long : length d ≡ n * l.image.height * l.image.width
  long = fits.region.set

  low : l.top + y + rows ≤ l.image.height
  low = omega (arith, fits.region.layout.down, strip.inside)

  -- ---- one part of the columns after another

  pub part-none : (u : ℕ) → d ≡ part u u d
  part-none u = let z : u - u ≡ 0 = omega arith in rw z (columns-none l.image.width l.image.height (l.left + u) (l.top + y) rows _ d n)

  pub part-beside : (u v t : ℕ) (a b : List Float) → u ≤ v → v ≤ t → t ≤ l.width → a ≡ part u v d → b ≡ part v t a → b ≡ part u t d
  part-beside u v t a b uv vt tw ea eb =
      let at : l.left + u + (v - u) ≡ l.left + v = omega arith in
      let m : t - u ≡ v - u + (t - v) = omega arith in
      rw m (rect-beside n l.image.width l.image.height n (omega arith) (l.left + u) (v - u) (t - v) (l.top + y) rows (λ c i r. pass_over p sigmas src c (u + i) (y + r)) (λ c i r. pass_over p sigmas src c (v + i) (y + r)) (λ c i r. pass_over p sigmas src c (u + i) (y + r)) d a b long (omega (arith, fits.region.layout.across)) low ea (rw at eb)
      (λ c i r _ _ _. refl) (λ c i r _ _ _. let z : u + (v - u + i) ≡ v + i = omega arith in rw z))

  -- a tile
  pub part-tile : (u v x cols : ℕ) (a b : List Float) → x ≡ u → cols ≡ v - u → b ≡ tile_stepped p (record { x = x; y = y; rows = rows; cols = cols }) sigmas src a → b ≡ part u v a
  part-tile u v x cols a b ex ec e = rw (ex, ec) at e

  -- ---- copied blocks

  -- a copied sample
  pub copied-is : (c i r : ℕ) → i < l.width → r < rows → block_copied p sigmas y (i / 8) ≡ true → inner l src c i (y + r) ≡ pass_over p sigmas src c i (y + r)
  unfolding step_over epf_pass epf
  copied-is c i r I R e =
      let row : (y + r) / 8 ≡ y / 8 = omega (arith, strip.rows-le) in
      let f : copied (sigma_of (block_columns l) sigmas (i / 8) ((y + r) / 8)) p.settings.limit ≡ true = rw row e in
      rw f (sym (around-inside l.width l.height (inner l src) i (y + r) c (pos 0) (pos 0) i (y + r) (ap pos (omega arith)) (ap pos (omega arith)) I (omega (arith, strip.inside))))

  -- a run of copied blocks that the set holds
  pub part-held : (u from to : ℕ) (a : List Float) → HoldsCopied p sigmas src y rows d → AllOfKind p sigmas y true from to → u ≤ block_start l from → from ≤ to → a ≡ part u (block_start l from) d → a ≡ part u (block_start l to) d
  unfolding inner
  part-held u from to a holds all start order e =
      part-beside u (block_start l from) (block_start l to) a a start (omega arith) (omega arith) e (sym (rw e (rect-same n l.image.width l.image.height (l.left + block_start l from) (block_start l to - block_start l from) (l.top + y) rows
      (λ c i r. pass_over p sigmas src c (block_start l from + i) (y + r)) (part u (block_start l from) d) (rw (← e) (same ∙ long)) (omega (arith, fits.region.layout.across)) low held)))
    where
      same : length a ≡ length d
      same = rw e (length-planes_fill l.image.width l.image.height (l.left + u) (block_start l from - u) (l.top + y) rows _ (omega (arith, fits.region.layout.across)) low d n)

      held : (c i r : ℕ) → c < n → i < block_start l to - block_start l from → r < rows
          → pass_over p sigmas src c (block_start l from + i) (y + r) ≡ of l.image.width l.image.height (part u (block_start l from) d) c (l.left + block_start l from + i) (l.top + y + r)
      held c i r C I R =
          let x = block_start l from + i in
          let a : l.left + block_start l from + i ≡ l.left + x = omega arith in
          let b : l.top + y + r ≡ l.top + (y + r) = omega arith in
          rw (a, b) (sym (rect-beyond n l.image.width l.image.height (l.left + u) (block_start l from - u) (l.top + y) rows _ d long (omega (arith, fits.region.layout.across)) low c (l.left + x) (l.top + (y + r)) C (omega arith) (omega (arith, fits.region.layout.across)) (omega (arith, low))
          ∙ holds c x r C (omega arith) R (all (x / 8) (omega arith) (omega arith))))

  -- ---- the strip is copied first
  abbrev whole : Rect
  whole = record { x = 0; y = y; rows = rows; cols = l.width }

  module _ (a : List Float) (e : a ≡ copied_rect l n whole src d) where
    placed : RectFits l n whole (length d)
    placed = record {
      layout = fits.region.layout;
      planes-le = fits.region.planes-le;
      across = omega arith;
      down = strip.inside;
      rows-pos = strip.rows-pos;
      set = long;
    }

    is : a ≡ planes_fill l.image.width l.image.height l.left l.width (l.top + y) rows (λ c i r. inner l src c i (y + r)) d n
    is =
        let z : l.left + 0 ≡ l.left = omega arith in
        rw z at (e ∙ rect-copied l n whole src d placed fits.same)
        ∙ planes-cong l.image.width l.image.height l.left l.width (l.top + y) rows (λ c i r. inner l src c (0 + i) (y + r)) (λ c i r. inner l src c i (y + r)) d n (λ c i r _ _ _. let k : 0 + i ≡ i = omega arith in rw k)

    -- its copied blocks are the step's
    pub copied-holds : HoldsCopied p sigmas src y rows a
    unfolding inner
    copied-holds c i r C I R k = at ∙ copied-is c i r I R k
      where
        at : inner l a c i (y + r) ≡ inner l src c i (y + r)
        at =
            let b : l.top + y + r ≡ l.top + (y + r) = omega arith in
            rw is (rw b at (rect-at l.image.width l.image.height l.left l.width (l.top + y) rows (λ c i r. inner l src c i (y + r)) d n c i r (omega (arith, fits.region.layout.across)) low (omega (arith, long)) C I R))

    -- and the copy does not show once all columns are written
    pub copied-over : (b : List Float) → b ≡ rows_stepped p y rows sigmas src a → b ≡ rows_stepped p y rows sigmas src d
    copied-over b eb =
        let z : l.left + 0 ≡ l.left = omega arith in
        rect-inside n l.image.width l.image.height n (omega arith) l.left l.width (l.top + y) rows 0 l.width (λ c i r. inner l src c i (y + r)) (λ c i r. pass_over p sigmas src c i (y + r)) (λ c i r. pass_over p sigmas src c i (y + r)) d a b
        long (omega (arith, fits.region.layout.across)) low (omega arith) is (rw z eb) (λ c i r _ k _. absurd (omega arith)) (λ c i r _ _ _. let k : 0 + i ≡ i = omega arith in rw k) (λ c i r _ k h _. absurd (omega arith))
