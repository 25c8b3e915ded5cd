-- The laws of region arithmetic, derived from those of intervals. Assumes nothing.
use mathlib.Core.Path.{◌≡◌, refl, sym, ap, ◌∙◌, subst}
use mathlib.Core.Bool.{Bool, true, false, ◌||◌, true≢false}
use Prim.Native.Nat.{ℕ, ◌<◌}
use borrow.Author.Tests.{eqb-false}
use lib.Dec.{T, eqb}
use lib.Signed.{le_z}
use Rattle.region_interval.specs.Integers.{floor_div}
use Rattle.region_interval.specs.Interval.{shrunk, aligned}
use Rattle.region_interval.specs.Overlap.{vacant, covers, meet, In}
use Rattle.region_interval.specs.Grid.{OnGrid}
use Rattle.region_interval.proofs.Laws.{held-not-vacant, first-place, not-turned, span-not-vacant, covering-not-vacant, covering-not-turned, span-not-turned, meet_left, meet_right, meet-most, aligned-on-grid, aligned-covers, aligned-least, cell_in, cell-touched}
use Rattle.region_axis.proofs.Laws.{span-back}
use Rattle.region_interval.specs.declared.Span.{Span}
use Rattle.region_arithmetic.specs.Laws.{IntersectionInside, IntersectionGreatest, AlignedContains, AlignedLeast, ShrunkHas, ShrunkTouched}
use Rattle.region.specs.Regions.{columns, rows, region_of, zero_region, is_empty, inside, contains}
use Rattle.region.proofs.Regions.{inside_of, inside-columns, inside-rows}
use Rattle.region_arithmetic.specs.Arithmetic.{intersected, shrunk_by, aligned_to}
use Rattle.region.specs.declared.Region.{Region}

or_left : (a b : Bool) → T a → T (a || b)
or_left true b t = tt
or_left false b t = absurd t

or_right : (a b : Bool) → T b → T (a || b)
or_right true b t = tt
or_right false b t = t

or-false-left : (a b : Bool) → (a || b) ≡ false → a ≡ false
or-false-left true b e = e
or-false-left false b e = refl

or-false-right : (a b : Bool) → (a || b) ≡ false → b ≡ false
or-false-right true b e = absurd (true≢false e)
or-false-right false b e = e

-- ---- containment, per axis

module _ (r t : Region) where
  contains-of : T (covers (columns r) (columns t)) → T (covers (rows r) (rows t)) → T (contains r t)
  contains-of h k = or_right (is_empty t) (inside r t) (inside_of r t h k)

  module _ (n : is_empty t ≡ false) (c : T (contains r t)) where
    contained : T (inside r t)
    contained = rw n at c

    across-of : T (covers (columns r) (columns t))
    across-of = inside-columns r t contained

    down-of : T (covers (rows r) (rows t))
    down-of = inside-rows r t contained

module _ (r : Region) (n : is_empty r ≡ false) where
  columns-held : vacant (columns r) ≡ false
  columns-held = span-not-vacant r.left r.width (eqb-false r.width 0 (or-false-left (eqb r.width 0) (eqb r.height 0) n))

  rows-held : vacant (rows r) ≡ false
  rows-held = span-not-vacant r.top r.height (eqb-false r.height 0 (or-false-right (eqb r.width 0) (eqb r.height 0) n))

-- ---- the columns and rows of a region made of two spans

columns-back : (x y : Span) → T (le_z x.start x.end) → columns (region_of x y) ≡ x
unfolding region_of
columns-back x y h = span-back x h

rows_back : (x y : Span) → T (le_z y.start y.end) → rows (region_of x y) ≡ y
unfolding region_of
rows_back x y h = span-back y h

-- ---- the intersection

module _ (a b : Region) where
  x : Span
  x = meet (columns a) (columns b)

  y : Span
  y = meet (rows a) (rows b)

  none : (vacant x || vacant y) ≡ true → intersected a b ≡ zero_region
  unfolding intersected x y
  none e = rw e

  some : (vacant x || vacant y) ≡ false → intersected a b ≡ region_of x y
  unfolding intersected x y
  some e = rw e

  some-columns : (vacant x || vacant y) ≡ false → columns (intersected a b) ≡ x
  some-columns e = ap columns (some e) ∙ columns-back x y (not-turned x (or-false-left (vacant x) (vacant y) e))

  some-rows : (vacant x || vacant y) ≡ false → rows (intersected a b) ≡ y
  some-rows e = ap rows (some e) ∙ rows_back x y (not-turned y (or-false-right (vacant x) (vacant y) e))

  is-inside : T (contains a (intersected a b)) × T (contains b (intersected a b))
  is-inside = go (vacant x || vacant y) refl
    where
      go : (v : Bool) → (vacant x || vacant y) ≡ v → T (contains a (intersected a b)) × T (contains b (intersected a b))
      go true e = (or_left (is_empty (intersected a b)) (inside a (intersected a b)) (rw (none e) tt), or_left (is_empty (intersected a b)) (inside b (intersected a b)) (rw (none e) tt))
      go false e = (
        contains-of a (intersected a b) (subst (λ s. T (covers (columns a) s)) (sym (some-columns e)) (unfold x in meet_left (columns a) (columns b))) (subst (λ s. T (covers (rows a) s)) (sym (some-rows e)) (unfold y in meet_left (rows a) (rows b))),
        contains-of b (intersected a b) (subst (λ s. T (covers (columns b) s)) (sym (some-columns e)) (unfold x in meet_right (columns a) (columns b))) (subst (λ s. T (covers (rows b) s)) (sym (some-rows e)) (unfold y in meet_right (rows a) (rows b))),
      )

  greatest : (c : Region) → is_empty c ≡ false → T (contains a c) → T (contains b c) → T (contains (intersected a b) c)
  greatest c n p q =
      let h : T (covers x (columns c)) = unfold x in meet-most (columns a) (columns b) (columns c) (across-of a c n p) (across-of b c n q) in
      let k : T (covers y (rows c)) = unfold y in meet-most (rows a) (rows b) (rows c) (down-of a c n p) (down-of b c n q) in
      let e : (vacant x || vacant y) ≡ false = both (covering-not-vacant x (columns c) h (columns-held c n)) (covering-not-vacant y (rows c) k (rows-held c n)) in
      contains-of (intersected a b) c (subst (λ s. T (covers s (columns c))) (sym (some-columns e)) h) (subst (λ s. T (covers s (rows c))) (sym (some-rows e)) k)
    where
      both : vacant x ≡ false → vacant y ≡ false → (vacant x || vacant y) ≡ false
      both p q = rw (p, q)

pub intersection-inside : IntersectionInside
intersection-inside a b = is-inside a b

pub intersection-greatest : IntersectionGreatest
intersection-greatest a b c n p q = greatest a b c n p q

-- ---- the aligned region

module _ (m : ℕ) (r : Region) (h : 0 < m) where
  aligned-columns : columns (aligned_to m r) ≡ aligned m (columns r)
  unfolding aligned_to
  aligned-columns =
      columns-back (aligned m (columns r)) (aligned m (rows r))
      (covering-not-turned (aligned m (columns r)) (columns r) (aligned-covers m (columns r) h) (span-not-turned r.left r.width))

  aligned-rows : rows (aligned_to m r) ≡ aligned m (rows r)
  unfolding aligned_to
  aligned-rows =
      rows_back (aligned m (columns r)) (aligned m (rows r))
      (covering-not-turned (aligned m (rows r)) (rows r) (aligned-covers m (rows r) h) (span-not-turned r.top r.height))

pub aligned-contains : AlignedContains
aligned-contains m r h = (
  record { across = subst (OnGrid m) (sym (aligned-columns m r h)) (aligned-on-grid m (columns r)); down = subst (OnGrid m) (sym (aligned-rows m r h)) (aligned-on-grid m (rows r)) },
  contains-of (aligned_to m r) r
      (subst (λ s. T (covers s (columns r))) (sym (aligned-columns m r h)) (aligned-covers m (columns r) h))
      (subst (λ s. T (covers s (rows r))) (sym (aligned-rows m r h)) (aligned-covers m (rows r) h)),
)

pub aligned-smallest : AlignedLeast
aligned-smallest m r s h n g c =
    contains-of s (aligned_to m r)
    (subst (λ t. T (covers (columns s) t)) (sym (aligned-columns m r h)) (aligned-least m (columns r) (columns s) h g.across (across-of s r n c)))
    (subst (λ t. T (covers (rows s) t)) (sym (aligned-rows m r h)) (aligned-least m (rows r) (rows s) h g.down (down-of s r n c)))

-- ---- the shrunk region

module _ (m : ℕ) (r : Region) (h : 0 < m) where
  shrunk-columns : vacant (shrunk m (columns r)) ≡ false → columns (shrunk_by m r) ≡ shrunk m (columns r)
  unfolding shrunk_by
  shrunk-columns v = columns-back (shrunk m (columns r)) (shrunk m (rows r)) (not-turned (shrunk m (columns r)) v)

  shrunk-rows : vacant (shrunk m (rows r)) ≡ false → rows (shrunk_by m r) ≡ shrunk m (rows r)
  unfolding shrunk_by
  shrunk-rows v = rows_back (shrunk m (columns r)) (shrunk m (rows r)) (not-turned (shrunk m (rows r)) v)

pub shrunk-has : ShrunkHas
shrunk-has m r h x y i =
    let a = cell_in m (columns r) h x i.column in
    let b = cell_in m (rows r) h y i.row in
    record {
      column = subst (λ s. In s (floor_div x m)) (sym (shrunk-columns m r h (held-not-vacant (shrunk m (columns r)) (floor_div x m) a))) a;
      row = subst (λ s. In s (floor_div y m)) (sym (shrunk-rows m r h (held-not-vacant (shrunk m (rows r)) (floor_div y m) b))) b;
    }

pub shrunk-touched : ShrunkTouched
shrunk-touched m r h n i j k =
    let u = columns-held r n in
    let v = rows-held r n in
    let a = held-not-vacant (shrunk m (columns r)) _ (cell_in m (columns r) h r.left (first-place (columns r) u)) in
    let b = held-not-vacant (shrunk m (rows r)) _ (cell_in m (rows r) h r.top (first-place (rows r) v)) in
    let p = cell-touched m (columns r) h u i (subst (λ s. In s i) (shrunk-columns m r h a) k.column) in
    let q = cell-touched m (rows r) h v j (subst (λ s. In s j) (shrunk-rows m r h b) k.row) in
    (p.0, q.0, record { column = p.1; row = q.1 }, p.2, q.2)
