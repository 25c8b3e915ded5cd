-- Laws of intervals: intersection, extension to multiples, and the cells that an interval touches. Assumes nothing.
use mathlib.Core.Path.{◌≡◌, refl}
use mathlib.Core.Bool.{Bool, true, false}
use Prim.Native.Nat.{ℕ, ◌+◌, ◌*◌, ◌<◌, ◌≤◌}
use native.Mathlib.Nat.{mul-le-mul_right}
use native.Mathlib.Decide.{dec_le}
use native.Mathlib.Omega.{arith}
use lib.Dec.{T}
use lib.Ieee.Fits.{and_l, and_r, and_i}
use lib.IntN.{ℤ, pos, ◌+ℤ◌, ◌*ℤ◌}
use lib.Signed.{le_z}
use Rattle.region_interval.specs.Integers.{floor_div, ceil_div}
use Rattle.region_interval.proofs.Order.{above, below, sum_is, le-to, le_of, lt-to, lt_of, not-le, greatest-over-left, greatest-over-right, greatest-under, least-under-left, least-under-right, least-over}
use Rattle.region_interval.proofs.Division.{Floor, floor-is, floor-most, floor-only, ceil-under, ceil-least, multiple-above, multiple-below}
use Rattle.region_interval.specs.Interval.{span_of, shrunk, aligned}
use Rattle.region_interval.specs.Overlap.{vacant, covers, meet, In}
use Rattle.region_interval.specs.declared.Span.{Span}
use Rattle.region_interval.specs.Grid.{OnGrid}

pub covers_of : (a b : Span) → T (le_z a.start b.start) → T (le_z b.end a.end) → T (covers a b)
covers_of a b h k = and_i (le_z a.start b.start) (le_z b.end a.end) h k

pub covers-start : (a b : Span) → T (covers a b) → T (le_z a.start b.start)
covers-start a b t = and_l (le_z a.start b.start) (le_z b.end a.end) t

pub covers-end : (a b : Span) → T (covers a b) → T (le_z b.end a.end)
covers-end a b t = and_r (le_z a.start b.start) (le_z b.end a.end) t

-- ---- the intersection is inside both, and contains every interval that is inside both

pub meet_left : (a b : Span) → T (covers a (meet a b))
meet_left a b = covers_of a (meet a b) (greatest-over-left a.start b.start) (least-under-left a.end b.end)

pub meet_right : (a b : Span) → T (covers b (meet a b))
meet_right a b = covers_of b (meet a b) (greatest-over-right a.start b.start) (least-under-right a.end b.end)

pub meet-most : (a b c : Span) → T (covers a c) → T (covers b c) → T (covers (meet a b) c)
meet-most a b c h k =
    covers_of (meet a b) c
    (greatest-under a.start b.start c.start (covers-start a c h) (covers-start b c k))
    (least-over a.end b.end c.end (covers-end a c h) (covers-end b c k))

pub aligned-on-grid : (m : ℕ) (s : Span) → OnGrid m (aligned m s)
aligned-on-grid m s = record { first = floor_div s.start m; last = ceil_div s.end m; start_is = refl; end_is = refl }

pub aligned-covers : (m : ℕ) (s : Span) → 0 < m → T (covers (aligned m s) s)
aligned-covers m s h =
    let q = floor_div s.start m in
    let c = ceil_div s.end m in
    covers_of (aligned m s) s
    (le_of (q *ℤ pos m) s.start (omega (arith, (floor-is s.start m h).under, multiple-above q m, multiple-below q m)))
    (le_of s.end (c *ℤ pos m) (omega (arith, ceil-under s.end m h, multiple-above c m, multiple-below c m)))

times : (a b c d m : ℕ) → a + b ≤ c + d → a * m + b * m ≤ c * m + d * m
times a b c d m h =
    let e : (a + b) * m ≡ a * m + b * m = omega arith in
    let f : (c + d) * m ≡ c * m + d * m = omega arith in
    omega (arith, mul-le-mul_right m h)

pub aligned-least : (m : ℕ) (s g : Span) → 0 < m → OnGrid m g → T (covers g s) → T (covers g (aligned m s))
aligned-least m s g h o t =
    let q = floor_div s.start m in
    let c = ceil_div s.end m in
    let a = o.first in
    let b = o.last in
    let u = rw o.start_is at (le-to g.start s.start (covers-start g s t)) in
    let v = rw o.end_is at (le-to s.end g.end (covers-end g s t)) in
    let lo = floor-most q s.start m a (floor-is s.start m h) (omega (arith, u, multiple-above a m, multiple-below a m)) in
    let hi = ceil-least s.end m b h (omega (arith, v, multiple-above b m, multiple-below b m)) in
    covers_of g (aligned m s)
    (rw o.start_is (le_of (a *ℤ pos m) (q *ℤ pos m) (omega (arith, times (above a) (below q) (above q) (below a) m lo, multiple-above a m, multiple-below a m, multiple-above q m, multiple-below q m))))
    (rw o.end_is (le_of (c *ℤ pos m) (b *ℤ pos m) (omega (arith, times (above c) (below b) (above b) (below c) m hi, multiple-above b m, multiple-below b m, multiple-above c m, multiple-below c m))))

-- ---- the shrunk interval has exactly the cells that the interval touches
module _ (m : ℕ) (s : Span) (h : 0 < m) where
  -- the cell of each position of s
  pub cell_in : (p : ℤ) → In s p → In (shrunk m s) (floor_div p m)
  cell_in p i =
      let q = floor_div s.start m in
      let c = ceil_div s.end m in
      let k = floor_div p m in
      let f = floor-is p m h in
      let g = floor-is s.start m h in
      let lo = le-to s.start p i.from in
      let hi = lt-to p s.end i.before in
      record {
        from = le_of q k (floor-most k p m q f (omega (arith, g.under)));
        before = lt_of k c (below_end (dec_le (above c + below k) (above k + below c)) f hi);
      }
    where
      below_end : Dec (above (ceil_div s.end m) + below (floor_div p m) ≤ above (floor_div p m) + below (ceil_div s.end m))
          → Floor (floor_div p m) p m → above p + below s.end < above s.end + below p
          → above (floor_div p m) + below (ceil_div s.end m) < above (ceil_div s.end m) + below (floor_div p m)
      below_end (no l) f hi = omega arith
      below_end (yes l) f hi =
          absurd (omega (arith, f.under, hi, ceil-under s.end m h, times (above (ceil_div s.end m)) (below (floor_div p m)) (above (floor_div p m)) (below (ceil_div s.end m)) m l))

  -- each cell of the shrunk interval holds a position of s: the cell's first position, or the interval's if that is later
  pub cell-touched : vacant s ≡ false → (k : ℤ) → In (shrunk m s) k → (p : ℤ) × In s p × (floor_div p m ≡ k)
  cell-touched v k i = go (le_z s.start (k *ℤ pos m)) refl
    where
      go : (x : Bool) → le_z s.start (k *ℤ pos m) ≡ x → (p : ℤ) × In s p × (floor_div p m ≡ k)
      go true e = (k *ℤ pos m, record { from = rw e tt; before = lt_of (k *ℤ pos m) s.end (inner (dec_le (above s.end + below k * m) (above k * m + below s.end))) }, floor-only (k *ℤ pos m) m k h (record { under = omega (arith, multiple-above k m, multiple-below k m); over = omega (arith, multiple-above k m, multiple-below k m) }))
        where
          inner : Dec (above s.end + below k * m ≤ above k * m + below s.end) → above (k *ℤ pos m) + below s.end < above s.end + below (k *ℤ pos m)
          inner (no l) = omega (arith, multiple-above k m, multiple-below k m)
          inner (yes l) = absurd (omega (arith, ceil-least s.end m k h l, lt-to k (ceil_div s.end m) i.before))
      go false e =
          let n = not-le s.start (k *ℤ pos m) e in
          let f = floor-is s.start m h in
          let lo = le-to (floor_div s.start m) k i.from in (
            s.start,
            record { from = le_of s.start s.start (omega arith); before = lt_of s.start s.end (omega (arith, not-le s.end s.start v)) },
            floor-only s.start m k h (record { under = omega (arith, n, multiple-above k m, multiple-below k m); over = omega (arith, f.over, times (above (floor_div s.start m)) (below k) (above k) (below (floor_div s.start m)) m lo) }),
          )

-- ---- positions, and empty intervals

not-vacant-of : (s : Span) → above s.start + below s.end < above s.end + below s.start → vacant s ≡ false
not-vacant-of s h = go (le_z s.end s.start) refl
  where
    go : (x : Bool) → le_z s.end s.start ≡ x → x ≡ false
    go false e = refl
    go true e = absurd (omega (arith, le-to s.end s.start (rw e tt)))

pub held-not-vacant : (s : Span) (p : ℤ) → In s p → vacant s ≡ false
held-not-vacant s p i = not-vacant-of s (omega (arith, le-to s.start p i.from, lt-to p s.end i.before))

-- a nonempty interval contains its start
pub first-place : (s : Span) → vacant s ≡ false → In s s.start
first-place s v = record { from = le_of s.start s.start (omega arith); before = lt_of s.start s.end (omega (arith, not-le s.end s.start v)) }

pub not-turned : (s : Span) → vacant s ≡ false → T (le_z s.start s.end)
not-turned s v = le_of s.start s.end (omega (arith, not-le s.end s.start v))

pub span-not-vacant : (z : ℤ) (n : ℕ) → (n ≡ 0 → ⊥) → vacant (span_of z n) ≡ false
span-not-vacant z n h = not-vacant-of (span_of z n) (positive (dec_le n 0))
  where
    positive : Dec (n ≤ 0) → above z + below (z +ℤ pos n) < above (z +ℤ pos n) + below z
    positive (yes l) = absurd (h (omega arith))
    positive (no l) = omega (arith, sum_is z (pos n))

-- an interval that covers a nonempty one is not empty
pub covering-not-vacant : (a b : Span) → T (covers a b) → vacant b ≡ false → vacant a ≡ false
covering-not-vacant a b t v =
    not-vacant-of a (omega (arith, le-to a.start b.start (covers-start a b t), le-to b.end a.end (covers-end a b t), not-le b.end b.start v))

pub covering-not-turned : (a b : Span) → T (covers a b) → T (le_z b.start b.end) → T (le_z a.start a.end)
covering-not-turned a b t v =
    le_of a.start a.end (omega (arith, le-to a.start b.start (covers-start a b t), le-to b.end a.end (covers-end a b t), le-to b.start b.end v))

pub span-not-turned : (z : ℤ) (n : ℕ) → T (le_z (span_of z n).start (span_of z n).end)
span-not-turned z n = le_of z (z +ℤ pos n) (omega (arith, sum_is z (pos n)))
