-- One axis of the widened rectangle: it lies between the wanted interval and the whole, and starts at a multiple of 8 if the whole does. Assumes nothing.
use mathlib.Core.Path.{◌≡◌, refl}
use mathlib.Core.Bool.{Bool, true, false}
use Prim.Native.Nat.{ℕ, ◌*◌, ◌%◌, ◌≤◌}
use native.Mathlib.Omega.{arith}
use borrow.Author.Tests.{eq-eqb}
use lib.Dec.{T, lit≤}
use lib.Ieee.Fits.{and_l, and_r, and_i}
use lib.IntN.{ℤ, pos, negsuc, ◌+ℤ◌, ◌-ℤ◌, ◌*ℤ◌}
use lib.Signed.{le_z}
use Rattle.region_interval.specs.declared.Span.{Span}
use Rattle.region_interval.specs.Integers.{floor_div, greatest}
use Rattle.region_interval.specs.Interval.{span_of, extent, reaching}
use Rattle.region_interval.specs.Overlap.{covers, meet}
use Rattle.region_interval.proofs.Order.{le-to, le_of, not-le, le_trans, between, sum_is, difference-is}
use Rattle.region_interval.proofs.Division.{multiple-above, multiple-below, floor-is}
use Rattle.region_interval.proofs.Laws.{covers_of, covers-start, covers-end, meet_right, meet-most, span-not-turned, covering-not-turned}
use Rattle.region_interval.proofs.Flags.{yes}
use Rattle.region_axis.specs.Measures.{corner_fits}
use Rattle.region_axis.proofs.Laws.{span-back}
use Rattle.region_placement.specs.Blocks.{on_block}

-- ---- what a margin of m reaches

module _ (m : ℕ) (s : Span) where
  -- the start is at least m positions before that of s
  pub start-before : T (le_z ((reaching m 8 s).start +ℤ pos m) s.start)
  start-before =
      let z = s.start -ℤ pos m in
      let q = floor_div z 8 in
      le_of (q *ℤ pos 8 +ℤ pos m) s.start
      (omega (arith, sum_is (q *ℤ pos 8) (pos m), difference-is s.start (pos m), (floor-is z 8 (lit≤ tt)).under, multiple-above q 8, multiple-below q 8))

  reaching-covers : T (covers (reaching m 8 s) s)
  reaching-covers =
      let a = (reaching m 8 s).start in
      covers_of (reaching m 8 s) s
      (le_of a s.start (omega (arith, sum_is a (pos m), le-to (a +ℤ pos m) s.start start-before)))
      (le_of s.end (s.end +ℤ pos m) (omega (arith, sum_is s.end (pos m))))

-- ---- clipped to the whole w

abbrev clipped : ℕ → Span → Span → Span
clipped m s w = meet (reaching m 8 s) w

pub record Clipped (m : ℕ) (s w : Span) : Type 0 where
  pub around : T (covers (clipped m s w) s)
  pub within : T (covers w (clipped m s w))
  pub back : span_of (clipped m s w).start (extent (clipped m s w)) ≡ clipped m s w
  pub most : extent (clipped m s w) ≤ extent w
  pub least : extent s ≤ extent (clipped m s w)
  pub corner : T (corner_fits w.start) → T (corner_fits s.start) → T (corner_fits (clipped m s w).start)

module _ (m : ℕ) (s w : Span) (c : T (covers w s)) (ordered : T (le_z s.start s.end)) where
  abbrev g : Span
  g = clipped m s w

  around-of : T (covers g s)
  around-of = meet-most (reaching m 8 s) w s (reaching-covers m s) c

  within_of : T (covers w g)
  within_of = meet_right (reaching m 8 s) w

  after-whole : T (le_z w.start g.start)
  after-whole = covers-start w g within_of

  before_wanted : T (le_z g.start s.start)
  before_wanted = covers-start g s around-of

  g-ordered : T (le_z g.start g.end)
  g-ordered = covering-not-turned g s around-of ordered

  -- its start lies between two that are within the limits
  corner-of : T (corner_fits w.start) → T (corner_fits s.start) → T (corner_fits g.start)
  unfolding corner_fits
  corner-of p q =
      and_i (le_z (negsuc 1048575) g.start) (le_z g.start (pos 1048576))
      (le_trans (negsuc 1048575) w.start g.start (and_l (le_z (negsuc 1048575) w.start) (le_z w.start (pos 1048576)) p) after-whole)
      (le_trans g.start s.start (pos 1048576) before_wanted (and_r (le_z (negsuc 1048575) s.start) (le_z s.start (pos 1048576)) q))

  clipped-of : Clipped m s w
  clipped-of = record {
    around = around-of;
    within = within_of;
    back = span-back g g-ordered;
    most = between w.start g.start g.end w.end after-whole g-ordered (covers-end w g within_of);
    least = between g.start s.start s.end g.end before_wanted ordered (covers-end g s around-of);
    corner = corner-of;
  }

-- n wanted positions from z
pub clipped-facts : (m : ℕ) (z : ℤ) (n : ℕ) (w : Span) → T (covers w (span_of z n)) → Clipped m (span_of z n) w
clipped-facts m z n w c = clipped-of m (span_of z n) w c (span-not-turned z n)

-- ---- multiples of 8

-- a multiple of 8 that comes after one that is not negative
after_block : (q b : ℤ) → T (on_block b) → le_z (q *ℤ pos 8) b ≡ false → T (on_block (q *ℤ pos 8))
after_block (pos k) b t e = let z : k * 8 % 8 ≡ 0 = omega arith in yes (eq-eqb (k * 8 % 8) 0 z)
after_block (negsuc k) (negsuc j) t e = absurd t
after_block (negsuc k) (pos j) t e = absurd (omega (arith, not-le (negsuc k *ℤ pos 8) (pos j) e, multiple-above (negsuc k) 8))

pub clipped-on-block : (m : ℕ) (s w : Span) → T (on_block w.start) → T (on_block (clipped m s w).start)
clipped-on-block m s w t = go (le_z (q *ℤ pos 8) w.start) refl
  where
    q : ℤ
    q = floor_div (s.start -ℤ pos m) 8

    go : (b : Bool) → le_z (q *ℤ pos 8) w.start ≡ b → T (on_block (greatest (q *ℤ pos 8) w.start))
    go true e = rw e t
    go false e = rw e (after_block q w.start t e)
