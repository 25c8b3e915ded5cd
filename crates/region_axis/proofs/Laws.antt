-- Laws of the limits of one axis. Assumes nothing.
use mathlib.Core.Path.{◌≡◌, refl, ap}
use mathlib.Core.Bool.{Bool, true, false}
use Prim.Native.Nat.{ℕ, ◌+◌, ◌≤◌}
use native.Mathlib.Omega.{arith}
use borrow.Author.Tests.{le-leb}
use lib.Dec.{T, leb, leb→le, le→leb}
use Rattle.std.specs.Prelude.{Option, Some, None, FitsSigned}
use mir.Syntax.{w32}
use lib.Ieee.Fits.{and_l, and_r}
use lib.IntN.{ℤ, pos, negsuc, ◌+ℤ◌}
use lib.Signed.{le_z, mag}
use Rattle.region_interval.proofs.Order.{above, below, sum_is, eq_of, distance_is}
use Rattle.region_interval.proofs.Positions.{nth-offset}
use Rattle.region_interval.specs.Interval.{span_of, extent}
use Rattle.region_interval.specs.declared.Span.{Span}
use Rattle.region_interval.specs.declared.Axis.{Axis}
use Rattle.region_axis.specs.Measures.{axis_of, span_fits, corner_fits, side_fits}

-- ---- laws

-- a left or a top is at most 1,048,576 from 0
pub place-size : (z : ℤ) → T (corner_fits z) → mag z ≤ 1048576
unfolding corner_fits
place-size (pos n) t = leb→le n 1048576 (and_r (le_z (negsuc 1048575) (pos n)) (leb n 1048576) t)
place-size (negsuc n) t = omega (arith, leb→le n 1048575 (and_l (leb n 1048575) (le_z (negsuc n) (pos 1048576)) t))

pub side-size : (n : ℕ) → T (side_fits n) → n ≤ 16384
unfolding side_fits
side-size n t = leb→le n 16384 t

pub side-of : (n : ℕ) → n ≤ 16384 → T (side_fits n)
unfolding side_fits
side-of n h = le→leb n 16384 h

pub bounds-place : (s : Span) → T (span_fits s) → T (corner_fits s.start)
unfolding span_fits
bounds-place s t = and_l (corner_fits s.start) (side_fits (extent s)) t

pub bounds-extent : (s : Span) → T (span_fits s) → extent s ≤ 16384
unfolding span_fits
bounds-extent s t = side-size (extent s) (and_r (corner_fits s.start) (side_fits (extent s)) t)

-- ---- the span of a start and a length

pub extent-back : (z : ℤ) (n : ℕ) → extent (span_of z n) ≡ n
extent-back z n = nth-offset z n

-- ---- spans that are checked

pub axis-yes : (s : Span) → span_fits s ≡ true → axis_of s ≡ Some (record { start = s.start; len = extent s })
unfolding axis_of
axis-yes s e = rw e

pub axis-in : (s : Span) → corner_fits s.start ≡ true → extent s ≤ 16384 → axis_of s ≡ Some (record { start = s.start; len = extent s })
unfolding span_fits side_fits
axis-in s e h = axis-yes s (rw (e, le-leb (extent s) 16384 h))

-- what there being one says, and none
pub axis_some : (s : Span) (a : Axis) → Some a ≡ axis_of s → (span_fits s ≡ true) × (a ≡ record { start = s.start; len = extent s })
unfolding axis_of
axis_some s a = go (span_fits s) refl
  where
    go : (x : Bool) → span_fits s ≡ x → Some a ≡ axis_of s → (span_fits s ≡ true) × (a ≡ record { start = s.start; len = extent s })
    go true e f = let g : Some a ≡ Some (record { start = s.start; len = extent s }) = rw e at f in (e, cc)
    go false e f = let g : Some a ≡ None = rw e at f in cc

pub axis_start : (s : Span) (a : Axis) → Some a ≡ axis_of s → FitsSigned w32 a.start
axis_start s a e =
    let p = axis_some s a e in
    let h = place-size s.start (bounds-place s (rw p.0 tt)) in
    rw p.1 (record { sfits = omega arith })

pub axis_none : (s : Span) → None ≡ axis_of s → span_fits s ≡ false
unfolding axis_of
axis_none s = go (span_fits s) refl
  where
    go : (x : Bool) → span_fits s ≡ x → None ≡ axis_of s → span_fits s ≡ false
    go true e f = let g : ◌≡◌ {A = Option Axis} None (Some (record { start = s.start; len = extent s })) = rw e at f in cc
    go false e f = e

-- an interval with start ≤ end is given by its start and extent
pub span-back : (s : Span) → T (le_z s.start s.end) → span_of s.start (extent s) ≡ s
span-back s h = ap (λ (z : ℤ). record { start = s.start; end = z }) (eq_of (s.start +ℤ pos (extent s)) s.end arithmetic)
  where
    arithmetic : above (s.start +ℤ pos (extent s)) + below s.end ≡ above s.end + below (s.start +ℤ pos (extent s))
    arithmetic = omega (arith, sum_is s.start (pos (extent s)), distance_is s.start s.end h)
