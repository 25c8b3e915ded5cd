-- The interval that a region covers on one axis: the positions p with start ≤ p < end. The arithmetic of Specification 6.1, per axis, over the integers.
-- A cell is a run of m positions that starts at a multiple of m.
use Rattle.std.specs.Prelude.{ℕ, zero, suc, ◌^◌, ℤ, pos, nat_abs, ◌+ℤ◌, ◌-ℤ◌, ◌*ℤ◌, Bool, true, false, cond, eqb}
use Rattle.region_interval.specs.Integers.{floor_div, ceil_div}
use Rattle.region_interval.specs.declared.Span.{Span}

-- len positions from start
abbrev pub span_of : ℤ → ℕ → Span
span_of start len = record { start = start; end = start +ℤ pos len }

-- the number of positions
abbrev pub extent : Span → ℕ
extent s = nat_abs (s.end -ℤ s.start)

abbrev pub moved : ℤ → Span → Span
moved d s = record { start = s.start +ℤ d; end = s.end +ℤ d }

-- n more positions at each end
abbrev pub padded : ℕ → Span → Span
padded n s = record { start = s.start -ℤ pos n; end = s.end +ℤ pos n }

-- n more positions at each end, and the start then moved down to a multiple of m
abbrev pub reaching : ℕ → ℕ → Span → Span
reaching n m s = record { start = floor_div (s.start -ℤ pos n) m *ℤ pos m; end = s.end +ℤ pos n }

-- the cells of m positions that s touches
abbrev pub shrunk : ℕ → Span → Span
shrunk m s = record { start = floor_div s.start m; end = ceil_div s.end m }

-- s extended to multiples of m
abbrev pub aligned : ℕ → Span → Span
aligned m s = record { start = floor_div s.start m *ℤ pos m; end = ceil_div s.end m *ℤ pos m }

-- d is a power of two with an exponent below n
unfoldable pub power_below : ℕ → ℕ → Bool
power_below zero d = false
power_below (suc n) d = cond (eqb d (2 ^ n)) true (power_below n d)
