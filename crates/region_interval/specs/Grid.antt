-- Intervals that start and end at multiples of a number (Specification 6). Definitions only.
use Rattle.std.specs.Prelude.{◌≡◌, ℕ, ℤ, pos, ◌*ℤ◌}
use Rattle.region_interval.specs.declared.Span.{Span}

-- ---- the aligned interval covers its argument, and is the smallest between multiples that does

-- both ends are multiples of m
pub record OnGrid (m : ℕ) (s : Span) : Type 0 where
  pub first : ℤ
  pub last : ℤ
  pub start_is : s.start ≡ first *ℤ pos m
  pub end_is : s.end ≡ last *ℤ pos m
