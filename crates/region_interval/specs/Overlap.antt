-- Empty intervals, containment and intersection (Specification 2.1, 6.2). Definitions only.
use Rattle.std.specs.Prelude.{Bool, ◌&&◌, T, ℤ}
use Rattle.std.specs.Int.Signed.{le_z, lt_z}
use Rattle.region_interval.specs.Integers.{least, greatest}
use Rattle.region_interval.specs.declared.Span.{Span}

-- the interval is empty
abbrev pub vacant : Span → Bool
vacant s = le_z s.end s.start

-- each position of b is a position of a
abbrev pub covers : Span → Span → Bool
covers a b = le_z a.start b.start && le_z b.end a.end

-- the intersection: the positions that are in both
abbrev pub meet : Span → Span → Span
meet a b = record { start = greatest a.start b.start; end = least a.end b.end }

-- p is a position of s
pub record In (s : Span) (p : ℤ) : Type 0 where
  pub from : T (le_z s.start p)
  pub before : T (lt_z p s.end)
