-- Laws of the mirror (Specification 8.1) and of a part of a row (Specification 13.5), stated; proofs/Statements.antt proves them.
use Rattle.std.specs.Prelude.{◌≡◌, ℕ, ◌+◌, ◌*◌, ◌<◌, ◌≤◌, ℤ, pos, negsuc, nat_abs, ◌+ℤ◌, ◌-ℤ◌}
use Rattle.mirror.specs.Mirror.{mirror}
use Rattle.mirror.specs.Cut.{Deep, Carried}

-- each mirrored index is inside the row
abbrev pub MirrorInside : Type 0
MirrorInside = (z : ℤ) (n : ℕ) → 0 < n → mirror z n < n

-- periodic with period 2n
abbrev pub MirrorPeriodic : Type 0
MirrorPeriodic = (z : ℤ) (n : ℕ) → mirror (z +ℤ pos (2 * n)) n ≡ mirror z n

-- symmetric about the low edge: -1 - z and z
abbrev pub MirrorLow : Type 0
MirrorLow = (z : ℤ) (n : ℕ) → mirror (negsuc 0 -ℤ z) n ≡ mirror z n

-- symmetric about the high edge: n + z and n - 1 - z
abbrev pub MirrorHigh : Type 0
MirrorHigh = (z : ℤ) (n : ℕ) → mirror (pos n +ℤ z) n ≡ mirror (pos n -ℤ pos 1 -ℤ z) n

-- If x is at least k + r samples away from the cut edges, an offset of at most r is mirrored to the same position in the part and in the whole, at least k samples away from them.
abbrev pub MirrorCut : Type 0
MirrorCut = (k r lo n N x : ℕ) (d : ℤ) → nat_abs d ≤ r → lo + n ≤ N → Deep (k + r) lo n N x → Carried k lo n N x d
