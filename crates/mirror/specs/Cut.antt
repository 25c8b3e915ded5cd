-- Positions away from the cut edges of a row (Specification 13.5), and mirrored positions that are the same in a part and in the whole (Specification 8.2). Definitions only.
use Rattle.std.specs.Prelude.{◌≡◌, ℕ, ◌+◌, ◌<◌, ◌≤◌, ℤ, pos, ◌+ℤ◌}
use Rattle.mirror.specs.Mirror.{mirror}

-- x is an index in the part [lo, lo + n) of [0, N), at least k samples away from each edge of the part that is a cut edge
pub record Deep (k lo n N x : ℕ) : Type 0 where
  pub inside : x < n
  pub left : (lo ≡ 0 → ⊥) → k ≤ x
  pub right : (lo + n ≡ N → ⊥) → x + k < n

-- x + d, mirrored in the part, is at least k samples away from the cut edges, and is the same position of the whole as lo + x + d mirrored in the whole
pub record Carried (k lo n N x : ℕ) (d : ℤ) : Type 0 where
  pub deep : Deep k lo n N (mirror (pos x +ℤ d) n)
  pub same : lo + mirror (pos x +ℤ d) n ≡ mirror (pos (lo + x) +ℤ d) N
