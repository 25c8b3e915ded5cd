-- The mirrored index of an integer among n samples, reflected at both edges (Specification 8.1). Definitions only.
use Rattle.std.specs.Prelude.{cond, ℕ, ◌-◌, ◌*◌, ◌%◌, ltb, ℤ, pos, negsuc}

-- z modulo m, not negative
unfoldable pub modℤ : ℤ → ℕ → ℕ
modℤ (pos k) m = k % m
modℤ (negsuc k) m = m - 1 - k % m

-- 0 to 2n - 1 folded to 0 to n - 1: m if m < n, otherwise 2n - 1 - m
unfoldable pub folded : ℕ → ℕ → ℕ
folded n m = cond (ltb m n) m (2 * n - 1 - m)

-- the mirrored index of z among n samples: z modulo 2n, folded, so that the edge sample is repeated
unfoldable pub mirror : ℤ → ℕ → ℕ
unfolding modℤ folded
mirror z n = folded n (modℤ z (2 * n))
