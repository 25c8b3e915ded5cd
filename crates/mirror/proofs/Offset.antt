-- Sums of offsets that the code holds as a difference of two natural numbers, `sub_ℕ a b` for a - b. Assumes nothing.
use mathlib.Core.Path.{◌≡◌, ap, ◌∙◌}
use Prim.Native.Nat.{ℕ, suc, ◌+◌, ◌-◌, ◌<◌}
use native.Mathlib.Decide.{dec_lt}
use native.Mathlib.Omega.{arith}
use borrow.Author.Tests.{lt-ltb, le-ltb}
use lib.IntN.{pos, negsuc, ◌+ℤ◌, sub_ℕ, +ℤ_comm}

-- a position plus an offset
pub offset-from : (x a b : ℕ) → pos x +ℤ sub_ℕ a b ≡ sub_ℕ (x + a) b
offset-from x a b = go (dec_lt a b) (dec_lt (x + a) b)
  where
    go : Dec (a < b) → Dec (x + a < b) → pos x +ℤ sub_ℕ a b ≡ sub_ℕ (x + a) b
    go (yes p) (yes q) = rw (lt-ltb a b p, lt-ltb (x + a) b q, lt-ltb x (suc (b - suc a)) (omega arith)) (ap negsuc (omega arith))
    go (yes p) (no q) = rw (lt-ltb a b p, le-ltb (x + a) b (omega arith), le-ltb x (suc (b - suc a)) (omega arith)) (ap pos (omega arith))
    go (no p) (yes q) = absurd (omega arith)
    go (no p) (no q) = rw (le-ltb a b (omega arith), le-ltb (x + a) b (omega arith)) (ap pos (omega arith))

-- an offset depends on the difference alone
pub offset-same : (a b c d : ℕ) → a + d ≡ c + b → sub_ℕ a b ≡ sub_ℕ c d
offset-same a b c d e = go (dec_lt a b)
  where
    go : Dec (a < b) → sub_ℕ a b ≡ sub_ℕ c d
    go (yes p) = rw (lt-ltb a b p, lt-ltb c d (omega arith)) (ap negsuc (omega arith))
    go (no p) = rw (le-ltb a b (omega arith), le-ltb c d (omega arith)) (ap pos (omega arith))

-- the sum of two offsets
pub offset-sum : (a b c d : ℕ) → sub_ℕ a b +ℤ sub_ℕ c d ≡ sub_ℕ (a + c) (b + d)
offset-sum a b c d = go (dec_lt a b) (dec_lt c d)
  where
    go : Dec (a < b) → Dec (c < d) → sub_ℕ a b +ℤ sub_ℕ c d ≡ sub_ℕ (a + c) (b + d)
    go (no p) q = rw (le-ltb a b (omega arith)) (offset-from (a - b) c d ∙ offset-same (a - b + c) d (a + c) (b + d) (omega arith))
    go (yes p) (no q) = +ℤ_comm (sub_ℕ a b) (sub_ℕ c d) ∙ rw (le-ltb c d (omega arith)) (offset-from (c - d) a b ∙ offset-same (c - d + a) b (a + c) (b + d) (omega arith))
    go (yes p) (yes q) = rw (lt-ltb a b p, lt-ltb c d q, lt-ltb (a + c) (b + d) (omega arith)) (ap negsuc (omega arith))
