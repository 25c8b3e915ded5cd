-- `frame::sample_side` meets its contract: 1 shifted left by three times the LF level is 8 to the power of the LF level. Assumes nothing.
use mathlib.Core.Path.{◌≡◌, refl}
use Prim.Native.Nat.{ℕ, zero, suc, ◌*◌, ◌%◌, ◌^◌, ◌≤◌, ◌<◌}
use borrow.Author.Rules.{rules}
use native.Mathlib.Omega.{arith}
use Rattle.frame.specs.Sizes.{divided_up}
use Rattle.frame.proofs.Laws.{div-ceil-is}
use Rattle.frame.proofs.sample_side.Goals as goal

record Divisor (level d : ℕ) : Type 0 where
  is : d ≡ 8 ^ level
  low : 0 < d

divisor : (level : ℕ) → level ≤ 4 → Divisor level (1 * 2 ^ (3 * level) % 4294967296)
divisor zero h = record { is = refl; low = search rules }
divisor (suc zero) h = record { is = refl; low = search rules }
divisor (suc (suc zero)) h = record { is = refl; low = search rules }
divisor (suc (suc (suc zero))) h = record { is = refl; low = search rules }
divisor (suc (suc (suc (suc zero)))) h = record { is = refl; low = search rules }
divisor (suc (suc (suc (suc (suc n))))) h = absurd (no h)
  where
    no : suc (suc (suc (suc (suc n)))) ≤ 4 → ⊥
    no h = omega arith

pub returns : goal.returns
returns c =
    let s = c.args in
    let d = divisor s.level (omega arith) in
    rw (c.div_ceil-2.ensures, c.div_ceil.ensures, div-ceil-is s.side s.upsampling (omega arith), div-ceil-is (divided_up s.side s.upsampling) _ d.low, d.is)
