-- `multiple` meets its contract. Assumes nothing.
use mathlib.Core.Path.{◌≡◌, refl}
use Prim.Native.Nat.{ℕ, ◌^◌, ◌*◌, ◌+◌, ◌<◌, ◌≤◌}
use native.Mathlib.Nat.{mul-le-mul_left, mul-le-mul_right}
use native.Mathlib.Omega.{arith}
use borrow.Author.Rules.{rules}
use lib.IntN.{pos, ◌*ℤ◌}
use lib.Signed.{mag}
use lib.Pow.{pow-lt}
use mir.Syntax.{w64}
use mir.Val.{SFits}
use mir.Facts.{to_z-of_z}
use Rattle.region_interval.proofs.Signed.{mag-mul, power64}
use Rattle.region_interval.proofs.multiple.Statement.{statement}
use Rattle.region_interval.proofs.multiple.Tie as tie

bound : (q f : ℕ) → q < 34359738368 → f < 14 → q * 2 ^ f + 2 ^ f ≤ 34359738368 * 16384
bound q f h k =
    let l : 2 ^ f < 2 ^ 14 = pow-lt {i = f} {j = 14} k in
    let m : 2 ^ f ≤ 16384 = omega arith in
    let s : q + 1 ≤ 34359738368 = omega arith in
    let e : (q + 1) * 2 ^ f ≡ q * 2 ^ f + 2 ^ f = omega arith in
    omega (arith, mul-le-mul_right (2 ^ f) s, mul-le-mul_left 34359738368 m)

far : (c : tie.Start) → mag (c.args.q *ℤ pos (2 ^ c.args.f)) ≤ 34359738368 * 16384
far c = omega (arith, mag-mul c.args.q (2 ^ c.args.f), bound (mag c.args.q) c.args.f c.requires.1 c.requires.0)

fits : (c : tie.Start) → SFits w64 (c.args.q *ℤ pos (2 ^ c.args.f))
fits c = record { sfits = omega (arith, far c) }

mul-result : tie.Need-overflow_mul-result
mul-result c = rw (to_z-of_z c.ranges.q, power64 c.args.f c.requires.0) (fits c)

returns : tie.Need-returns
returns c =
    rw (to_z-of_z c.ranges.q, power64 c.args.f c.requires.0, to_z-of_z (fits c)) refl

pub multiple_spec : {M : Type 1} → statement M
multiple_spec = tie.close (tie.spec (λ c. search rules) (λ c. search rules) mul-result returns)
