-- The value of `u` in each case of `read`, and the value of an accepted field. Assumes nothing.
use Prim.Native.Nat.{ℕ, ◌+◌, ◌*◌, ◌^◌, ◌<◌, ◌≤◌}
use mathlib.Core.Bool.{Bool, true, false, cond}
use mathlib.Core.List.{List}
use mathlib.Core.Path.{◌≡◌}
use native.Mathlib.Omega.{arith}
use borrow.Author.Tests.{lt-ltb, le-ltb}
use lib.Dec.{eqb}
use lib.ListN.{length}
use Rattle.header_bits.specs.Outcome.{accepted, refused}
use Rattle.header_bits.specs.Bits.{field, u, field_checks}
use Rattle.refusals.specs.Checks.{first_of}
use Rattle.header_bits.proofs.Fields.{field_below}

module _ (s : List ℕ) (p n : ℕ) where
  pub u_long : 65536 < length s → refused 7 ≡ u n s p
  unfolding u
  u_long h = rw (lt-ltb 65536 (length s) h)

  pub u_short : length s ≤ 65536 → length s * 8 < p + n → refused 1 ≡ u n s p
  unfolding u
  u_short h k = rw (le-ltb 65536 (length s) h, lt-ltb (length s * 8) (p + n) k)

  pub u_whole : length s ≤ 65536 → p + n ≤ length s * 8 → accepted (field s p n) (p + n) ≡ u n s p
  unfolding u
  u_whole h k = rw (le-ltb 65536 (length s) h, le-ltb (length s * 8) (p + n) k)

checked_value : {A : Type 0} (b : Bool) (k : ℕ) (v a : A) (q r : ℕ) → accepted v q ≡ cond b (accepted a r) (refused k) → v ≡ a
checked_value true k v a q r e = cc
checked_value false k v a q r e = absurd (none e)
  where
    none : accepted v q ≡ refused k → ⊥
    none e = let z : ◌≡◌ {A = ℕ} 0 1 = cc in omega arith

pub u_below : (s : List ℕ) (p n v q : ℕ) → accepted v q ≡ u n s p → v < 2 ^ n
unfolding u
u_below s p n v q e =
    let k = first_of (field_checks s p n) in
    let h : v ≡ field s p n = checked_value (eqb k 0) k v (field s p n) q (p + n) e in
    omega (arith, field_below s p n)
