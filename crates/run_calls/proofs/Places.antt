-- One axis of a filter region that is part of a larger one: positions clear of its cut edges, and starts at multiples of 8. Assumes nothing.
use mathlib.Core.Path.{◌≡◌, ap}
use Prim.Native.Nat.{ℕ, ◌+◌, ◌*◌, ◌/◌, ◌%◌}
use native.Mathlib.Omega.{arith}
use lib.Dec.{T, eqb→eq}
use lib.IntN.{ℤ, pos, negsuc, nat_abs, ◌+ℤ◌, ◌-ℤ◌}
use lib.Signed.{le_z, lt_z}
use Rattle.region_interval.specs.Interval.{span_of}
use Rattle.region_interval.specs.Overlap.{covers, In}
use Rattle.region_interval.proofs.Order.{above, below, le-to, lt-to, sum_is, distance_is}
use Rattle.region_interval.proofs.Laws.{covers-start}
use Rattle.region_interval.proofs.Positions.{offset-below}
use Rattle.mirror.specs.Cut.{Deep}
use Rattle.region_placement.specs.Blocks.{on_block, clamp_to_zero as not_negative}

-- n positions from a, all of them among the N from b: a position x of the n that is at least m away from each cut edge
module _ (a b : ℤ) (n N : ℕ) (c : T (covers (span_of b N) (span_of a n))) (x : ℤ) (held : In (span_of a n) x) where
  pub deep : (m : ℕ) → ((a ≡ b → ⊥) → T (le_z (a +ℤ pos m) x)) → ((a +ℤ pos n ≡ b +ℤ pos N → ⊥) → T (lt_z (x +ℤ pos m) (a +ℤ pos n)))
      → Deep m (nat_abs (a -ℤ b)) n N (nat_abs (x -ℤ a))
  deep m low high =
      let d = distance_is a x held.from in
      let s = distance_is b a (covers-start (span_of b N) (span_of a n) c) in
      record {
        inside = offset-below a n x held;
        left = λ f. omega (arith, le-to (a +ℤ pos m) x (low (λ (e : a ≡ b). f (omega (arith, ap above e, ap below e)))), sum_is a (pos m));
        right = λ f. omega (
          arith,
          lt-to (x +ℤ pos m) (a +ℤ pos n) (high (λ (e : a +ℤ pos n ≡ b +ℤ pos N). f (omega (arith, ap above e, ap below e, sum_is a (pos n), sum_is b (pos N))))),
          sum_is a (pos n),
          sum_is x (pos m),
        );
      }

-- two starts at multiples of 8
pub blocks-apart : (a b : ℤ) → T (le_z b a) → T (on_block a) → T (on_block b) → (not_negative a ≡ not_negative b + nat_abs (a -ℤ b)) × (nat_abs (a -ℤ b) ≡ 8 * (nat_abs (a -ℤ b) / 8))
blocks-apart (pos i) (pos j) h p q =
    let u : i % 8 ≡ 0 = eqb→eq (i % 8) 0 p in
    let v : j % 8 ≡ 0 = eqb→eq (j % 8) 0 q in
    let w : nat_abs (pos i -ℤ pos j) + j ≡ i = omega (arith, distance_is (pos j) (pos i) h) in
    (omega arith, omega arith)
blocks-apart (pos i) (negsuc j) h p q = absurd q
blocks-apart (negsuc i) b h p q = absurd p
