-- Positions of an interval, and their offsets from its start and from the start of an interval that covers it. Assumes nothing.
use mathlib.Core.Path.{◌≡◌, refl}
use mathlib.Core.Bool.{Bool, true, false}
use Prim.Native.Nat.{ℕ, ◌+◌, ◌<◌, ◌≤◌}
use native.Mathlib.Omega.{arith}
use lib.Dec.{T}
use lib.IntN.{ℤ, pos, nat_abs, ◌+ℤ◌, ◌-ℤ◌}
use lib.Signed.{le_z, lt_z}
use Rattle.region_interval.specs.declared.Span.{Span}
use Rattle.region_interval.specs.Interval.{span_of}
use Rattle.region_interval.specs.Overlap.{covers, In}
use Rattle.region_interval.proofs.Order.{le-to, le_of, le_refl, le_trans, lt-to, lt_of, sum_is, distance_is}
use Rattle.region_interval.proofs.Laws.{covers_of, covers-start, covers-end}

-- ---- n positions from a

pub start-offset : (a : ℤ) → nat_abs (a -ℤ a) ≡ 0
start-offset a = omega (arith, distance_is a a (le_refl a))

pub nth_in : (a : ℤ) (n i : ℕ) → i < n → In (span_of a n) (a +ℤ pos i)
nth_in a n i h = record { from = le_of a (a +ℤ pos i) (omega (arith, sum_is a (pos i))); before = lt_of (a +ℤ pos i) (a +ℤ pos n) (omega (arith, sum_is a (pos i), sum_is a (pos n))) }

pub nth-offset : (a : ℤ) (i : ℕ) → nat_abs (a +ℤ pos i -ℤ a) ≡ i
nth-offset a i = omega (arith, sum_is a (pos i), distance_is a (a +ℤ pos i) (le_of a (a +ℤ pos i) (omega (arith, sum_is a (pos i)))))

pub offset-below : (a : ℤ) (n : ℕ) (x : ℤ) → In (span_of a n) x → nat_abs (x -ℤ a) < n
offset-below a n x held = omega (arith, distance_is a x held.from, lt-to x (a +ℤ pos n) held.before, sum_is a (pos n))

-- the offset from b is the offset from a plus that of a from b
pub offsets-add : (a b x : ℤ) → T (le_z b a) → T (le_z a x) → nat_abs (x -ℤ b) ≡ nat_abs (a -ℤ b) + nat_abs (x -ℤ a)
offsets-add a b x h k = omega (arith, distance_is b a h, distance_is a x k, distance_is b x (le_trans b a x h k))

-- ---- any interval

pub in-or-not : (s : Span) (p : ℤ) → Dec (In s p)
in-or-not s p = go (le_z s.start p) refl (lt_z p s.end) refl
  where
    go : (a : Bool) → le_z s.start p ≡ a → (b : Bool) → lt_z p s.end ≡ b → Dec (In s p)
    go true e true f = yes (record { from = rw e tt; before = rw f tt })
    go true e false f = no (λ i. rw f at i.before)
    go false e b f = no (λ i. rw e at i.from)

pub covers-itself : (s : Span) → T (covers s s)
covers-itself s = covers_of s s (le_refl s.start) (le_refl s.end)

pub in-covering : (a b : Span) (x : ℤ) → T (covers a b) → In b x → In a x
in-covering a b x c held = record {
  from = le_trans a.start b.start x (covers-start a b c) held.from;
  before = lt_of x a.end (omega (arith, lt-to x b.end held.before, le-to b.end a.end (covers-end a b c)));
}

-- ---- n positions from a, all of them among the N from b

module _ (a b : ℤ) (n N : ℕ) (c : T (covers (span_of b N) (span_of a n))) where
  starts-later : T (le_z b a)
  starts-later = covers-start (span_of b N) (span_of a n) c

  pub part-fits : nat_abs (a -ℤ b) + n ≤ N
  part-fits = omega (arith, distance_is b a starts-later, le-to (a +ℤ pos n) (b +ℤ pos N) (covers-end (span_of b N) (span_of a n) c), sum_is a (pos n), sum_is b (pos N))

  -- a position of the N is one of the n if its offset from b is in their range
  pub in-part : (x : ℤ) → In (span_of b N) x → nat_abs (a -ℤ b) ≤ nat_abs (x -ℤ b) → nat_abs (x -ℤ b) < nat_abs (a -ℤ b) + n → In (span_of a n) x
  in-part x held low high =
      let p = distance_is b a starts-later in
      let q = distance_is b x held.from in
      record { from = le_of a x (omega (arith, p, q)); before = lt_of x (a +ℤ pos n) (omega (arith, p, q, sum_is a (pos n))) }
