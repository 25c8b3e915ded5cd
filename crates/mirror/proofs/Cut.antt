-- Away from the cut edges a part of a row has the same mirrored indices as the whole row. Assumes nothing.
use mathlib.Core.Path.{◌≡◌, ap}
use mathlib.Core.Logic.{◌⊎◌, inl, inr, ⊎_elim}
use Prim.Native.Nat.{ℕ, suc, ◌+◌, ◌-◌, ◌*◌, ◌<◌, ◌≤◌}
use native.Mathlib.Decide.{dec_lt, dec_le, ℕ_discrete}
use native.Mathlib.Omega.{arith}
use borrow.Author.Tests.{lt-ltb, le-ltb}
use lib.IntN.{ℤ, pos, negsuc, ◌+ℤ◌, nat_abs}
use Rattle.mirror.specs.Mirror.{mirror}
use Rattle.mirror.proofs.Laws.{mirror-lt, mirror-in, mirror-under, mirror-over}
use Rattle.mirror.specs.Cut.{Deep, Carried}

-- x plus the offset d is p, for every start lo of the part
abbrev Lands : (x p : ℕ) → ℤ → Type 0
Lands x p d = (lo : ℕ) → pos (lo + x) +ℤ d ≡ pos (lo + p)

-- x plus an offset of at most r is some p that is not negative, or -1 - q
moved : (x r : ℕ) (d : ℤ) → nat_abs d ≤ r → ((p : ℕ) × (x ≤ p + r) × (p ≤ x + r) × Lands x p d) ⊎ ((q : ℕ) × (x + suc q ≤ r) × (pos x +ℤ d ≡ negsuc q))
moved x r (pos a) h = inl (x + a, omega arith, omega arith, λ lo. ap pos (omega arith))
moved x r (negsuc b) h = go (dec_le (suc b) x)
  where
    go : Dec (suc b ≤ x) → ((p : ℕ) × (x ≤ p + r) × (p ≤ x + r) × Lands x p (negsuc b)) ⊎ ((q : ℕ) × (x + suc q ≤ r) × (pos x +ℤ negsuc b ≡ negsuc q))
    go (yes l) = inl (x - suc b, omega arith, omega arith, λ lo. rw (le-ltb (lo + x) (suc b) (omega arith)) (ap pos (omega arith)))
    go (no l) = inr (b - x, omega arith, rw (lt-ltb x (suc b) (omega arith)) (ap negsuc (omega arith)))

zero-plus : (x : ℕ) → 0 + x ≡ x
zero-plus x = omega arith

module _ (k r lo n N x : ℕ) (d : ℤ) (small : nat_abs d ≤ r) (fits : lo + n ≤ N) (deep : Deep (k + r) lo n N x) where
  -- there is no cut edge
  uncut : lo ≡ 0 → lo + n ≡ N → Carried k lo n N x d
  uncut z e =
      let m : N ≡ n = omega arith in
      record {
        deep = record { inside = mirror-lt (pos x +ℤ d) n (omega arith); left = λ f. absurd (f z); right = λ f. absurd (f e) };
        same = rw (z, m, zero-plus x) (zero-plus (mirror (pos x +ℤ d) n));
      }

  -- both mirrored indices are the index y of the part
  goes : (y : ℕ) → mirror (pos x +ℤ d) n ≡ y → mirror (pos (lo + x) +ℤ d) N ≡ lo + y → y < n → ((lo ≡ 0 → ⊥) → k ≤ y) → ((lo + n ≡ N → ⊥) → y + k < n) → Carried k lo n N x d
  goes y e f i l g = record { deep = rw e (record { inside = i; left = l; right = g }); same = rw (e, f) }

  -- x + d is inside the part
  stays : (p : ℕ) → x ≤ p + r → p ≤ x + r → Lands x p d → p < n → Carried k lo n N x d
  stays p u v e l =
      let here : pos x +ℤ d ≡ pos p = rw (zero-plus x, zero-plus p) at (e 0) in
      goes p (rw here (mirror-in n p l)) (rw (e lo) (mirror-in N (lo + p) (omega arith))) l
      (λ f. omega (arith, deep.left f)) (λ f. omega (arith, deep.right f))

  -- x + d is past the high edge, which is then not a cut edge
  over : (p : ℕ) → p ≤ x + r → Lands x p d → n ≤ p → Dec (lo ≡ 0) → Dec (lo + n ≡ N) → Carried k lo n N x d
  over p v e l i (no f) = absurd (omega (arith, deep.right f))
  over p v e l (yes z) (yes f) = uncut z f
  over p v e l (no z) (yes f) =
      let here : pos x +ℤ d ≡ pos p = rw (zero-plus x, zero-plus p) at (e 0) in
      let a : k + r ≤ x = deep.left z in
      let m : mirror (pos (lo + p)) N ≡ 2 * N - 1 - (lo + p) = mirror-over N (lo + p) (omega arith) (omega arith) in
      goes (2 * n - 1 - p) (rw here (mirror-over n p l (omega arith))) (rw (e lo) (omega arith)) (omega arith)
      (λ g. omega arith) (λ g. absurd (g f))

  -- x + d is past the low edge, which is then not a cut edge
  under : (q : ℕ) → x + suc q ≤ r → pos x +ℤ d ≡ negsuc q → Dec (lo ≡ 0) → Dec (lo + n ≡ N) → Carried k lo n N x d
  under q h e (no z) i = absurd (omega (arith, deep.left z))
  under q h e (yes z) (yes f) = uncut z f
  under q h e (yes z) (no f) =
      let a : x + (k + r) < n = deep.right f in
      goes q (rw e (mirror-under n q (omega arith))) (rw (z, zero-plus x, zero-plus q, e) (mirror-under N q (omega arith))) (omega arith)
      (λ g. absurd (g z)) (λ g. omega arith)

  -- If x is at least k + r samples away from the cut edges, an offset of at most r is mirrored to the same position in the part and in the whole, at least k samples away from the cut edges.
  pub mirror-cut : Carried k lo n N x d
  mirror-cut = ⊎_elim
      (λ s. go s (dec_lt s.0 n))
      (λ s. under s.0 s.1 s.2 (ℕ_discrete lo 0) (ℕ_discrete (lo + n) N))
      (moved x r d small)
    where
      go : (s : (p : ℕ) × (x ≤ p + r) × (p ≤ x + r) × Lands x p d) → Dec (s.0 < n) → Carried k lo n N x d
      go s (yes l) = stays s.0 s.1 s.2 s.3 l
      go s (no l) = let m : n ≤ s.0 = omega arith in over s.0 s.2 s.3 m (ℕ_discrete lo 0) (ℕ_discrete (lo + n) N)
