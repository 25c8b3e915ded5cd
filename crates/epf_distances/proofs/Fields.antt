-- The fields hold the distances of every neighbour, and what the loops that fill them keep. Assumes nothing.
use mathlib.Core.Path.{◌≡◌, refl, sym, ap, ◌∙◌, subst}
use mathlib.Core.Bool.{true, ◌&&◌}
use mathlib.Core.List.{List, [], ◌∷◌, ◌++◌}
use mathlib.Core.Logic.{inl, inr}
use Prim.Native.Nat.{ℕ, zero, suc, ◌+◌, ◌-◌, ◌*◌, ◌<◌, ◌≤◌}
use native.Mathlib.Nat.{le_of_suc-le-suc, add-mul, mul-le-mul_left}
use native.Mathlib.Decide.{ℕ_discrete}
use native.Mathlib.Omega.{arith}
use borrow.Author.Tests.{leb-true, le-leb}
use lib.Dec.{leb}
use lib.ListN.{length, get_or, take}
use lib.Ieee.{Float, nan}
use Rattle.rounding.specs.Zeros.{EqualOrZeros}
use Rattle.rounding.proofs.Zeros.{zeros-trans}
use Rattle.planes.specs.Rect.{rows_fill}
use Rattle.planes.proofs.Fill.{fill-before}
use Rattle.planes.proofs.Rect.{length-rows_fill, rows_in}
use Rattle.planes.proofs.Stored.{and_first, and_second}
use Rattle.epf_step.specs.Steps.{Scaled, kernel, dists, along, apart as apart_of, scaled_from, scaled, distance}
use Rattle.epf_distances.specs.Seen.{nearby, apart_by}
use Rattle.epf_distances.specs.declared.View.{View}
use Rattle.epf_distances.specs.declared.Pair.{Pair}
use Rattle.epf_distances.specs.declared.Tap.{Tap}
use Rattle.epf_distances.proofs.Seen.{way, seen, nearby-forward, nearby-backward, distance-alike}
use Rattle.epf_distances.specs.Taps.{half, pair_of, apart_in, field_vectors, field_start, tap_of, neighbour}
use Rattle.epf_distances.proofs.TapLaws.{half_le, Near, pair-near, OnSide, TapIs, tap-is}
use Rattle.epf_distances.specs.Fields.{first_place, dist_at, fields_fill, max_index, view_end, view_fits, ViewFits, distances_of}

-- ---- folds over channels

pub along-suc : {A B : Type 0} (f : B → A → B) (b : B) (l : List A) (i : ℕ) (d : A) → i < length l → f (along f b (take i l)) (get_or l i d) ≡ along f b (take (suc i) l)
unfolding along
along-suc f b [] i d h = absurd (omega arith)
along-suc f b (a ∷ l) zero d h = refl
along-suc f b (a ∷ l) (suc i) d h = along-suc f (f b a) l i d (le_of_suc-le-suc h)

along-last : {A B : Type 0} (f : B → A → B) (b : B) (l : List A) (a : A) → along f b (l ++ (a ∷ [])) ≡ f (along f b l) a
unfolding along
along-last f b [] a = refl
along-last f b (x ∷ l) a = along-last f (f b x) l a

scaled-last : (c n : ℕ) (ss : List Float) → scaled_from c (suc n) ss ≡ scaled_from c n ss ++ ((c + n, get_or ss (c + n) nan) ∷ [])
unfolding scaled_from
scaled-last c zero ss = let z : c + 0 ≡ c = omega arith in rw z
scaled-last c (suc n) ss = let z : c + suc n ≡ suc c + n = omega arith in rw z (ap (λ (l : List Scaled). (c, get_or ss c nan) ∷ l) (scaled-last (suc c) n ss))

-- one more channel, i, after n of them from channel c on
pub along-channel : {B : Type 0} (f : B → Scaled → B) (b : B) (c n i : ℕ) (ss : List Float) → i ≡ c + n → f (along f b (scaled_from c n ss)) (i, get_or ss i nan) ≡ along f b (scaled_from c (suc n) ss)
along-channel f b c n i ss e = rw e (sym (ap (along f b) (scaled-last c n ss) ∙ along-last f b (scaled_from c n ss) (c + n, get_or ss (c + n) nan)))

-- ---- a view that fits

pub view-fits : (v : View) (n rows cols len : ℕ) → view_fits v n rows cols len ≡ true → ViewFits v n rows cols len
view-fits v n rows cols len e =
    let t9 = leb (view_end v n rows cols) len in
    let t8 = leb v.stride max_index && t9 in
    let t7 = leb v.corner max_index && t8 in
    let t6 = leb v.plane max_index && t7 in
    let t5 = leb 1 v.stride && t6 in
    let t4 = leb cols 64 && t5 in
    let t3 = leb rows 8 && t4 in
    let t2 = leb 1 rows && t3 in
    let t1 = leb n 3 && t2 in
    let e1 = and_second (leb 1 n) t1 e in
    let e2 = and_second (leb n 3) t2 e1 in
    let e3 = and_second (leb 1 rows) t3 e2 in
    let e4 = and_second (leb rows 8) t4 e3 in
    let e5 = and_second (leb cols 64) t5 e4 in
    let e6 = and_second (leb 1 v.stride) t6 e5 in
    let e7 = and_second (leb v.plane max_index) t7 e6 in
    let e8 = and_second (leb v.corner max_index) t8 e7 in
    record {
      planes-pos = leb-true _ _ (and_first (leb 1 n) t1 e);
      planes-le = leb-true _ _ (and_first (leb n 3) t2 e1);
      rows-pos = leb-true _ _ (and_first (leb 1 rows) t3 e2);
      rows-le = leb-true _ _ (and_first (leb rows 8) t4 e3);
      cols-le = leb-true _ _ (and_first (leb cols 64) t5 e4);
      stride-pos = leb-true _ _ (and_first (leb 1 v.stride) t6 e5);
      plane-le = leb-true _ _ (and_first (leb v.plane max_index) t7 e6);
      corner-le = leb-true _ _ (and_first (leb v.corner max_index) t8 e7);
      stride-le = leb-true _ _ (and_first (leb v.stride max_index) t9 e8);
      end-le = leb-true _ _ (and_second (leb v.stride max_index) t9 e8);
    }

pub view-true : (v : View) (n rows cols len : ℕ) → ViewFits v n rows cols len → view_fits v n rows cols len ≡ true
view-true v n rows cols len f =
    rw (
      le-leb 1 n f.planes-pos,
      le-leb n 3 f.planes-le,
      le-leb 1 rows f.rows-pos,
      le-leb rows 8 f.rows-le,
      le-leb cols 64 f.cols-le,
      le-leb 1 v.stride f.stride-pos,
      le-leb v.plane max_index f.plane-le,
      le-leb v.corner max_index f.corner-le,
      le-leb v.stride max_index f.stride-le,
      le-leb (view_end v n rows cols) len f.end-le,
    ) refl

-- the fields of a tile whose samples are there
pub distances-done : (step n : ℕ) (scales src : List Float) (v : View) (rows cols : ℕ) (e : List Float) → ViewFits v n rows cols (length src)
    → distances_of step n scales src v rows cols e ≡ fields_fill step (scaled n scales) src v rows cols e (half step)
unfolding distances_of
distances-done step n scales src v rows cols e f = rw (view-true v n rows cols (length src) f) refl

-- ---- the samples of a pair

-- how much later the second one comes
pub pair-apart : (k : Pair) (s : ℕ) → Near k → 1 ≤ s → apart_in s k + k.first ≡ k.up * s + k.second
pair-apart k s near h = omega (arith, near.order, mul-le-mul_left k.up h)

-- a row of a field is long enough for the tile's columns, and ends before the next one
vectors-ge : (k : Pair) (cols : ℕ) → cols + (k.first - k.second + (k.second - k.first)) ≤ 4 * field_vectors cols k
vectors-ge k cols = omega arith

pub vectors-le : (k : Pair) (cols : ℕ) → Near k → cols ≤ 64 → 4 * field_vectors cols k ≤ 68
vectors-le k cols near h = omega (arith, near.wide-le)

-- ---- what a field holds

rows-before : (d : List Float) (at stride n m : ℕ) (f : ℕ → ℕ → Float) (j : ℕ) → j < at → get_or (rows_fill d at stride n m f) j nan ≡ get_or d j nan
unfolding rows_fill
rows-before d at stride n zero f j l = refl
rows-before d at stride n (suc m) f j l = fill-before (rows_fill d at stride n m f) (at + m * stride) n (f m) j (omega arith) ∙ rows-before d at stride n m f j l

module _ (rows cols : ℕ) (few : rows ≤ 8) (narrow : cols ≤ 64) (k : Pair) (near : Near k) where
  -- a distance of the field that is written,
  field-in : (d : List Float) (f : ℕ → ℕ → Float) (h r i : ℕ) → h < 6 → 4320 ≤ length d → r < rows + k.up → i < 4 * field_vectors cols k
      → get_or (rows_fill d (field_start h k) 72 (4 * field_vectors cols k) (rows + k.up) f) (field_start h k + r * 72 + i) nan ≡ f r i
  field-in d f h r i l room p q =
      let top : ℕ = h * 10 + (2 - k.up) in
      let a : top * 72 + k.first ≡ field_start h k = omega (arith, near.up-le) in
      let b : (top + r) * 72 + (k.first + i) ≡ field_start h k + r * 72 + i = omega (arith, near.up-le) in
      let c : top + r - top ≡ r = omega arith in
      let e : k.first + i - k.first ≡ i = omega arith in
      rw (a, b, c, e) at (rows_in 72 k.first (4 * field_vectors cols k) f (omega (arith, near.first-le, vectors-le k cols near narrow)) d top (rows + k.up) (top + r) (k.first + i)
      (omega (arith, near.up-le)) (omega arith) (omega arith) (omega arith) (omega arith))

  -- and one of an earlier field
  field-out : (d : List Float) (f : ℕ → ℕ → Float) (n h r i : ℕ) (b : Pair) → Near b → h < n → r < rows + b.up → i < 4 * field_vectors cols b
      → get_or (rows_fill d (field_start n k) 72 (4 * field_vectors cols k) (rows + k.up) f) (field_start h b + r * 72 + i) nan ≡ get_or d (field_start h b + r * 72 + i) nan
  field-out d f n h r i b other l p q =
      rows-before d (field_start n k) 72 (4 * field_vectors cols k) (rows + k.up) f _ (omega (arith, other.up-le, other.first-le, vectors-le b cols other narrow))

module _ (step : ℕ) (cs : List Scaled) (src : List Float) (v : View) (rows cols : ℕ) (e : List Float) where
  pub length_fields : (n : ℕ) → length (fields_fill step cs src v rows cols e n) ≡ length e
  unfolding fields_fill
  length_fields zero = refl
  length_fields (suc n) = length-rows_fill (fields_fill step cs src v rows cols e n) _ 72 _ _ _ ∙ length_fields n

  module _ (few : rows ≤ 8) (narrow : cols ≤ 64) (room : 4320 ≤ length e) where
    -- a distance of one of the first n fields
    abbrev Held : ℕ → ℕ → ℕ → ℕ → Type 0
    Held n h r i =
        get_or (fields_fill step cs src v rows cols e n) (field_start h (pair_of step h) + r * 72 + i) nan ≡ dist_at step cs src v (pair_of step h) (first_place v (pair_of step h) + r * v.stride + i)

    fields_at : (n h r i : ℕ) → n ≤ 6 → h < n → r < rows + (pair_of step h).up → i < 4 * field_vectors cols (pair_of step h) → Held n h r i
    unfolding fields_fill
    fields_at zero h r i m l p q = absurd (omega arith)
    fields_at (suc n) h r i m l p q = go (ℕ_discrete h n) (λ (t : h < n). fields_at n h r i (omega arith) t p q)
      where
        go : Dec (h ≡ n) → (h < n → Held n h r i) → Held (suc n) h r i
        go (yes z) ih = rw z (field-in rows cols few narrow (pair_of step n) (pair-near step n) (fields_fill step cs src v rows cols e n) _ n r i (omega arith) (omega (arith, length_fields n)) (rw z at p) (rw z at q))
        go (no z) ih = field-out rows cols few narrow (pair_of step n) (pair-near step n) (fields_fill step cs src v rows cols e n) _ n h r i (pair_of step h) (pair-near step h) (omega arith) p q ∙ ih (omega arith)

-- ---- the distances of every neighbour
module _ (step : ℕ) (cs : List Scaled) (src : List Float) (v : View) (n rows cols : ℕ) (e : List Float) (f : ViewFits v n rows cols (length src)) (room : 4320 ≤ length e) where
  pub neighbour-at : (q r i : ℕ) → q < length (kernel step) → r < rows → i < cols
      → EqualOrZeros (get_or (fields_fill step cs src v rows cols e (half step)) ((tap_of step q).start + r * 72 + i) nan) (distance cs (dists step) (seen src v (v.corner + r * v.stride + i)) (neighbour step q))
  unfolding dist_at
  neighbour-at q r i l a b = go (tap-is step q l).side
    where
      t : TapIs step q (tap_of step q)
      t = tap-is step q l

      k : Pair
      k = pair_of step t.field

      s : ℕ
      s = v.stride

      p : ℕ
      p = v.corner + r * s + i

      near : Near k
      near = pair-near step t.field

      apart : apart_in s k + k.first ≡ k.up * s + k.second
      apart = pair-apart k s near f.stride-pos

      -- the distance at row r' and lane i' of the field
      held : (r' i' : ℕ) → (tap_of step q).start + r * 72 + i ≡ field_start t.field k + r' * 72 + i' → r' < rows + k.up → i' < 4 * field_vectors cols k
          → ((c : ℕ) → EqualOrZeros (nearby s step (apart_by src (c * v.plane) (apart_in s k)) (first_place v k + r' * s + i')) (apart_of (dists step) (seen src v p) c (way (tap_of step q).row (tap_of step q).col)))
          → EqualOrZeros (get_or (fields_fill step cs src v rows cols e (half step)) ((tap_of step q).start + r * 72 + i) nan) (distance cs (dists step) (seen src v p) (neighbour step q))
      held r' i' x y z h =
          zeros-trans (inl (ap (λ j. get_or (fields_fill step cs src v rows cols e (half step)) j nan) x ∙ fields_at step cs src v rows cols e f.rows-le f.cols-le room (half step) t.field r' i' (half_le step) t.field_lt y z))
          (subst (λ o. EqualOrZeros (dist_at step cs src v k (first_place v k + r' * s + i')) (distance cs (dists step) (seen src v p) o)) t.offset
          (distance-alike src v step p (first_place v k + r' * s + i') (apart_in s k) (way (tap_of step q).row (tap_of step q).col) cs h))

      go : OnSide step t.field (tap_of step q)
          → EqualOrZeros (get_or (fields_fill step cs src v rows cols e (half step)) ((tap_of step q).start + r * 72 + i) nan) (distance cs (dists step) (seen src v p) (neighbour step q))
      go (inl w) =
          let row : (tap_of step q).row ≡ 3 + k.up = ap (λ (t : Tap). t.row) w in
          let col : (tap_of step q).col ≡ 4 + k.second - k.first = ap (λ (t : Tap). t.col) w in
          let start : (tap_of step q).start ≡ t.field * 720 + 2 * 72 + 4 = ap (λ (t : Tap). t.start) w in
          let m : (tap_of step q).row * s ≡ (3 + k.up) * s = ap (λ (x : ℕ). x * s) row in
          let u : 3 - k.up + k.up ≡ 3 = omega (arith, near.up-le) in
          let d : (3 - k.up + k.up) * s ≡ 3 * s = ap (λ (x : ℕ). x * s) u in
          held (r + k.up) (4 - k.first + i) (omega (arith, near.up-le, near.first-le)) (omega arith) (omega (arith, near.before-first, vectors-ge k cols))
          (λ c. nearby-forward src v p c (tap_of step q).row (tap_of step q).col (omega (arith, t.row-ge)) (omega (arith, t.col-ge)) step (first_place v k + (r + k.up) * s + (4 - k.first + i)) (apart_in s k)
          (omega (arith, near.first-le, d, add-mul (3 - k.up) k.up s, add-mul r k.up s))
          (omega (arith, near.first-le, d, m, col, apart, add-mul (3 - k.up) k.up s, add-mul r k.up s, add-mul 3 k.up s)))
      go (inr w) =
          let row : (tap_of step q).row ≡ 3 - k.up = ap (λ (t : Tap). t.row) w in
          let col : (tap_of step q).col ≡ 4 + k.first - k.second = ap (λ (t : Tap). t.col) w in
          let start : (tap_of step q).start ≡ t.field * 720 + (2 - k.up) * 72 + (4 + k.first - k.second) = ap (λ (t : Tap). t.start) w in
          let m : (tap_of step q).row * s ≡ (3 - k.up) * s = ap (λ (x : ℕ). x * s) row in
          let u : 3 - k.up + k.up ≡ 3 = omega (arith, near.up-le) in
          let d : (3 - k.up + k.up) * s ≡ 3 * s = ap (λ (x : ℕ). x * s) u in
          held r (4 - k.second + i) (omega (arith, near.second-le)) (omega arith) (omega (arith, near.before-second, vectors-ge k cols))
          (λ c. nearby-backward src v p c (tap_of step q).row (tap_of step q).col (omega (arith, t.row-ge)) (omega (arith, t.col-ge)) step (first_place v k + r * s + (4 - k.second + i)) (apart_in s k)
          (omega (arith, near.second-le, m, col))
          (omega (arith, near.second-le, d, apart, add-mul (3 - k.up) k.up s)))
