-- What the loops over fields keep, and the room that a field's samples need. Assumes nothing.
use mathlib.Core.Path.{◌≡◌, refl, sym, ap, ◌∙◌}
use mathlib.Core.Bool.{Bool, true, false, cond}
use mathlib.Core.List.{List, [], ◌∷◌}
use Prim.Native.Nat.{ℕ, zero, suc, ◌+◌, ◌-◌, ◌*◌, ◌<◌, ◌≤◌}
use native.Mathlib.Nat.{add-mul, mul-le-mul_right}
use native.Mathlib.Numerals.{add-one}
use native.Mathlib.Omega.{arith}
use lib.ListN.{length, get_or}
use lib.Ieee.{Float, nan}
use Rattle.std.specs.Int.{abs_diff, div_ceil}
use Rattle.planes.specs.Samples.{◌⊕◌, ◌⊗◌}
use Rattle.planes.specs.Sets.{of}
use Rattle.planes.specs.Rect.{rows_fill, planes_fill}
use Rattle.planes.proofs.Join.{rect-at}
use Rattle.planes.proofs.Rect.{rows-cong}
use Rattle.epf_step.specs.Steps.{Scaled, along, scaled_from, scaled}
use Rattle.epf_distances.specs.declared.View.{View}
use Rattle.epf_distances.specs.declared.Pair.{Pair}
use Rattle.epf_distances.specs.Seen.{apart_by, nearby, summed}
use Rattle.epf_distances.specs.Taps.{half, pair_of, apart_in, field_vectors, field_start}
use Rattle.epf_distances.specs.Fields.{first_place, dist_at, fields_fill, field_differences, differences_fill, ViewFits}
use Rattle.epf_distances.proofs.TapLaws.{Near}
use Rattle.epf_distances.proofs.Fields.{pair-apart, vectors-le}

-- ---- one field more

pub fields-more : (step : ℕ) (cs : List Scaled) (src : List Float) (v : View) (rows cols : ℕ) (e a b : List Float) (h : ℕ) → a ≡ fields_fill step cs src v rows cols e h
    → b ≡ rows_fill a (field_start h (pair_of step h)) 72 (4 * field_vectors cols (pair_of step h)) (rows + (pair_of step h).up)
    (λ r i. dist_at step cs src v (pair_of step h) (first_place v (pair_of step h) + r * v.stride + i))
    → b ≡ fields_fill step cs src v rows cols e (h + 1)
unfolding fields_fill
fields-more step cs src v rows cols e a b h p q = rw (add-one h, q, p) refl

pub differences-more : (step n : ℕ) (src : List Float) (v : View) (rows cols : ℕ) (d a b : List Float) (h : ℕ) (t : Bool) → a ≡ cond t (differences_fill step n src v rows cols d h) d
    → b ≡ cond t (field_differences n src v rows cols (pair_of step h) a) a → b ≡ cond t (differences_fill step n src v rows cols d (h + 1)) d
unfolding differences_fill
differences-more step n src v rows cols d a b h true p q = rw (add-one h, q, p) refl
differences-more step n src v rows cols d a b h false p q = q ∙ p

-- steps after 2 are like step 2: they sum single differences, so that it does not matter how far apart rows lie
summed-later : (s t across : ℕ) (cs : List Scaled) (f : ℕ → ℕ → Float) (j : ℕ) → summed t 2 cs f j ≡ summed across (suc (suc s)) cs f j
unfolding summed nearby
summed-later s t across [] f j = refl
summed-later s t across (c ∷ cs) f j = refl

pub summed-single : (across step : ℕ) (cs : List Scaled) (f : ℕ → ℕ → Float) (j : ℕ) → 1 < step → summed 1 2 cs f j ≡ summed across step cs f j
summed-single across zero cs f j l = absurd (omega arith)
summed-single across (suc zero) cs f j l = absurd (omega arith)
summed-single across (suc (suc s)) cs f j l = summed-later s 1 across cs f j

fields-later : (s : ℕ) (cs : List Scaled) (src : List Float) (v : View) (rows cols : ℕ) (e : List Float) (n : ℕ)
    → fields_fill 2 cs src v rows cols e n ≡ fields_fill (suc (suc s)) cs src v rows cols e n
unfolding fields_fill dist_at
fields-later s cs src v rows cols e zero = refl
fields-later s cs src v rows cols e (suc n) = rw (fields-later s cs src v rows cols e n) (rows-cong _ _ 72 _ _ _ _ (λ r i p q. summed-later s v.stride v.stride cs _ _))

pub fields-late : (step : ℕ) (cs : List Scaled) (src : List Float) (v : View) (rows cols : ℕ) (e : List Float) → 1 < step
    → fields_fill 2 cs src v rows cols e (half 2) ≡ fields_fill step cs src v rows cols e (half step)
fields-late zero cs src v rows cols e l = absurd (omega arith)
fields-late (suc zero) cs src v rows cols e l = absurd (omega arith)
fields-late (suc (suc s)) cs src v rows cols e l = fields-later s cs src v rows cols e 2

-- ---- room
module _ (v : View) (n rows cols len : ℕ) (f : ViewFits v n rows cols len) (k : Pair) (near : Near k) where
  above : (3 - k.up) * v.stride + k.up * v.stride ≡ 3 * v.stride
  above =
      let u : 3 - k.up + k.up ≡ 3 = omega (arith, near.up-le) in
      sym (add-mul (3 - k.up) k.up v.stride) ∙ ap (λ (x : ℕ). x * v.stride) u

  high : k.up * v.stride ≤ 2 * v.stride
  high = mul-le-mul_right v.stride near.up-le

  pub room-single : (n - 1) * v.plane + first_place v k + (rows + k.up - 1) * v.stride + apart_in v.stride k + 4 * field_vectors cols k ≤ len
  room-single =
      let m : rows + k.up - 1 ≡ rows - 1 + k.up = omega (arith, f.rows-pos) in
      let r : rows + 5 ≡ rows - 1 + 6 = omega (arith, f.rows-pos) in
      omega (
        arith,
        f.end-le,
        near.second-le,
        near.wide-le,
        above,
        high,
        pair-apart k v.stride near f.stride-pos,
        add-mul (rows - 1) k.up v.stride,
        add-mul (rows - 1) 6 v.stride,
        ap (λ (x : ℕ). x * v.stride) m,
        ap (λ (x : ℕ). x * v.stride) r,
      )

  -- a field's first sample has a row above it and a column before it
  pub room-before : v.stride + 2 ≤ first_place v k
  room-before = omega (arith, near.first-ge, above, high)

  pub room-differences : (n - 1) * v.plane + (first_place v k - v.stride - 1) + (rows + k.up + 2 - 1) * v.stride + apart_in v.stride k + 4 * (field_vectors cols k + 1) ≤ len
  room-differences =
      let m : rows + k.up + 2 - 1 ≡ rows + k.up + 1 = omega arith in
      omega (
        arith,
        f.end-le,
        room-before,
        near.second-le,
        near.wide-le,
        above,
        high,
        pair-apart k v.stride near f.stride-pos,
        add-mul rows k.up v.stride,
        add-mul (rows + k.up) 1 v.stride,
        add-mul rows 5 v.stride,
        ap (λ (x : ℕ). x * v.stride) m,
      )

  pub room-field : (h : ℕ) → h < 6 → h * 720 + (2 - k.up) * 72 + k.first + (rows + k.up - 1) * 72 + 4 * field_vectors cols k ≤ 4320
  room-field h l = omega (arith, near.up-le, near.first-le, f.rows-pos, f.rows-le, vectors-le k cols near f.cols-le)

-- the number of vectors as the code computes it
pub vectors-is : (k : Pair) (cols a b : ℕ) → a ≡ abs_diff k.first k.second → b ≡ div_ceil (cols + a) 4 → b ≡ field_vectors cols k
vectors-is k cols a b e q = omega arith

-- ---- sums of stored differences

scaled-cong : (f g : ℕ → Float) (ss : List Float) (m c n : ℕ) → c + n ≤ m → ((i : ℕ) → i < m → f i ≡ g i) → (b : Float)
    → along (λ (s : Float) (a : Scaled). s ⊕ a.1 ⊗ f a.0) b (scaled_from c n ss) ≡ along (λ (s : Float) (a : Scaled). s ⊕ a.1 ⊗ g a.0) b (scaled_from c n ss)
unfolding along scaled_from
scaled-cong f g ss m c zero l h b = refl
scaled-cong f g ss m c (suc n) l h b =
    scaled-cong f g ss m (suc c) n (omega arith) h (b ⊕ get_or ss c nan ⊗ f c)
    ∙ ap (λ (x : Float). along (λ (s : Float) (a : Scaled). s ⊕ a.1 ⊗ g a.0) (b ⊕ get_or ss c nan ⊗ x) (scaled_from (suc c) n ss)) (h c (omega arith))

summed-cong : (s t step : ℕ) (f g : ℕ → ℕ → Float) (ss : List Float) (n i j : ℕ) → ((c : ℕ) → c < n → nearby s step (f c) i ≡ nearby t step (g c) j) → summed s step (scaled n ss) f i ≡ summed t step (scaled n ss) g j
unfolding summed scaled_from
summed-cong s t step f g ss zero i j h = refl
summed-cong s t step f g ss (suc n) i j h = rw (h 0 (omega arith)) (scaled-cong _ _ ss (suc n) 1 n (omega arith) h _)

nearby-cong : (s t step : ℕ) (d e : ℕ → Float) (i j : ℕ) → d (i - s) ≡ e (j - t) → d (i + 1) ≡ e (j + 1) → d i ≡ e j → d (i - 1) ≡ e (j - 1) → d (i + s) ≡ e (j + t) → nearby s step d i ≡ nearby t step e j
unfolding nearby
nearby-cong s t zero d e i j a b c f g = rw (a, b, c, f, g) refl
nearby-cong s t (suc zero) d e i j a b c f g = rw (a, b, c, f, g) refl
nearby-cong s t (suc (suc n)) d e i j a b c f g = c

-- differences of n planes, that start a row above index `first` and a column before it
module _ (step n : ℕ) (ss src : List Float) (v : View) (first apart vectors rows : ℕ) (d now : List Float) (few : n ≤ 3) (low : rows + 2 ≤ 12) (narrow : 4 * (vectors + 1) ≤ 72) (room : length d ≡ 2592)
    (before : v.stride + 2 ≤ first)
    (is : now ≡ planes_fill 72 12 0 (4 * (vectors + 1)) 0 (rows + 2) (λ (c : ℕ) (i : ℕ) (r : ℕ). apart_by src (c * v.plane) apart (first - v.stride - 1 + r * v.stride + i)) d n) where
  stored : (c x y p q : ℕ) → c < n → x < 4 * (vectors + 1) → y < rows + 2 → p ≡ y * 72 + x → q ≡ first - v.stride - 1 + y * v.stride + x → get_or now (c * 864 + p) nan ≡ apart_by src (c * v.plane) apart q
  unfolding of
  stored c x y p q l a b e f =
      let z : c * 864 + p ≡ (c * 12 + (0 + y)) * 72 + (0 + x) = omega arith in
      rw (is, z, f) (rect-at 72 12 0 (4 * (vectors + 1)) 0 (rows + 2) (λ (c : ℕ) (i : ℕ) (r : ℕ). apart_by src (c * v.plane) apart (first - v.stride - 1 + r * v.stride + i)) d n c x y (omega arith) (omega arith) (omega (arith, few, room)) l a b)

  pub summed-stored : (r i : ℕ) → r < rows → i < 4 * vectors
      → summed 72 step (scaled n ss) (λ (c : ℕ) (p : ℕ). get_or now (c * 864 + p) nan) (72 + 1 + r * 72 + i) ≡ summed v.stride step (scaled n ss) (λ c. apart_by src (c * v.plane) apart) (first + r * v.stride + i)
  summed-stored r i l m = summed-cong 72 v.stride step _ _ ss n _ _ (λ c q. nearby-cong 72 v.stride step _ _ (72 + 1 + r * 72 + i) (first + r * v.stride + i)
      (stored c (i + 1) r _ _ q (omega arith) (omega arith) (omega arith) (omega arith))
      (stored c (i + 2) (r + 1) _ _ q (omega arith) (omega arith) (omega arith) (omega (arith, add-mul r 1 v.stride)))
      (stored c (i + 1) (r + 1) _ _ q (omega arith) (omega arith) (omega arith) (omega (arith, add-mul r 1 v.stride)))
      (stored c i (r + 1) _ _ q (omega arith) (omega arith) (omega arith) (omega (arith, add-mul r 1 v.stride)))
      (stored c (i + 1) (r + 2) _ _ q (omega arith) (omega arith) (omega arith) (omega (arith, add-mul r 2 v.stride))))
