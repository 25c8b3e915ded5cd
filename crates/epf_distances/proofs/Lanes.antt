-- Four lanes of differences, and of distances from the first channel to the last. Assumes nothing.
use mathlib.Core.Path.{◌≡◌, refl, ◌∙◌}
use mathlib.Core.List.{List}
use Prim.Native.Nat.{ℕ, zero, suc, ◌+◌, ◌-◌, ◌*◌, ◌<◌, ◌≤◌}
use native.Mathlib.Nat.{add_assoc}
use native.Mathlib.Numerals.{add-one}
use native.Mathlib.Omega.{arith}
use lib.Ieee.{Float, nan, binary32, add, mul}
use lib.Lanes.{chunk, zip2}
use lib.ListN.{length, get_or, replicate, take, drop}
use Rattle.planes.specs.Samples.{◌⊕◌, ◌⊗◌}
use Rattle.epf_step.specs.Steps.{Scaled, along, scaled_from, scaled}
use Rattle.epf_vectors.specs.Lanes.{lanes_of, lanes_apart, spread}
use Rattle.epf_vectors.proofs.Rows.{loaded}
use Rattle.epf_offsets.specs.declared.Place.{Place}
use Rattle.epf_offsets.specs.Offsets.{compared_place}
use Rattle.epf_distances.specs.Seen.{apart_by, place_index, nearby, summed}
use Rattle.epf_distances.proofs.Fields.{along-channel}

-- lanes of differences between the samples from index p on and those `apart` after them
pub lanes-differences : (src : List Float) (p to apart : ℕ) → to ≡ p + apart → to + 4 ≤ length src
    → lanes_apart (chunk 0 4 (take (to + 4 - to) (drop to src))) (chunk 0 4 (take (p + 4 - p) (drop p src))) ≡ lanes_of (λ k. apart_by src 0 apart (p + k))
unfolding apart_by
lanes-differences src p to apart t l = rw (loaded src p (omega arith), loaded src to l) (rw (lane 0, lane 1, lane 2, lane 3) refl)
  where
    lane : (k : ℕ) → spread (get_or src (to + k) nan) (get_or src (p + k) nan) ≡ spread (get_or src (0 + (p + k + apart)) nan) (get_or src (0 + (p + k)) nan)
    lane k =
        let a : 0 + (p + k + apart) ≡ to + k = omega arith in
        let b : 0 + (p + k) ≡ p + k = omega arith in
        rw (a, b) refl

-- four lanes, counted from a row's start
pub lanes-from : (f : ℕ → Float) (j n : ℕ) → lanes_of (λ k. f (j + n + k)) ≡ lanes_of (λ k. f (j + (n + k)))
lanes-from f j n = rw (add_assoc j n 0, add_assoc j n 1, add_assoc j n 2, add_assoc j n 3) refl

-- a difference counted from the start of the list, and from the start of its plane
pub apart-from : (src : List Float) (start apart p q : ℕ) → q ≡ start + p → apart_by src 0 apart q ≡ apart_by src start apart p
unfolding apart_by
apart-from src start apart p q e =
    let a : 0 + (q + apart) ≡ start + (p + apart) = omega arith in
    let b : 0 + q ≡ start + p = omega arith in
    rw (a, b) refl

-- sums of the channels' differences; those that are added, `near`, may be read at other indices than f's
module _ (across step : ℕ) (ss : List Float) (f : ℕ → ℕ → Float) where
  -- the first channel
  pub lanes-first : (near : List Float) (g : ℕ → Float) (j : ℕ) → near ≡ lanes_of g → ((k : ℕ) → g k ≡ nearby across step (f 0) (j + k))
      → zip2 (mul binary32) (replicate 4 (get_or ss 0 nan)) near ≡ lanes_of (λ k. summed across step (scaled 1 ss) f (j + k))
  unfolding summed along scaled_from
  lanes-first near g j e is = rw (e, is 0, is 1, is 2, is 3) refl

  summed-more : (c j : ℕ) → 1 ≤ c → summed across step (scaled c ss) f j ⊕ get_or ss c nan ⊗ nearby across step (f c) j ≡ summed across step (scaled (c + 1) ss) f j
  unfolding summed scaled_from
  summed-more zero j h = absurd (omega arith)
  summed-more (suc c) j h = rw (add-one (suc c)) (along-channel (λ (s : Float) (a : Scaled). s ⊕ a.1 ⊗ nearby across step (f a.0) j) (get_or ss 0 nan ⊗ nearby across step (f 0) j) 1 c (suc c) ss (omega arith))

  -- a channel more
  pub lanes-more : (c : ℕ) (sum near : List Float) (g : ℕ → Float) (j : ℕ) → 1 ≤ c → sum ≡ lanes_of (λ k. summed across step (scaled c ss) f (j + k)) → near ≡ lanes_of g
      → ((k : ℕ) → g k ≡ nearby across step (f c) (j + k))
      → zip2 (add binary32) sum (zip2 (mul binary32) (replicate 4 (get_or ss c nan)) near) ≡ lanes_of (λ k. summed across step (scaled (c + 1) ss) f (j + k))
  lanes-more c sum near g j h e q is = rw (e, q, is 0, is 1, is 2, is 3) (rw (more 0, more 1, more 2, more 3) refl)
    where
      more : (k : ℕ) → summed across step (scaled c ss) f (j + k) ⊕ get_or ss c nan ⊗ nearby across step (f c) (j + k) ≡ summed across step (scaled (c + 1) ss) f (j + k)
      more k = summed-more c (j + k) h

  -- all channels
  pub lanes-all : (c n j : ℕ) (sum : List Float) → sum ≡ lanes_of (λ k. summed across step (scaled c ss) f (j + k)) → c ≤ n → n ≤ c → sum ≡ lanes_of (λ k. summed across step (scaled n ss) f (j + k))
  lanes-all c n j sum e p q = let z : c ≡ n = omega arith in rw (← z) e

-- ---- the places where a step compares samples

five : (d : ℕ → Float) (a b c e f i j k l m : ℕ) → a ≡ i → b ≡ j → c ≡ k → e ≡ l → f ≡ m → d a ⊕ d b ⊕ d c ⊕ d e ⊕ d f ≡ d i ⊕ d j ⊕ d k ⊕ d l ⊕ d m
five d a b c e f i j k l m p q r s t = rw (p, q, r, s, t) refl

-- the numbers at a step's places, in the order of its list
listed : (step : ℕ) (d : ℕ → Float) (j k : ℕ) → step < 2 → 72 ≤ j
    → let at = λ (i : ℕ). d (place_index (compared_place step i) j 72 + k) in
    at 0 ⊕ at 1 ⊕ at 2 ⊕ at 3 ⊕ at 4 ≡ nearby 72 step d (j + k)
unfolding nearby
listed step d j k s l = go step s
  where
    above : j + 2 * 72 + 4 - (3 * 72 + 4) + k ≡ j + k - 72
    above = omega arith

    before : j + 3 * 72 + 3 - (3 * 72 + 4) + k ≡ j + k - 1
    before = omega arith

    here : j + 3 * 72 + 4 - (3 * 72 + 4) + k ≡ j + k
    here = omega arith

    after : j + 3 * 72 + 5 - (3 * 72 + 4) + k ≡ j + k + 1
    after = omega arith

    below : j + 4 * 72 + 4 - (3 * 72 + 4) + k ≡ j + k + 72
    below = omega arith

    go : (step : ℕ) → step < 2
        → let at = λ (i : ℕ). d (place_index (compared_place step i) j 72 + k) in
        at 0 ⊕ at 1 ⊕ at 2 ⊕ at 3 ⊕ at 4 ≡ nearby 72 step d (j + k)
    go zero s = five d _ _ _ _ _ _ _ _ _ _ above after here before below
    go (suc zero) s = five d _ _ _ _ _ _ _ _ _ _ above here below before after
    go (suc (suc n)) s = absurd (omega arith)

pub lanes-listed : (step : ℕ) (d : ℕ → Float) (j : ℕ) (a b c e f : List Float) → step < 2 → 72 ≤ j
    → let at = λ (i : ℕ). lanes_of (λ (k : ℕ). d (place_index (compared_place step i) j 72 + k)) in
    a ≡ at 0 → b ≡ at 1 → c ≡ at 2 → e ≡ at 3 → f ≡ at 4
    → let plus = zip2 (add binary32) in
    plus (plus (plus (plus a b) c) e) f ≡ lanes_of (λ (k : ℕ). nearby 72 step d (j + k))
lanes-listed step d j a b c e f s l p q r t u =
    let lane = λ (k : ℕ). listed step d j k s l in
    rw (p, q, r, t, u) (rw (lane 0, lane 1, lane 2, lane 3) refl)

-- the one place of step 2 is the sample itself
alone : (p across : ℕ) → place_index (compared_place 2 0) p across ≡ p
alone p across = omega arith

pub index-alone : (across : ℕ) {r p : ℕ} {k : Place} → r ≡ place_index k p across → k ≡ compared_place 2 0 → r ≡ p
index-alone across {r} {p} {k} e f = e ∙ rw f (alone p across)

-- ---- planes of stored differences

-- differences of which the first is at index o
pub nearby-later : (across step : ℕ) (d : ℕ → Float) (o j : ℕ) → across ≤ j → 1 ≤ j → nearby across step d (o + j) ≡ nearby across step (λ p. d (o + p)) j
unfolding nearby
nearby-later across step d o j a b = go step
  where
    above : o + j - across ≡ o + (j - across)
    above = omega arith

    below : o + j + across ≡ o + (j + across)
    below = omega arith

    before : o + j - 1 ≡ o + (j - 1)
    before = omega arith

    after : o + j + 1 ≡ o + (j + 1)
    after = omega arith

    go : (step : ℕ) → nearby across step d (o + j) ≡ nearby across step (λ p. d (o + p)) j
    go zero = rw (above, below, before, after) refl
    go (suc zero) = rw (above, below, before, after) refl
    go (suc (suc s)) = refl

-- stored differences counted from the start of the list, and from the start of their plane
pub stored-from : (across step : ℕ) (d : List Float) (c j q : ℕ) → across ≤ j → 1 ≤ j → q ≡ c * 864 + j
    → nearby across step (λ (p : ℕ). get_or d p nan) q ≡ nearby across step (λ (p : ℕ). get_or d (c * 864 + p) nan) j
stored-from across step d c j q a b e = rw e (nearby-later across step (λ (p : ℕ). get_or d p nan) (c * 864) j a b)
