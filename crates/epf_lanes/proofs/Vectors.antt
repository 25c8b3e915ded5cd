-- Vectors of four lanes, and their storing in planes. Assumes nothing.
use mathlib.Core.Path.{◌≡◌, refl, ◌∙◌}
use mathlib.Core.List.{List}
use Prim.Native.Nat.{ℕ, ◌+◌, ◌-◌, ◌*◌, ◌≤◌}
use native.Mathlib.Omega.{arith}
use lib.Ieee.{Float}
use borrow.Rule.Slice.PartMut.{put_mid, mid_of}
use lib.ListN.{length, take}
use Rattle.std.proofs.lemmas.Simd.{length-chunk}
use Rattle.planes.specs.Fill.{fill}
use Rattle.planes.specs.Rect.{rows_fill, planes_fill}
use Rattle.planes.proofs.Rect.{planes-turn}
use Rattle.epf_vectors.specs.Lanes.{lanes_of}
use Rattle.epf_vectors.proofs.Rows.{some-more}

-- vectors are the same if their lanes are
pub each-lane : (f g : ℕ → Float) → ((k : ℕ) → f k ≡ g k) → lanes_of f ≡ lanes_of g
each-lane f g h = rw (h 0, h 1, h 2, h 3)

-- ---- the first m lanes of a vector stored in a row

none-filled : (d : List Float) (p : ℕ) (f : ℕ → Float) → d ≡ fill d p 0 f
unfolding fill
none-filled d p f = refl

length-part : (d : List Float) (p m : ℕ) → p + m ≤ length d → length (mid_of p (p + m - p) d) ≡ m
length-part d p m h = let size : p + m - p ≡ m = omega arith in rw size (length-chunk p m d h)

stored : (d v w : List Float) (p m : ℕ) (f : ℕ → Float) → v ≡ lanes_of f → m ≤ 4 → p + m ≤ length d → w ≡ take (length (mid_of p (p + m - p) d)) v → put_mid p (p + m - p) d w ≡ fill d p m f
stored d v w p m f e l h is =
    let a : p + 0 ≡ p = omega arith in
    let b : 0 + m ≡ m = omega arith in
    rw (a, b) at (some-more d d p 0 f (none-filled d p f) m w (is ∙ rw (length-part d p m h, e)) l (omega (arith, h)))

-- a run is a rectangle of one row
one-row : (d : List Float) (at stride n : ℕ) (f : ℕ → Float) → fill d at n f ≡ rows_fill d at stride n 1 (λ i x. f x)
unfolding rows_fill
one-row d at stride n f = let z : at + 0 * stride ≡ at = omega arith in rw z

-- ---- the loop over planes: `part` is what `store` leaves of the samples from index o on
module _ (w h left top n m : ℕ) (v : ℕ → ℕ → Float) (d now x part : List Float) (k o : ℕ) where
  pub plane-more : now ≡ planes_fill w h left n top 1 (λ c i j. v c i) d k → o ≡ (k * h + top) * w + left → m ≡ n → m ≤ 4 → o + m ≤ length now → x ≡ lanes_of (v k)
      → part ≡ take (length (mid_of o (o + m - o) now)) x → put_mid o (o + m - o) now part ≡ planes_fill w h left n top 1 (λ c i j. v c i) d (k + 1)
  plane-more is eo em few room ex es =
      planes-turn w h left n top 1 (λ c i j. v c i) d now _ k is (stored now x part o m (v k) ex few room es ∙ rw (eo, em) (one-row now ((k * h + top) * w + left) w n (v k)))
