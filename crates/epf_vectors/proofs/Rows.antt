-- Rows of samples by vectors: what four lanes read, and what a row is after lanes are written. Assumes nothing.
use mathlib.Core.Path.{◌≡◌, refl, ap, ◌∙◌}
use mathlib.Core.List.{List, [], ◌∷◌}
use Prim.Native.Nat.{ℕ, zero, suc, ◌+◌, ◌-◌, ◌<◌, ◌≤◌}
use native.Mathlib.Nat.{add_assoc}
use native.Mathlib.Omega.{arith}
use borrow.Rule.Slice.PartMut.{put_mid, mid_of}
use lib.Ieee.{Float, nan}
use lib.Lanes.{chunk, put_chunk}
use lib.ListN.{length, get_or, take, drop}
use Rattle.std.proofs.lemmas.Simd.{length-chunk, get_or-chunk, put_chunk_whole}
use Rattle.std.specs.List.{between}
use Rattle.planes.specs.Fill.{fill}
use Rattle.planes.proofs.Copy.{copied-run, part-copied}
use Rattle.planes.proofs.Fill.{length-fill, fill-then}
use Rattle.epf_vectors.specs.Lanes.{lanes_of}

-- a vector has four lanes
pub as_lanes : (ys : List Float) → length ys ≡ 4 → ys ≡ lanes_of (λ k. get_or ys k nan)
as_lanes [] h = absurd (omega (arith, h))
as_lanes (a ∷ []) h = absurd (omega (arith, h))
as_lanes (a ∷ b ∷ []) h = absurd (omega (arith, h))
as_lanes (a ∷ b ∷ c ∷ []) h = absurd (omega (arith, h))
as_lanes (a ∷ b ∷ c ∷ d ∷ []) h = refl
as_lanes (a ∷ b ∷ c ∷ d ∷ e ∷ ys) h = absurd (omega (arith, h))

pub lane-is : (f : ℕ → Float) (i : ℕ) → i < 4 → get_or (lanes_of f) i nan ≡ f i
lane-is f zero l = refl
lane-is f (suc zero) l = refl
lane-is f (suc (suc zero)) l = refl
lane-is f (suc (suc (suc zero))) l = refl
lane-is f (suc (suc (suc (suc i)))) l = absurd (omega arith)

-- four samples from index p on, read from a slice of four
pub loaded : (xs : List Float) (p : ℕ) → p + 4 ≤ length xs → chunk 0 4 (take (p + 4 - p) (drop p xs)) ≡ lanes_of (λ k. get_or xs (p + k) nan)
loaded xs p l =
    let size : p + 4 - p ≡ 4 = omega arith in
    rw size (as_lanes part long ∙ rw (lane 0 (omega arith), lane 1 (omega arith), lane 2 (omega arith), lane 3 (omega arith)))
  where
    part : List Float
    part = chunk 0 4 (chunk p 4 xs)

    long : length part ≡ 4
    long = length-chunk 0 4 (chunk p 4 xs) (omega (arith, length-chunk p 4 xs l))

    lane : (k : ℕ) → k < 4 → get_or part k nan ≡ get_or xs (p + k) nan
    lane k m = get_or-chunk 0 4 (chunk p 4 xs) k nan m ∙ (let z : 0 + k ≡ k = omega arith in rw z (get_or-chunk p 4 xs k nan m))

-- the same of the four from index p + n on
pub loaded-at : (xs : List Float) (p n : ℕ) → p + n + 4 ≤ length xs → chunk 0 4 (take (p + n + 4 - (p + n)) (drop (p + n) xs)) ≡ lanes_of (λ k. get_or xs (p + (n + k)) nan)
loaded-at xs p n l = loaded xs (p + n) l ∙ rw (add_assoc p n 0, add_assoc p n 1, add_assoc p n 2, add_assoc p n 3)

module _ (d now : List Float) (at n : ℕ) (f : ℕ → Float) (is : now ≡ fill d at n f) where
  -- a row after m of the next four lanes,
  pub some-more : (m : ℕ) (v : List Float) → v ≡ take m (lanes_of (λ k. f (n + k))) → m ≤ 4 → at + n + m ≤ length d → put_mid (at + n) (at + n + m - (at + n)) now v ≡ fill d at (n + m) f
  some-more m v e l h =
      rw (e, is, ← whole)
      (part-copied (fill d at n f) (at + n) next 0 m room (omega arith)
      ∙ copied-run (fill d at n f) (at + n) next 0 m room (omega arith)
      ∙ fill-then d at n m f _ f (λ i k. refl) (λ i k. let z : 0 + i ≡ i = omega arith in rw z (lane-is (λ k. f (n + k)) i (omega arith))))
    where
      next : List Float
      next = lanes_of (λ k. f (n + k))

      whole : between 0 (0 + m) next ≡ take m next
      whole = let z : 0 + m - 0 ≡ m = omega arith in rw z

      room : at + n + m ≤ length (fill d at n f)
      room = omega (arith, h, length-fill d at n f)

  -- and after all four
  pub four-more : (v : List Float) → v ≡ lanes_of (λ k. f (n + k)) → at + n + 4 ≤ length d
      → put_mid (at + n) (at + n + 4 - (at + n)) now (put_chunk 0 (mid_of (at + n) (at + n + 4 - (at + n)) now) v) ≡ fill d at (n + 4) f
  four-more v e h = rw (put_chunk_whole (mid_of (at + n) (at + n + 4 - (at + n)) now) v (long ∙ rw e)) (some-more 4 v e (omega arith) h)
    where
      long : length (mid_of (at + n) (at + n + 4 - (at + n)) now) ≡ 4
      long =
          let size : at + n + 4 - (at + n) ≡ 4 = omega arith in
          rw size (length-chunk (at + n) 4 now (omega (arith, h, ap length is, length-fill d at n f)))
