-- The two rows of the table that hold for any picture: a sigma under the limit copies; with a NaN sigma and finite samples a centre of 5
-- stays 5. Assumes nothing.
use mathlib.Core.Path.{◌≡◌, refl, ◌∙◌, ap}
use mathlib.Core.Bool.{Bool, true, false}
use mathlib.Core.List.{List, [], ◌∷◌}
use Prim.Native.Nat.{ℕ, ◌+◌, ◌*◌, ◌<◌}
use native.Mathlib.Omega.{arith}
use lib.IntN.{ℤ, pos, ◌+ℤ◌}
use lib.Ieee.{Float, nan, inf, fin, binary32, unlike, up, down, add, mul, div, lt, of_bits}
use lib.Ieee.Fits.{down_pos}
use Rattle.mirror.specs.Mirror.{mirror}
use Rattle.mirror.proofs.Laws.{mirror-lt}
use Rattle.rounding.proofs.Rounded.{round-zero}
use Rattle.planes.specs.Samples.{◌⊕◌, ◌⊗◌, ◌⊘◌, b0, b1}
use Rattle.planes.specs.Picture.{Picture, Around, around}
use Rattle.gabor_kernel.proofs.EndLaws.{itself}
use Rattle.epf_step.specs.Steps.{Offset, Scaled, kernel, dists, along, distance, positive, falloff, weight, weight_by, copied, standard_limit, weight_at, blend, divisor, epf, multiplier, epf_pass}
use Rattle.epf.specs.Outcome.{settings_of}
use Rattle.instances.specs.Any.{Finite, b5, CopiedBelow, NanSigma}

-- ---- a sigma under the limit

module _ (w h : ℕ) (g : Picture) (c x y : ℕ) (p : x < w) (q : y < h) where
  centre : around w h g x y c (pos 0) (pos 0) ≡ g c x y
  unfolding around
  centre = rw (itself w x p, itself h y q) refl

pub copied-below : CopiedBelow
unfolding of_bits lt copied epf epf_pass
copied-below n w h top c x y s g p q = centre w h g c x y p q

-- ---- a NaN sigma: every weight is 0

div-nan : (x : Float) → div binary32 x nan ≡ nan
unfolding div
div-nan nan = refl
div-nan (inf s) = refl
div-nan (fin s m e) = refl

mul-nan : (x : Float) → mul binary32 x nan ≡ nan
unfolding mul
mul-nan nan = refl
mul-nan (inf s) = refl
mul-nan (fin s m e) = refl

add-nan : (x : Float) → add binary32 x nan ≡ nan
unfolding add
add-nan nan = refl
add-nan (inf s) = refl
add-nan (fin s m e) = refl

nan-mul : (x : Float) → mul binary32 nan x ≡ nan
unfolding mul
nan-mul x = refl

positive-nan : positive nan ≡ b0
unfolding positive lt of_bits
positive-nan = refl

no-weight : (m d : Float) → weight nan m d ≡ b0
unfolding weight_by
no-weight m d = rw (div-nan falloff, nan-mul m, mul-nan d, add-nan b1) positive-nan

-- ---- a sum that starts at 5 stays 5, one that starts at 1 stays 1

zero-times : (x : Float) → Finite x → (t : Bool) × (b0 ⊗ x ≡ fin t 0 (pos 0))
unfolding of_bits mul
zero-times nan k = absurd k
zero-times (inf s) k = absurd k
zero-times (fin s m e) k =
    (unlike false s, round-zero binary32 (unlike false s) (0 * up (pos 0) * (m * up e)) (down (pos 0) * down e) (omega arith) (omega (arith, down_pos e)))

five-plus : (t : Bool) → b5 ⊕ fin t 0 (pos 0) ≡ b5
unfolding of_bits add
five-plus true = refl
five-plus false = refl

one-plus : b1 ⊕ b0 ≡ b1
unfolding of_bits add
one-plus = refl

five-over-one : b5 ⊘ b1 ≡ b5
unfolding of_bits div
five-over-one = refl

module _ (cs : List Scaled) (ks ds : List Offset) (m : Float) (v : Around) (c : ℕ) (finite : (dx dy : ℤ) → Finite (v c dx dy)) where
  kept : (k : Offset) → b5 ⊕ weight_at cs ks ds nan m v k ⊗ v c k.0 k.1 ≡ b5
  unfolding weight_at
  kept k =
      let z = zero-times (v c k.0 k.1) (finite k.0 k.1) in
      ap (λ u. b5 ⊕ u ⊗ v c k.0 k.1) (no-weight m (distance cs ds v k)) ∙ ap (λ u. b5 ⊕ u) z.1 ∙ five-plus z.0

  blended : (l : List Offset) → along (λ (s : Float) (k : Offset). s ⊕ weight_at cs ks ds nan m v k ⊗ v c k.0 k.1) b5 l ≡ b5
  unfolding along
  blended [] = refl
  blended (k ∷ l) = rw (kept k) (blended l)

  divided : (l : List Offset) → along (λ (s : Float) (k : Offset). s ⊕ weight_at cs ks ds nan m v k) b1 l ≡ b1
  unfolding along weight_at
  divided [] = refl
  divided (k ∷ l) = rw (no-weight m (distance cs ds v k), one-plus) (divided l)

  left : v c (pos 0) (pos 0) ≡ b5 → epf cs ks ds nan m standard_limit v c ≡ b5
  unfolding lt copied blend divisor epf
  left e = rw (e, blended ks, divided ks) five-over-one

pub nan-sigma : NanSigma
unfolding epf_pass around
nan-sigma n w h top c x y s g p q finite five =
    left (settings_of n s).scales (kernel s.step) (dists s.step) (multiplier s.multiplier s.border_sad_mul (top + y) x) (around w h g x y) c
    near (centre w h g c x y p q ∙ five)
  where
    near : (dx dy : ℤ) → Finite (around w h g x y c dx dy)
    near dx dy = finite (mirror (pos x +ℤ dx) w) (mirror (pos y +ℤ dy) h) (mirror-lt (pos x +ℤ dx) w (omega arith)) (mirror-lt (pos y +ℤ dy) h (omega arith))
