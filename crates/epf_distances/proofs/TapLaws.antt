-- The tap of each neighbour names its samples and its distances, and the pairs of a field lie close together. Assumes nothing.
use mathlib.Core.Path.{◌≡◌, refl, ap, ◌∙◌}
use mathlib.Core.List.{List}
use mathlib.Core.Logic.{◌⊎◌, inl, inr}
use Prim.Native.Nat.{ℕ, zero, suc, ◌+◌, ◌-◌, ◌*◌, ◌<◌, ◌≤◌}
use native.Mathlib.Omega.{arith}
use lib.Dec.{lit≤}
use lib.IntN.{sub_ℕ}
use lib.ListN.{length, get_or}
use lib.Ieee.{Float, nan}
use Rattle.epf_step.specs.Steps.{Offset, kernel}
use Rattle.epf_distances.specs.declared.View.{View}
use Rattle.epf_distances.specs.declared.Pair.{Pair}
use Rattle.epf_distances.specs.declared.Tap.{Tap}
use Rattle.epf_distances.proofs.Seen.{seen, seen-way}
use Rattle.epf_distances.specs.Taps.{half, pair_of, forward_of, backward_of, tap_of, neighbour}

pub half_le : (s : ℕ) → half s ≤ 6
half_le zero = lit≤ tt
half_le (suc s) = lit≤ tt

-- ---- pairs

-- the samples of a pair lie close together, and one of them is in column 4
pub record Near (k : Pair) : Type 0 where
  pub up-le : k.up ≤ 2
  pub first-ge : 2 ≤ k.first
  pub first-le : k.first ≤ 4
  pub second-le : k.second ≤ 4
  pub order : k.first ≤ k.second + k.up
  pub before-first : 4 ≤ k.first + (k.first - k.second + (k.second - k.first))
  pub before-second : 4 ≤ k.second + (k.first - k.second + (k.second - k.first))
  pub wide-le : k.first - k.second + (k.second - k.first) ≤ 2

pub pair-near : (step h : ℕ) → Near (pair_of step h)
pair-near zero zero = record { up-le = lit≤ tt; first-ge = lit≤ tt; first-le = lit≤ tt; second-le = lit≤ tt; order = lit≤ tt; before-first = lit≤ tt; before-second = lit≤ tt; wide-le = lit≤ tt }
pair-near zero (suc zero) = record { up-le = lit≤ tt; first-ge = lit≤ tt; first-le = lit≤ tt; second-le = lit≤ tt; order = lit≤ tt; before-first = lit≤ tt; before-second = lit≤ tt; wide-le = lit≤ tt }
pair-near zero (suc (suc zero)) = record { up-le = lit≤ tt; first-ge = lit≤ tt; first-le = lit≤ tt; second-le = lit≤ tt; order = lit≤ tt; before-first = lit≤ tt; before-second = lit≤ tt; wide-le = lit≤ tt }
pair-near zero (suc (suc (suc zero))) = record { up-le = lit≤ tt; first-ge = lit≤ tt; first-le = lit≤ tt; second-le = lit≤ tt; order = lit≤ tt; before-first = lit≤ tt; before-second = lit≤ tt; wide-le = lit≤ tt }
pair-near zero (suc (suc (suc (suc zero)))) = record { up-le = lit≤ tt; first-ge = lit≤ tt; first-le = lit≤ tt; second-le = lit≤ tt; order = lit≤ tt; before-first = lit≤ tt; before-second = lit≤ tt; wide-le = lit≤ tt }
pair-near zero (suc (suc (suc (suc (suc h))))) = record { up-le = lit≤ tt; first-ge = lit≤ tt; first-le = lit≤ tt; second-le = lit≤ tt; order = lit≤ tt; before-first = lit≤ tt; before-second = lit≤ tt; wide-le = lit≤ tt }
pair-near (suc s) zero = record { up-le = lit≤ tt; first-ge = lit≤ tt; first-le = lit≤ tt; second-le = lit≤ tt; order = lit≤ tt; before-first = lit≤ tt; before-second = lit≤ tt; wide-le = lit≤ tt }
pair-near (suc s) (suc h) = record { up-le = lit≤ tt; first-ge = lit≤ tt; first-le = lit≤ tt; second-le = lit≤ tt; order = lit≤ tt; before-first = lit≤ tt; before-second = lit≤ tt; wide-le = lit≤ tt }

-- ---- taps

-- the tap of a neighbour whose distances field h has, after the centre or before it
abbrev pub OnSide : ℕ → ℕ → Tap → Type 0
OnSide step h t = (t ≡ forward_of h (pair_of step h)) ⊎ (t ≡ backward_of h (pair_of step h))

-- a tap names the samples of its neighbour, and its distances in a field
pub record TapIs (step q : ℕ) (t : Tap) : Type 0 where
  pub field : ℕ
  pub field_lt : field < half step
  pub offset : (sub_ℕ t.col 4, sub_ℕ t.row 3) ≡ neighbour step q
  pub row-ge : 1 ≤ t.row
  pub row-le : t.row ≤ 5
  pub col-ge : 2 ≤ t.col
  pub col-le : t.col ≤ 6
  pub start-le : t.start ≤ 3748
  pub side : OnSide step field t

pub tap-is : (step q : ℕ) → q < length (kernel step) → TapIs step q (tap_of step q)
unfolding kernel tap_of
tap-is zero zero h = record { field = 5; field_lt = lit≤ tt; offset = refl; row-ge = lit≤ tt; row-le = lit≤ tt; col-ge = lit≤ tt; col-le = lit≤ tt; start-le = lit≤ tt; side = inr refl }
tap-is zero (suc zero) h = record { field = 4; field_lt = lit≤ tt; offset = refl; row-ge = lit≤ tt; row-le = lit≤ tt; col-ge = lit≤ tt; col-le = lit≤ tt; start-le = lit≤ tt; side = inr refl }
tap-is zero (suc (suc zero)) h = record { field = 3; field_lt = lit≤ tt; offset = refl; row-ge = lit≤ tt; row-le = lit≤ tt; col-ge = lit≤ tt; col-le = lit≤ tt; start-le = lit≤ tt; side = inr refl }
tap-is zero (suc (suc (suc zero))) h = record { field = 2; field_lt = lit≤ tt; offset = refl; row-ge = lit≤ tt; row-le = lit≤ tt; col-ge = lit≤ tt; col-le = lit≤ tt; start-le = lit≤ tt; side = inr refl }
tap-is zero (suc (suc (suc (suc zero)))) h = record { field = 1; field_lt = lit≤ tt; offset = refl; row-ge = lit≤ tt; row-le = lit≤ tt; col-ge = lit≤ tt; col-le = lit≤ tt; start-le = lit≤ tt; side = inr refl }
tap-is zero (suc (suc (suc (suc (suc zero))))) h = record { field = 0; field_lt = lit≤ tt; offset = refl; row-ge = lit≤ tt; row-le = lit≤ tt; col-ge = lit≤ tt; col-le = lit≤ tt; start-le = lit≤ tt; side = inr refl }
tap-is zero (suc (suc (suc (suc (suc (suc zero)))))) h = record { field = 0; field_lt = lit≤ tt; offset = refl; row-ge = lit≤ tt; row-le = lit≤ tt; col-ge = lit≤ tt; col-le = lit≤ tt; start-le = lit≤ tt; side = inl refl }
tap-is zero (suc (suc (suc (suc (suc (suc (suc zero))))))) h = record { field = 1; field_lt = lit≤ tt; offset = refl; row-ge = lit≤ tt; row-le = lit≤ tt; col-ge = lit≤ tt; col-le = lit≤ tt; start-le = lit≤ tt; side = inl refl }
tap-is zero (suc (suc (suc (suc (suc (suc (suc (suc zero)))))))) h = record { field = 2; field_lt = lit≤ tt; offset = refl; row-ge = lit≤ tt; row-le = lit≤ tt; col-ge = lit≤ tt; col-le = lit≤ tt; start-le = lit≤ tt; side = inl refl }
tap-is zero (suc (suc (suc (suc (suc (suc (suc (suc (suc zero))))))))) h = record { field = 3; field_lt = lit≤ tt; offset = refl; row-ge = lit≤ tt; row-le = lit≤ tt; col-ge = lit≤ tt; col-le = lit≤ tt; start-le = lit≤ tt; side = inl refl }
tap-is zero (suc (suc (suc (suc (suc (suc (suc (suc (suc (suc zero)))))))))) h = record { field = 4; field_lt = lit≤ tt; offset = refl; row-ge = lit≤ tt; row-le = lit≤ tt; col-ge = lit≤ tt; col-le = lit≤ tt; start-le = lit≤ tt; side = inl refl }
tap-is zero (suc (suc (suc (suc (suc (suc (suc (suc (suc (suc (suc zero))))))))))) h = record { field = 5; field_lt = lit≤ tt; offset = refl; row-ge = lit≤ tt; row-le = lit≤ tt; col-ge = lit≤ tt; col-le = lit≤ tt; start-le = lit≤ tt; side = inl refl }
tap-is zero (suc (suc (suc (suc (suc (suc (suc (suc (suc (suc (suc (suc q)))))))))))) h = absurd (omega arith)
tap-is (suc s) zero h = record { field = 1; field_lt = lit≤ tt; offset = refl; row-ge = lit≤ tt; row-le = lit≤ tt; col-ge = lit≤ tt; col-le = lit≤ tt; start-le = lit≤ tt; side = inr refl }
tap-is (suc s) (suc zero) h = record { field = 1; field_lt = lit≤ tt; offset = refl; row-ge = lit≤ tt; row-le = lit≤ tt; col-ge = lit≤ tt; col-le = lit≤ tt; start-le = lit≤ tt; side = inl refl }
tap-is (suc s) (suc (suc zero)) h = record { field = 0; field_lt = lit≤ tt; offset = refl; row-ge = lit≤ tt; row-le = lit≤ tt; col-ge = lit≤ tt; col-le = lit≤ tt; start-le = lit≤ tt; side = inr refl }
tap-is (suc s) (suc (suc (suc zero))) h = record { field = 0; field_lt = lit≤ tt; offset = refl; row-ge = lit≤ tt; row-le = lit≤ tt; col-ge = lit≤ tt; col-le = lit≤ tt; start-le = lit≤ tt; side = inl refl }
tap-is (suc s) (suc (suc (suc (suc q)))) h = absurd (omega arith)

-- ---- in machine integers

pub kernel-le : (s : ℕ) → length (kernel s) ≤ 12
unfolding kernel
kernel-le zero = lit≤ tt
kernel-le (suc s) = lit≤ tt

pub ruleset kernel_size = (kernel-le)

pub row-le : (step q : ℕ) → q < length (kernel step) → (tap_of step q).row ≤ 5
row-le step q l = (tap-is step q l).row-le

pub col-le : (step q : ℕ) → q < length (kernel step) → (tap_of step q).col ≤ 6
col-le step q l = (tap-is step q l).col-le

pub start-le : (step q : ℕ) → q < length (kernel step) → (tap_of step q).start ≤ 3748
start-le step q l = (tap-is step q l).start-le

-- a tap lies inside its rows and its field
pub ruleset tap_room = (row-le, col-le, start-le)

-- ---- what a tap reads

-- the sample of a channel at a neighbour
pub seen_at : (src : List Float) (v : View) (p c step q : ℕ) → q < length (kernel step)
    → get_or src (c * v.plane + (p + ((tap_of step q).row * v.stride + (tap_of step q).col))) nan ≡ seen src v p c (neighbour step q).0 (neighbour step q).1
seen_at src v p c step q l =
    seen-way src v p c (tap_of step q).row (tap_of step q).col ∙ ap (λ (o : Offset). seen src v p c o.0 o.1) (tap-is step q l).offset
