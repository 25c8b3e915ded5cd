-- The table of the Gabor bundle, field by field, as the code reads it. Assumes nothing.
use Prim.Native.Nat.{ℕ}
use mathlib.Core.Bool.{Bool, true, false, cond}
use mathlib.Core.List.{List, [], ◌∷◌}
use mathlib.Core.Path.{◌≡◌, refl, ◌∙◌}
use lib.Ieee.{Float, nan, inf, fin}
use Rattle.std.specs.Float.{float_with_sign}
use Rattle.refusals.specs.Numbers.{kernel_near_zero}
use Rattle.rounding.specs.Magnitude.{magnitude}
use Rattle.header_bits.specs.Outcome.{accepted, refused, and_then}
use Rattle.header_bits.specs.Bits.{u, yes, flag}
use Rattle.header_bits.proofs.Readings.{flag_bit}
use Rattle.header_half.specs.Half.{f16}
use Rattle.header_fields.specs.Fields.{bundle, nested, read}
use Rattle.header_fields.proofs.Rows.{same, read_nested}
use Rattle.header_gabor.specs.Channel.{near_zero, channel_fields, side_default, corner_default}
use Rattle.header_gabor.specs.Gabor.{channels_fields, weight_fields, gabor_fields, gabor_off, gabor_with}

-- std's name for |x|
pub size_is : (x : Float) → float_with_sign false x ≡ magnitude x
unfolding float_with_sign magnitude
size_is nan = refl
size_is (inf s) = refl
size_is (fin s m e) = refl

abbrev default : List Float
default = side_default ∷ corner_default ∷ []

module _ (s : List ℕ) (p : ℕ) where
  pub channel_steps : read (channel_fields true) s p ≡ and_then (f16 s p) (λ side q. and_then (f16 s q) (λ corner r. cond (near_zero side corner) (refused kernel_near_zero) (accepted (side ∷ corner ∷ []) r)))
  unfolding read channel_fields
  channel_steps = refl

  pub channels_steps :
      read (channels_fields true) s p
      ≡ and_then (read (channel_fields true) s p) (λ x q. and_then (read (channel_fields true) s q) (λ y r. and_then (read (channel_fields true) s r) (λ b t. accepted (gabor_with x y b) t)))
  unfolding read channels_fields
  channels_steps =
      read_nested (channel_fields true) _ s p
      ∙ same (read (channel_fields true) s p) (λ x q. read_nested (channel_fields true) _ s q ∙ same (read (channel_fields true) s q) (λ y r. read_nested (channel_fields true) _ s r))

  pub channels_default : read (channels_fields false) s p ≡ accepted (gabor_with default default default) p
  unfolding read nested channel_fields channels_fields
  channels_default = refl

  pub weight_steps : read weight_fields s p ≡ and_then (flag s p) (λ custom q. read (channels_fields custom) s q)
  unfolding read weight_fields
  weight_steps = flag_bit s p (λ custom q. read (channels_fields custom) s q)

  pub gabor_steps : read gabor_fields s p ≡ and_then (flag s p) (λ enabled q. cond enabled (read weight_fields s q) (accepted gabor_off q))
  unfolding read gabor_fields
  gabor_steps = lifted ∙ flag_bit s p (λ enabled q. cond enabled (read weight_fields s q) (accepted gabor_off q))
    where
      lifted : read gabor_fields s p ≡ and_then (u 1 s p) (λ v q. cond (yes v) (read weight_fields s q) (accepted gabor_off q))
      lifted = same (u 1 s p) (λ v q. by (yes v) q)
        where
          by : (on : Bool) (q : ℕ) → read (cond on weight_fields (bundle gabor_off)) s q ≡ cond on (read weight_fields s q) (accepted gabor_off q)
          by true q = refl
          by false q = refl
