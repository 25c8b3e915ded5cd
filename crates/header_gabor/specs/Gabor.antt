-- The Gabor bundle (Specification 5.4, 5.8; ISO/IEC 18181-1, restoration filter, the fields `gab` to `gab_b_weight2`).
use Rattle.std.specs.Prelude.{ℕ, Bool, true, false, cond, List, [], ◌∷◌, Float}
use Rattle.header_bits.specs.Outcome.{Outcome}
use Rattle.header_bits.specs.Bits.{yes}
use Rattle.header_fields.specs.Fields.{Fields, bits, bundle, nested, read, none}
use Rattle.header_gabor.specs.Channel.{channel_fields}
use Rattle.header_gabor.specs.declared.Gabor.{Gabor}

abbrev pub gabor_off : Gabor
gabor_off = record { enabled = false; weights = (none ∷ none ∷ []) ∷ (none ∷ none ∷ []) ∷ (none ∷ none ∷ []) ∷ [] }

abbrev pub gabor_with : List Float → List Float → List Float → Gabor
gabor_with x y b = record { enabled = true; weights = x ∷ y ∷ b ∷ [] }

-- two weights for each of the channels X, Y and B
unfoldable pub channels_fields : Bool → Fields Gabor
channels_fields custom =
    nested (channel_fields custom) λ x.
    nested (channel_fields custom) λ y.
    nested (channel_fields custom) λ b.
    bundle (gabor_with x y b)

-- the fields of a filter that is on
unfoldable pub weight_fields : Fields Gabor
weight_fields =
    bits true 1 0 λ custom.
    channels_fields (yes custom)

unfoldable pub gabor_fields : Fields Gabor
gabor_fields =
    bits true 1 0 λ enabled.
    cond (yes enabled) weight_fields (bundle gabor_off)

abbrev pub gabor_at : List ℕ → ℕ → Outcome Gabor
gabor_at = read gabor_fields
