-- The fields of the two arrays, as the code reads them. Assumes nothing.
use Prim.Native.Nat.{ℕ}
use mathlib.Core.Bool.{Bool, true, false, cond}
use mathlib.Core.List.{List}
use mathlib.Core.Path.{◌≡◌, refl, ◌∙◌}
use lib.ListN.{length}
use lib.Ieee.{Float}
use Rattle.header_bits.specs.Outcome.{Outcome, accepted, refused, and_then}
use Rattle.header_bits.specs.Bits.{u, yes, flag}
use Rattle.header_bits.proofs.Readings.{flag_bit}
use Rattle.header_fields.specs.Fields.{read, f16s, if_there}
use Rattle.header_fields.proofs.Rows.{same}
use Rattle.header_epf_tables.specs.Tables.{sharp_fields, custom_scale_fields, scale_fields}

all : {A : Type 0} (o : Outcome A) → and_then o accepted ≡ o
all (accepted a q) = refl
all (refused n) = refl

module _ (d : List Float) (s : List ℕ) (p : ℕ) where
  -- ---- the sharpness table, where its custom bit is present and where it is not
  pub sharp_steps : read (sharp_fields true d) s p ≡ and_then (flag s p) (λ custom q. if_there custom (f16s (length d) s q) d q)
  unfolding read sharp_fields
  sharp_steps = same (u 1 s p) (λ v q. all (if_there (yes v) (f16s (length d) s q) d q)) ∙ flag_bit s p (λ custom q. if_there custom (f16s (length d) s q) d q)

  pub sharp_absent : read (sharp_fields false d) s p ≡ accepted d p
  unfolding read sharp_fields
  sharp_absent = refl

  -- ---- the channel scales
  pub scale_steps :
      read (scale_fields d) s p
      ≡ and_then (flag s p) (λ custom q. cond custom (and_then (f16s (length d) s q) (λ scale r. and_then (u 32 s r) (λ ignored t. accepted scale t))) (accepted d q))
  unfolding read custom_scale_fields scale_fields
  scale_steps = same (u 1 s p) (λ v q. by (yes v) q) ∙ flag_bit s p (λ custom q. cond custom (and_then (f16s (length d) s q) (λ scale r. and_then (u 32 s r) (λ ignored t. accepted scale t))) (accepted d q))
    where
      by : (custom : Bool) (q : ℕ)
          → read (custom_scale_fields custom d) s q ≡ cond custom (and_then (f16s (length d) s q) (λ scale r. and_then (u 32 s r) (λ ignored t. accepted scale t))) (accepted d q)
      by true q = refl
      by false q = refl
