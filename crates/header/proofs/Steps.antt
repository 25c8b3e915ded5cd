-- One bundle after the other, as the code reads them. Assumes nothing.
use Prim.Native.Nat.{ℕ}
use mathlib.Core.List.{List}
use mathlib.Core.Path.{◌≡◌, ◌∙◌}
use Rattle.header_bits.specs.Outcome.{accepted, and_then}
use Rattle.header_fields.specs.Fields.{read}
use Rattle.header_fields.proofs.Rows.{same, read_nested}
use Rattle.header_gabor.specs.Gabor.{gabor_fields}
use Rattle.header_epf.specs.EdgeFilter.{epf_fields}
use Rattle.header_epf.specs.declared.Encoding.{Encoding}
use Rattle.header.specs.Restoration.{both_of, restoration_fields}

pub restoration_steps : (e : Encoding) (s : List ℕ) (p : ℕ)
    → read (restoration_fields e) s p ≡ and_then (read gabor_fields s p) (λ g q. and_then (read (epf_fields e) s q) (λ f r. accepted (both_of g f) r))
unfolding read restoration_fields
restoration_steps e s p = read_nested gabor_fields _ s p ∙ same (read gabor_fields s p) (λ g q. read_nested (epf_fields e) _ s q)
