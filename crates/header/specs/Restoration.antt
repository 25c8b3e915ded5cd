-- The Gabor bundle and then the EPF bundle (Specification 5.10), as in the original's `RestorationFilter` (without `all_default` and extensions).
use Rattle.std.specs.Prelude.{ℕ, List}
use Rattle.header_bits.specs.Outcome.{Outcome}
use Rattle.header_fields.specs.Fields.{Fields, bundle, nested, read}
use Rattle.header_gabor.specs.Gabor.{gabor_fields}
use Rattle.header_epf.specs.EdgeFilter.{epf_fields}
use Rattle.header_gabor.specs.declared.Gabor.{Gabor}
use Rattle.header_epf.specs.declared.Encoding.{Encoding}
use Rattle.header_epf.specs.declared.EdgePreservingFilter.{EdgePreservingFilter}
use Rattle.header.specs.declared.RestorationFilter.{RestorationFilter}

abbrev pub both_of : Gabor → EdgePreservingFilter → RestorationFilter
both_of g f = record { gabor = g; epf = f }

unfoldable pub restoration_fields : Encoding → Fields RestorationFilter
restoration_fields e =
    nested gabor_fields λ gabor.
    nested (epf_fields e) λ epf.
    bundle (both_of gabor epf)

abbrev pub restoration_at : Encoding → List ℕ → ℕ → Outcome RestorationFilter
restoration_at e = read (restoration_fields e)
