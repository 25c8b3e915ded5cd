-- The answers of the header's entry points: number, fields and next bit position (Specification 5.3); a refusal has its number and 0 in all other fields.
use Rattle.std.specs.Prelude.{Float}
use Rattle.std.specs.Float.Ieee.{of_bits}
use Rattle.std.specs.Float.{binary32}
use Rattle.header_bits.specs.Outcome.{Outcome, number, value, next}
use Rattle.header_gabor.specs.Gabor.{gabor_off}
use Rattle.header_gabor.specs.declared.Gabor.{Gabor}
use Rattle.header_epf.specs.EdgeFilter.{epf_off}
use Rattle.header_epf.specs.declared.EdgePreservingFilter.{EdgePreservingFilter}
use Rattle.header.specs.Restoration.{both_of}
use Rattle.header.specs.declared.RestorationFilter.{RestorationFilter}
use Rattle.export_header.specs.declared.HalfAnswer.{HalfAnswer}
use Rattle.export_header.specs.declared.GaborAnswer.{GaborAnswer}
use Rattle.export_header.specs.declared.EpfAnswer.{EpfAnswer}
use Rattle.export_header.specs.declared.RestorationAnswer.{RestorationAnswer}

abbrev pub half_answer : Outcome Float → HalfAnswer
half_answer o = record { number = number o; value = value (of_bits binary32 0) o; next = next o }

abbrev pub gabor_answer : Outcome Gabor → GaborAnswer
gabor_answer o = record { number = number o; gabor = value gabor_off o; next = next o }

abbrev pub epf_answer : Outcome EdgePreservingFilter → EpfAnswer
epf_answer o = record { number = number o; epf = value epf_off o; next = next o }

abbrev pub restoration_answer : Outcome RestorationFilter → RestorationAnswer
restoration_answer o = record { number = number o; filter = value (both_of gabor_off epf_off) o; next = next o }
