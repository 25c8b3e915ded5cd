-- The result: the number of the call, and the caller's slice after it (Specification 12.11, 12.12). Definitions only.
use Rattle.std.specs.Prelude.{cond, not, ◌&&◌, List, ◌∷◌, ℕ, ◌+◌, eqb, length, Float}
use Rattle.refusals.specs.Numbers.{wrong_length}
use Rattle.refusals.specs.Checks.{Check, given, first_of}
use Rattle.planes.specs.declared.Layout.{Layout}
use Rattle.planes.specs.Sets.{of, set_of}
use Rattle.planes.specs.Band.{planes_fit, result_left, result_top, result_width, result_height}
use Rattle.run_setup.specs.declared.Setup.{Setup}
use Rattle.run_record.specs.declared.Run.{Run}
use Rattle.run_setup.specs.Setup.{full_fits, layout, size_fits, result_region, result_length}
use Rattle.run_record.specs.Record.{finished_checks}
use Rattle.run_outcomes.specs.Band.{reads_first, set_check}

-- the number, and the slice after the call
pub record ResultOutcome : Type 0 where
  pub number : ℕ
  pub out : List Float

-- the length of the caller's slice
abbrev pub slice_check : Setup → ℕ → Check
slice_check s out = given (full_fits s && (size_fits (result_region s) && planes_fit s.planes)) wrong_length (not (eqb out (result_length s)))

unfoldable pub result_checks : Run → List Float → List Float → List Float → List Check
result_checks r first second out =
    set_check r.setup (length first) (length second)
    ∷ slice_check r.setup (length out)
    ∷ finished_checks r

abbrev pub result_number : Run → List Float → List Float → List Float → ℕ
result_number r first second out = first_of (result_checks r first second out)

-- the result region of a set of n planes, plane by plane
unfoldable pub result_of : ℕ → Layout → List Float → List Float
result_of n l s = set_of n (result_width l) (result_height l) (λ c x y. of l.image.width l.image.height s c (result_left l + x) (result_top l + y))

-- copied from the set that the next pass would read; a refused call leaves the slice unchanged
unfoldable pub result_outcome : Run → List Float → List Float → List Float → ResultOutcome
result_outcome r first second out =
    record {
      number = result_number r first second out;
      out = cond (eqb (result_number r first second out) 0) (result_of r.setup.planes (layout r.setup) (cond (reads_first r) first second)) out;
    }
