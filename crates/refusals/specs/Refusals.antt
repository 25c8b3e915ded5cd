-- A refusal and its number, and what a call answers that may be refused: a value, or the refusal with a number (Specification 3.1). Definitions only.
use Rattle.std.specs.Prelude.{◌≡◌, ℕ, Result, Ok, Err, IfOk}
use Rattle.refusals.specs.Numbers.{bits_run_out, half_not_finite, kernel_near_zero, out_of_limits, not_inside, not_on_blocks, wrong_length, block_not_held, out_of_range, band_not_open, pass_not_done, not_aCut_file, bad_entry, wrong_end, wanted_outside}
use Rattle.refusals.specs.declared.Refusal.{Refusal}
use Rattle.refusals.specs.declared.Refusal.TheVariants.{BitsRunOut, HalfNotFinite, KernelNearZero, OutOfLimits, NotInside, NotOnBlocks, WrongLength, BlockNotHeld, OutOfRange, BandNotOpen, PassNotDone, NotACutFile, BadEntry, WrongEnd, WantedOutside}

-- the number of a refusal
abbrev pub refusal_number : Refusal → ℕ
refusal_number BitsRunOut = bits_run_out
refusal_number HalfNotFinite = half_not_finite
refusal_number KernelNearZero = kernel_near_zero
refusal_number OutOfLimits = out_of_limits
refusal_number NotInside = not_inside
refusal_number NotOnBlocks = not_on_blocks
refusal_number WrongLength = wrong_length
refusal_number BlockNotHeld = block_not_held
refusal_number OutOfRange = out_of_range
refusal_number BandNotOpen = band_not_open
refusal_number PassNotDone = pass_not_done
refusal_number NotACutFile = not_aCut_file
refusal_number BadEntry = bad_entry
refusal_number WrongEnd = wrong_end
refusal_number WantedOutside = wanted_outside

-- 0, or the number of the refusal
abbrev pub number_of : {A : Type 0} → Result A Refusal → ℕ
number_of (Ok a) = 0
number_of (Err e) = refusal_number e

-- the answer to a call: a value where this number is 0, the refusal with this number otherwise
abbrev pub IsOutcome : {A : Type 0} → Result A Refusal → ℕ → A → Type 0
IsOutcome r n a = (number_of r ≡ n) × IfOk r (λ x. x ≡ a)
