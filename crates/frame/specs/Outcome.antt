-- The answers of `group_sizes` and `split_block` (Specification 7.3): their tables of checks, and the outcome for every input.
use Rattle.std.specs.Prelude.{Bool, cond, not, ◌||◌, List, [], ◌∷◌, ℕ, ltb, eqb, Result, Ok, Err}
use Rattle.refusals.specs.Numbers.{out_of_limits, out_of_range}
use Rattle.refusals.specs.Checks.{Check, always, first_of}
use Rattle.refusals.specs.declared.Refusal.{Refusal}
use Rattle.refusals.specs.Refusals.{refusal_number}
use Rattle.frame.specs.declared.Frame.{Frame}
use Rattle.frame.specs.declared.GroupSizes.{GroupSizes}
use Rattle.frame.specs.declared.Split.{Split}
use Rattle.frame.specs.declared.FrameAnswer.{FrameAnswer}
use Rattle.frame.specs.declared.SplitAnswer.{SplitAnswer}
use Rattle.frame.specs.Sizes.{sizes_of, group_of, inner_of}

-- a side outside 1 to 16,384
abbrev pub bad_side : ℕ → Bool
bad_side side = ltb side 1 || ltb 16384 side

-- an upsampling other than 1, 2, 4 and 8
abbrev pub bad_upsampling : ℕ → Bool
bad_upsampling u = not (eqb u 1 || eqb u 2 || eqb u 4 || eqb u 8)

-- Specification 4.1: a frame side outside 1 to 16,384
unfoldable pub bad_sides : Frame → Bool
bad_sides f = bad_side f.width || bad_side f.height

-- Specification 4.1: upsampling other than 1, 2, 4 and 8; LF level over 4; group size shift over 3
unfoldable pub bad_settings : Frame → Bool
bad_settings f = bad_upsampling f.upsampling || ltb 4 f.lf_level || ltb 3 f.group_size_shift

abbrev pub frame_checks : Frame → List Check
frame_checks f = always out_of_limits (bad_sides f) ∷ always out_of_range (bad_settings f) ∷ []

-- the sizes in a refusal: zeros
abbrev pub no_sizes : GroupSizes
no_sizes =
    record { sample_width = 0; sample_height = 0; group_dim = 0; group_shift = 0; groups_per_row = 0; groups_per_column = 0; num_groups = 0 }

-- a refusal has zeros as sizes
abbrev pub sizes_answered : ℕ → GroupSizes → FrameAnswer
sizes_answered number sizes = record { number = number; sizes = cond (eqb number 0) sizes no_sizes }

-- the number of the first check that applies, and the frame's sizes if none does
abbrev pub frame_outcome : Frame → FrameAnswer
frame_outcome f = sizes_answered (first_of (frame_checks f)) (sizes_of f)

-- Specification 7.3: 9 for a group size shift over 3
abbrev pub split_checks : ℕ → List Check
split_checks shift = always out_of_range (ltb 3 shift) ∷ []

-- a refusal has group 0 and inner cell 0
abbrev pub split_answered : ℕ → ℕ → ℕ → SplitAnswer
split_answered number group inner = record { number = number; group = cond (eqb number 0) group 0; inner = cond (eqb number 0) inner 0 }

-- the group of a block, and its cell in that group
abbrev pub split_outcome : ℕ → ℕ → SplitAnswer
split_outcome block shift = split_answered (first_of (split_checks shift)) (group_of block shift) (inner_of block shift)

-- ---- the answer for a result of `group_sizes` and `split_block`: 0 and the value, or the refusal's number and zeros
abbrev pub frame_answer : Result GroupSizes Refusal → FrameAnswer
frame_answer (Ok sizes) = record { number = 0; sizes = sizes }
frame_answer (Err e) = record { number = refusal_number e; sizes = no_sizes }

abbrev pub split_answer : Result Split Refusal → SplitAnswer
split_answer (Ok split) = record { number = 0; group = split.group; inner = split.inner }
split_answer (Err e) = record { number = refusal_number e; group = 0; inner = 0 }
