-- The numbers of Specification 3.1, for definitions and contracts; src/lib.rt has the same names for code.
use Rattle.std.specs.Prelude.{ℕ}

abbrev pub accepted : ℕ
accepted = 0

-- a header field ends past the last bit
abbrev pub bits_run_out : ℕ
bits_run_out = 1

-- a half-precision number is infinite or NaN: its exponent field is 31
abbrev pub half_not_finite : ℕ
half_not_finite = 2

-- custom weights of a channel: |1 + (w0 + w1) × 4| is below 2^-23
abbrev pub kernel_near_zero : ℕ
kernel_near_zero = 3

-- a left, top, side or area exceeds its limits
abbrev pub out_of_limits : ℕ
out_of_limits = 4

-- the filter region is not inside the image region
abbrev pub not_inside : ℕ
not_inside = 5

-- EPF: the filter region's left or top is negative or not a multiple of 8
abbrev pub not_on_blocks : ℕ
not_on_blocks = 6

-- a slice of the caller has the wrong length
abbrev pub wrong_length : ℕ
wrong_length = 7

-- EPF: a block's group is not in the frame, or its grid is present and lacks the block
abbrev pub block_not_held : ℕ
block_not_held = 8

-- a setting is out of range, or a run record is not valid
abbrev pub out_of_range : ℕ
out_of_range = 9

-- the band does not exist or is done, or the run is finished
abbrev pub band_not_open : ℕ
band_not_open = 10

-- advance: a band is missing or the run is finished; result: the run is not finished
abbrev pub pass_not_done : ℕ
pass_not_done = 11

-- cut file: a wrong marker, or a count of rectangles that is not 1 to 64
abbrev pub not_aCut_file : ℕ
not_aCut_file = 12

-- cut file: an entry exceeds the limits of an image region, or its body does not start at the end of what precedes it
abbrev pub bad_entry : ℕ
bad_entry = 13

-- cut file: the file ends inside its marker, count or table, or before or after the end of its last body
abbrev pub wrong_end : ℕ
wrong_end = 14

-- a wanted rectangle is empty or reaches outside the whole filter region
abbrev pub wanted_outside : ℕ
wanted_outside = 15
