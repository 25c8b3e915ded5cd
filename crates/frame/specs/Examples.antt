-- The sizes of some frames, and the order of refusals, computed. Assumes nothing.
use Rattle.std.specs.Prelude.{◌≡◌, refl, ℕ}
use Rattle.std.specs.Int.Count.{count_trailing_zeros}
use Rattle.frame.specs.declared.Frame.{Frame}
use Rattle.frame.specs.Sizes.{sizes_of}
use Rattle.frame.specs.Outcome.{bad_sides, bad_settings, frame_outcome, no_sizes, split_outcome}

abbrev frame : ℕ → ℕ → ℕ → ℕ → ℕ → Frame
frame w h u l s = record { width = w; height = h; upsampling = u; lf_level = l; group_size_shift = s }

-- 4,000 × 3,001 with upsampling 2 is 2,000 × 1,501 samples, in 2 × 2 LF groups of 1,024 × 1,024 samples
halved : frame_outcome (frame 4000 3001 2 0 0) ≡ record {
  number = 0;
  sizes = record { sample_width = 2000; sample_height = 1501; group_dim = 128; group_shift = 7; groups_per_row = 2; groups_per_column = 2; num_groups = 4 };
}
unfolding bad_sides bad_settings sizes_of count_trailing_zeros
halved = refl

-- the largest frame has 16 × 16 LF groups at shift 0
largest : (frame_outcome (frame 16384 16384 1 0 0)).sizes.num_groups ≡ 256
unfolding bad_sides bad_settings sizes_of
largest = refl

-- at LF level 2 a side of 1,000 has 16 samples: ⌈1,000 / 64⌉
level : (frame_outcome (frame 1000 1000 1 2 3)).sizes.sample_width ≡ 16
unfolding bad_sides bad_settings sizes_of
level = refl

-- a side of 16,385 is refused with 4, even if upsampling is 3; upsampling 3 alone is refused with 9
refusals : (frame_outcome (frame 16385 1 3 0 0) ≡ record { number = 4; sizes = no_sizes }) × (frame_outcome (frame 16384 1 3 0 0) ≡ record { number = 9; sizes = no_sizes })
unfolding bad_sides bad_settings
refusals = (refl, refl)

-- block 300 in groups of 128: cell 44 of group 2
block : split_outcome 300 0 ≡ record { number = 0; group = 2; inner = 44 }
block = refl
