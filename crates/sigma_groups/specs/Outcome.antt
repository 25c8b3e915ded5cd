-- The number of `block_sigmas` (Specification 7.9, 12.6).
use Rattle.std.specs.Prelude.{Bool, cond, not, ◌&&◌, ◌||◌, List, [], ◌∷◌, ℕ, ◌*◌, eqb, length, Float}
use Rattle.refusals.specs.Numbers.{out_of_limits, wrong_length, block_not_held, out_of_range}
use Rattle.refusals.specs.Checks.{Check, always, given, first_of}
use Rattle.refusals.specs.Flags.{flag_fits, flag_set}
use Rattle.frame.specs.declared.Frame.{Frame}
use Rattle.frame.specs.Sizes.{sizes_of}
use Rattle.frame.specs.Outcome.{bad_sides, bad_settings}
use Rattle.sigma_groups.specs.declared.blocks.Blocks.{Blocks}
use Rattle.sigma_grids.specs.Table.{grid_start, bad_presence, bad_grid, some_below}
use Rattle.sigma_groups.specs.Measures.{blocks_across, blocks_down, bad_blocks}
use Rattle.sigma_groups.specs.Held.{some_not_held}

-- ---- values that checks need

-- the frame's sides and settings are in range
abbrev pub frame_fits : Frame → Bool
frame_fits f = not (bad_sides f || bad_settings f)

-- the table has an entry for each group of the frame
unfoldable pub table_fits : Frame → List ℕ → Bool
table_fits f t = eqb (length t) (3 * (sizes_of f).num_groups)

-- the table is readable (Specification 7.4)
abbrev pub table_read : Frame → List ℕ → Bool
table_read f t = frame_fits f && table_fits f t

-- some group of the frame has this property
abbrev pub some_group : Frame → (ℕ → Bool) → Bool
some_group f = some_below (sizes_of f).num_groups

-- the grids slice has exactly the cells of the present grids
unfoldable pub grids_fit : Frame → List ℕ → List Float → Bool
grids_fit f t grids = eqb (length grids) (grid_start t (sizes_of f).num_groups)

-- one sigma per block if the EPF is on, none if it is off
abbrev pub sigma_count : Bool → Blocks → ℕ
sigma_count on b = cond on (blocks_down b * blocks_across b) 0

-- ---- checks of a frame, its group table and grids, each with the values that it needs

-- frame sides, and sides of present grids
abbrev pub frame_sides : Frame → Check
frame_sides f = always out_of_limits (bad_sides f)

abbrev pub grid_sides : Frame → List ℕ → Check
grid_sides f t = given (table_read f t) out_of_limits (some_group f (bad_grid t))

-- lengths of the table and of the grids slice; the latter is passed over if a presence is out of range
abbrev pub table_length : Frame → List ℕ → Check
table_length f t = given (frame_fits f) wrong_length (not (table_fits f t))

abbrev pub grids_length : Frame → List ℕ → List Float → Check
grids_length f t grids = given (table_read f t && not (some_group f (bad_presence t))) wrong_length (not (grids_fit f t grids))

-- the frame's settings, and the presences
abbrev pub frame_settings : Frame → Check
frame_settings f = always out_of_range (bad_settings f)

abbrev pub presences : Frame → List ℕ → Check
presences f t = given (table_read f t) out_of_range (some_group f (bad_presence t))

-- ---- checks of the filter region, its sigmas and the flag

abbrev pub blocks_in_limits : Blocks → Check
blocks_in_limits b = always out_of_limits (bad_blocks b)

-- the number of sigmas; passed over if the flag is out of range
abbrev pub sigmas_counted : ℕ → Blocks → ℕ → Check
sigmas_counted on b sigmas = given (not (bad_blocks b) && flag_fits on) wrong_length (not (eqb sigmas (sigma_count (flag_set on) b)))

-- the blocks of the region; a presence out of range counts as missing
abbrev pub region_held : ℕ → Frame → Blocks → List ℕ → Check
region_held on f b t = given (table_read f t && not (bad_blocks b) && flag_set on) block_not_held (some_not_held f b t)

abbrev pub flag_in_range : ℕ → Check
flag_in_range on = always out_of_range (not (flag_fits on))

-- ---- the table of checks

-- The checks of Specification 7.9, ascending. If the EPF is off, all of them apply except 8. Whether it is on is a flag;
-- the number of sigmas and 8 are checked only if the flag is in range.
-- A presence out of range counts as missing: the sides of that grid are passed over, and so is 8 for its blocks.
abbrev pub sigma_checks : ℕ → Frame → Blocks → List ℕ → List Float → ℕ → List Check
sigma_checks on f b t grids sigmas =
    frame_sides f
    ∷ blocks_in_limits b
    ∷ grid_sides f t
    ∷ table_length f t
    ∷ grids_length f t grids
    ∷ sigmas_counted on b sigmas
    ∷ region_held on f b t
    ∷ frame_settings f
    ∷ presences f t
    ∷ flag_in_range on
    ∷ []

-- the number of the first check that applies
abbrev pub sigma_number : ℕ → Frame → Blocks → List ℕ → List Float → ℕ → ℕ
sigma_number on f b t grids sigmas = first_of (sigma_checks on f b t grids sigmas)
