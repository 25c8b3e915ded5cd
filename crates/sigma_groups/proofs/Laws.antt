-- Laws of the blocks in groups, and of accepted inputs. Assumes nothing.
use mathlib.Core.Path.{◌≡◌, sym, ap, ◌∙◌}
use mathlib.Core.Bool.{true, false}
use mathlib.Core.List.{List}
use Prim.Native.Nat.{ℕ, ◌+◌, ◌*◌, ◌<◌, ◌≤◌}
use native.Mathlib.Nat.{mul_comm}
use native.Mathlib.Omega.{arith}
use borrow.Author.Tests.{leb-false, eqb-true, not-false}
use lib.Dec.{leb, eqb}
use lib.Arith.{digits_lt}
use lib.ListN.{length}
use lib.Ieee.{Float}
use Rattle.frame.specs.declared.Frame.{Frame}
use Rattle.frame.specs.declared.GroupSizes.{GroupSizes}
use Rattle.frame.specs.Sizes.{group_of, inner_of, sizes_of}
use Rattle.frame.proofs.Laws.{Bounded, sizes-bounded}
use Rattle.frame.specs.Outcome.{bad_sides, bad_settings, frame_checks}
use Rattle.refusals.specs.Numbers.{accepted}
use Rattle.refusals.specs.Checks.{first_of}
use Rattle.refusals.specs.Flags.{flag_fits, flag_set}
use Rattle.refusals.proofs.Rows.{here, below, row-passed}
use Rattle.sigma_groups.specs.declared.blocks.Blocks.{Blocks}
use Rattle.sigma_groups.specs.Measures.{bad_blocks}
use Rattle.sigma_groups.specs.BlocksFit.{BlocksFit}
use Rattle.sigma_groups.proofs.BlocksFit.{fits-blocks}
use Rattle.sigma_grids.specs.Table.{bad_presence, bad_grid, grid_lacks_block, grid_start}
use Rattle.sigma_grids.proofs.Laws.{neither}
use Rattle.sigma_groups.specs.Held.{group_at, not_held, some_not_held}
use Rattle.sigma_groups.specs.Outcome.{table_fits, some_group, grids_fit, sigma_count, frame_sides, grid_sides, table_length, grids_length, frame_settings, presences, blocks_in_limits, sigmas_counted, region_held, flag_in_range, sigma_checks, sigma_number}
use Rattle.sigma_groups.specs.Fitting.{TableOf}

module _ (f : Frame) (sizes : GroupSizes) (t : List ℕ) (h : TableOf f sizes t) where
  pub sizes-fit : Bounded sizes
  sizes-fit = rw h.sizes-are (sizes-bounded f h.sound)

  -- a group within the groups per row and per column has an entry in the table
  pub entry_lt : (column row : ℕ) → column < sizes.groups_per_row → row < sizes.groups_per_column → 3 * (row * sizes.groups_per_row + column) + 3 ≤ length t
  entry_lt column row c r =
      let n : sizes.num_groups ≡ sizes.groups_per_column * sizes.groups_per_row = sizes-fit.groups ∙ mul_comm _ _ in
      let e : (sizes_of f).num_groups ≡ sizes.num_groups = ap (λ (g : GroupSizes). g.num_groups) (sym h.sizes-are) in
      let l : row * sizes.groups_per_row + column < sizes.groups_per_column * sizes.groups_per_row = digits_lt r c in
      omega (arith, h.entries)

  -- there are at most 256 groups
  pub entries-le : length t ≤ 768
  entries-le = omega (arith, h.entries, (sizes-bounded f h.sound).groups-le)

-- a block that is held: its group is in the frame, and its cell is in the group's grid if that is present
pub record Held (f : Frame) (t : List ℕ) (bx by : ℕ) : Type 0 where
  pub in_row : group_of bx f.group_size_shift < (sizes_of f).groups_per_row
  pub in-column : group_of by f.group_size_shift < (sizes_of f).groups_per_column
  pub in-grid : grid_lacks_block t (group_at f bx by) (inner_of bx f.group_size_shift) (inner_of by f.group_size_shift) ≡ false

pub held : (f : Frame) (t : List ℕ) (bx by : ℕ) → not_held f t bx by ≡ false → Held f t bx by
unfolding not_held
held f t bx by h =
    let s = f.group_size_shift in
    let g = neither _ (grid_lacks_block t (group_at f bx by) (inner_of bx s) (inner_of by s)) h in
    let n = neither (leb (sizes_of f).groups_per_row (group_of bx s)) (leb (sizes_of f).groups_per_column (group_of by s)) g.0 in
    record {
      in_row = leb-false (sizes_of f).groups_per_row (group_of bx s) n.0;
      in-column = leb-false (sizes_of f).groups_per_column (group_of by s) n.1;
      in-grid = g.1;
    }

-- ---- accepted inputs

-- Accepted inputs: the numbers of frame and filter region are in range, and lengths, grids and blocks fit.
pub record Accepted (on : ℕ) (f : Frame) (b : Blocks) (t : List ℕ) (grids : List Float) (n : ℕ) : Type 0 where
  pub frame-fits : first_of (frame_checks f) ≡ accepted
  pub blocks : BlocksFit b
  pub entries : length t ≡ 3 * (sizes_of f).num_groups
  pub sides : some_group f (bad_grid t) ≡ false
  pub presences : some_group f (bad_presence t) ≡ false
  pub cells_are : length grids ≡ grid_start t (sizes_of f).num_groups
  pub flag : flag_fits on ≡ true
  pub count : n ≡ sigma_count (flag_set on) b
  pub held_all : flag_set on ≡ true → some_not_held f b t ≡ false

module _ (on : ℕ) (f : Frame) (b : Blocks) (t : List ℕ) (grids : List Float) (n : ℕ) where
  pub accepted-fits : sigma_number on f b t grids n ≡ 0 → Accepted on f b t grids n
  unfolding table_fits grids_fit
  accepted-fits e =
      let passed = row-passed (sigma_checks on f b t grids n) tt e in
      let sides : bad_sides f ≡ false = passed (frame_sides f) (search (here, below) depth 12) in
      let settings : bad_settings f ≡ false = passed (frame_settings f) (search (here, below) depth 12) in
      let region : bad_blocks b ≡ false = passed (blocks_in_limits b) (search (here, below) depth 12) in
      let flag : flag_fits on ≡ true = not-false (flag_fits on) (passed (flag_in_range on) (search (here, below) depth 12)) in
      let table : table_fits f t ≡ true = not-false (table_fits f t) (rw (sides, settings) at (passed (table_length f t) (search (here, below) depth 12))) in
      let clear : some_group f (bad_presence t) ≡ false = rw (sides, settings, table) at (passed (presences f t) (search (here, below) depth 12)) in
      let cells = not-false (grids_fit f t grids) (rw (sides, settings, table, clear) at (passed (grids_length f t grids) (search (here, below) depth 12))) in
      let count = not-false (eqb n (sigma_count (flag_set on) b)) (rw (region, flag) at (passed (sigmas_counted on b n) (search (here, below) depth 12))) in
      record {
        frame-fits = rw (sides, settings);
        blocks = fits-blocks b region;
        entries = eqb-true (length t) (3 * (sizes_of f).num_groups) table;
        sides = rw (sides, settings, table) at (passed (grid_sides f t) (search (here, below) depth 12));
        presences = clear;
        cells_are = eqb-true (length grids) (grid_start t (sizes_of f).num_groups) cells;
        flag = flag;
        count = eqb-true n (sigma_count (flag_set on) b) count;
        held_all = λ y. rw (sides, settings, table, region, y) at (passed (region_held on f b t) (search (here, below) depth 12));
      }
