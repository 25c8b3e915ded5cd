-- The sigmas that are written run by run are the block sigmas. A run is a part of a row of blocks that lies in one group. Assumes nothing.
use mathlib.Core.Path.{◌≡◌, refl, sym, ap, ◌∙◌}
use mathlib.Core.Bool.{true, false}
use mathlib.Core.List.{List}
use Prim.Native.Nat.{ℕ, suc, ◌+◌, ◌-◌, ◌*◌, ◌/◌, ◌%◌, ◌<◌, ◌≤◌}
use native.Mathlib.Nat.{div-add-mod', suc-mul, mul_comm, mul-le-mul, mul-le-mul_right}
use native.Mathlib.Omega.{arith}
use borrow.Author.Tests.{eqb-true}
use borrow.Rule.Slice.PartMut.{put_mid}
use lib.Arith.{digits_div, digits_mod}
use lib.ListN.{length, get_or}
use lib.Seq.{ext_get_or}
use lib.Ieee.{Float, nan}
use Rattle.std.specs.List.{between}
use Rattle.std.proofs.lemmas.List.{take_all}
use Rattle.std.proofs.lemmas.List.Edits.{length-between}
use Rattle.planes.specs.Sets.{tab}
use Rattle.planes.proofs.SetLaws.{length-tab, get_d-tab}
use Rattle.planes.specs.Fill.{fill}
use Rattle.planes.proofs.Copy.{part-copied, copied-run}
use Rattle.planes.proofs.Fill.{length-fill, fill-at, fill-then, fill-cong}
use Rattle.frame.specs.declared.Frame.{Frame}
use Rattle.frame.specs.declared.GroupSizes.{GroupSizes}
use Rattle.frame.specs.Sizes.{group_dim_of, group_of, inner_of, sizes_of}
use Rattle.sigma_groups.specs.declared.blocks.Blocks.{Blocks}
use Rattle.sigma.specs.declared.Run.{Run}
use Rattle.sigma.specs.declared.BlockRow.{BlockRow}
use Rattle.sigma_grids.specs.Table.{presence, present, grid_width, grid_height, grid_start, bad_grid}
use Rattle.sigma_groups.specs.Measures.{blocks_across, blocks_down}
use Rattle.sigma_groups.specs.BlocksFit.{BlocksFit}
use Rattle.sigma_groups.proofs.BlocksFit.{across-le}
use Rattle.sigma_groups.specs.Fitting.{TableOf}
use Rattle.sigma_groups.specs.Held.{group_at, not_held, some_not_held}
use Rattle.sigma.specs.Sigma.{sigma_in, frame_sigma, block_sigma, block_sigmas}
use Rattle.sigma_groups.proofs.Laws.{entry_lt, entries-le, Held, held, Accepted}
use Rattle.sigma_grids.proofs.Laws.{some-fewer, none_below, grid-sides, grid-has-block, cells-present, start-ends}
use Rattle.sigma.specs.Runs.{Holds, RunFits, RunOf, GridsOf, row_sigma, RowFits}

-- a list of n samples whose sample k is f k
pub is-tab : (s : List Float) (n : ℕ) (f : ℕ → Float) → length s ≡ n → ((k : ℕ) → k < n → get_or s k nan ≡ f k) → s ≡ tab n f
is-tab s n f e h = ext_get_or nan s (tab n f) (e ∙ sym (length-tab n f)) (λ k l. let m : k < n = omega arith in h k m ∙ sym (get_d-tab n f k m))

-- a run that fills the whole list
pub fill-whole : (d : List Float) (n : ℕ) (f : ℕ → Float) → length d ≡ n → fill d 0 n f ≡ tab n f
fill-whole d n f e = is-tab (fill d 0 n f) n f (length-fill d 0 n f ∙ e) each
  where
    each : (k : ℕ) → k < n → get_or (fill d 0 n f) k nan ≡ f k
    each k l = let z : 0 + k ≡ k = omega arith in rw z at (fill-at d 0 n f k (omega arith) l)

pub length-part : (s : List Float) (at n : ℕ) → at + n ≤ length s → length (between at (at + n) s) ≡ n
length-part s at n l = omega (arith, length-between s at (at + n) l)

-- the part of d from index `at` replaced by n samples
part-tab : (d : List Float) (at n : ℕ) (f : ℕ → Float) → at + n ≤ length d → put_mid at (at + n - at) d (tab n f) ≡ fill d at n f
part-tab d at n f p =
    let size = length-tab n f in
    let room : 0 + n ≤ length (tab n f) = omega (arith, size) in
    let whole : between 0 (0 + n) (tab n f) ≡ tab n f = take_all (0 + n - 0) (tab n f) (omega (arith, size)) in
    rw whole at (part-copied d at (tab n f) 0 n p room) ∙ copied-run d at (tab n f) 0 n p room ∙ fill-cong d at n _ f (λ i l. get_d-tab n f (0 + i) (omega arith) ∙ ap f (omega arith))

-- the next n samples
next-part : (d s part : List Float) (at n : ℕ) (f g : ℕ → Float) → s ≡ fill d 0 at f → at + n ≤ length s → part ≡ tab n g → ((i : ℕ) → i < n → g i ≡ f (at + i))
    → put_mid at (at + n - at) s part ≡ fill d 0 (at + n) f
next-part d s part at n f g e room q each =
    let z : 0 + at ≡ at = omega arith in
    let written : fill s at n g ≡ fill d 0 (at + n) f = rw e (rw z at (fill-then d 0 at n f g f (λ i l. refl) each)) in
    rw q (part-tab s at n g room ∙ written)

-- blocks to the right of a block in the same group: block b + i has the same group, and its cell is i columns to the right
pub run-group : (b s i : ℕ) → inner_of b s + i < group_dim_of s → group_of (b + i) s ≡ group_of b s
run-group b s i l = let e : b + i ≡ group_of b s * group_dim_of s + (inner_of b s + i) = omega (arith, div-add-mod' b (group_dim_of s)) in rw e (digits_div (group_of b s) l)

pub run-inner : (b s i : ℕ) → inner_of b s + i < group_dim_of s → inner_of (b + i) s ≡ inner_of b s + i
run-inner b s i l = let e : b + i ≡ group_of b s * group_dim_of s + (inner_of b s + i) = omega (arith, div-add-mod' b (group_dim_of s)) in rw e (digits_mod (group_of b s) l)

module _ (t : List ℕ) (grids : List Float) (r : Run) where
  -- the index of the run's first cell in the grids slice
  abbrev pub first_cell : ℕ
  first_cell = grid_start t r.group + (r.row * grid_width t r.group + r.column)

  -- cells of a present grid are consecutive
  pub run-present : present t r.group ≡ true → (modular : Float) (from i : ℕ) → from ≡ first_cell
      → get_or grids (from + i) nan ≡ sigma_in t grids modular r.group (r.column + i) r.row
  unfolding sigma_in
  run-present p modular from i e =
      let z : from + i ≡ grid_start t r.group + (r.row * grid_width t r.group + (r.column + i)) = omega arith in
      rw (p, z)

  pub run-missing : present t r.group ≡ false → (modular : Float) (i : ℕ) → modular ≡ sigma_in t grids modular r.group (r.column + i) r.row
  unfolding sigma_in
  run-missing p modular i = rw p

  module _ (h : Holds t grids r) where
    pub row-le : r.row * grid_width t r.group ≤ 1048576
    row-le = let l : r.row ≤ 1024 = omega (arith, h.row_lt, h.height-le) in omega (arith, mul-le-mul l h.width-le)

    -- the run ends within the grids slice
    pub run_room : first_cell + r.n ≤ length grids
    run_room =
        let w = grid_width t r.group in
        let l : suc r.row ≤ grid_height t r.group = h.row_lt in
        omega (arith, h.columns, h.grid-end-le, suc-mul r.row w, mul-le-mul_right w l, mul_comm w (grid_height t r.group))

module _ (f : Frame) (sizes : GroupSizes) (t : List ℕ) (grids : List Float) (h : GridsOf f sizes t grids) (by : ℕ) where
  -- if the last block of a run is held, all its blocks are
  pub run_fits_lem : (bx limit : ℕ) (r : Run) → RunOf f bx by limit r → not_held f t (bx + (r.n - 1)) by ≡ false → RunFits t grids r
  run_fits_lem bx limit r is no-fault =
      record {
        entry = rw is.group-is here;
        table-le = entries-le f sizes t h.table;
        before = some-fewer groups r.group (bad_grid t) h.sides (rw is.group-is (omega (arith, below)));
        holds = present-holds;
      }
    where
      s : ℕ
      s = f.group_size_shift

      groups : ℕ
      groups = (sizes_of f).num_groups

      last : ℕ
      last = bx + (r.n - 1)

      inside : inner_of bx s + (r.n - 1) < group_dim_of s
      inside = omega (arith, is.column-is, is.one-group, is.n_pos)

      same-group : group_at f last by ≡ group_at f bx by
      same-group = ap (λ (k : ℕ). group_of by s * (sizes_of f).groups_per_row + k) (run-group bx s (r.n - 1) inside)

      at_last : Held f t last by
      at_last = held f t last by no-fault

      here : 3 * group_at f bx by + 3 ≤ length t
      here = rw same-group at (rw h.table.sizes-are at (entry_lt f sizes t h.table (group_of last s) (group_of by s) (rw h.table.sizes-are at_last.in_row) (rw h.table.sizes-are at_last.in-column)))

      below : group_at f bx by < groups
      below = omega (arith, here, h.table.entries)

      present-holds : present t r.group ≡ true → Holds t grids r
      present-holds is-present =
          let p : presence t r.group ≡ 1 = eqb-true (presence t r.group) 1 is-present in
          let g : r.group ≡ group_at f last by = is.group-is ∙ sym same-group in
          let l : r.group < groups = rw is.group-is below in
          let sides = grid-sides t r.group (none_below groups r.group (bad_grid t) h.sides l) p in
          let cell = grid-has-block t r.group (inner_of last s) (inner_of by s) (rw g at_last.in-grid) p in
          record {
            width-le = sides.0.1;
            height-le = sides.1.1;
            columns = omega (arith, cell.0, run-inner bx s (r.n - 1) inside, is.column-is, is.n_pos);
            row_lt = omega (arith, cell.1, is.row_is);
            grid-end-le = omega (arith, start-ends t r.group groups l, cells-present t r.group p, h.cells_are);
          }

-- the next run of a row
module _ (f : Frame) (t : List ℕ) (grids : List Float) (modular : Float) (s₀ : List Float) (row : BlockRow) where
  abbrev row_of : ℕ → Float
  row_of = row_sigma f t grids modular row

  pub row-turn : (s part : List Float) (x limit : ℕ) (r : Run) → s ≡ fill s₀ 0 x row_of → x + r.n ≤ length s → RunOf f (row.left + x) row.by limit r
      → part ≡ tab r.n (λ i. sigma_in t grids modular r.group (r.column + i) r.row)
      → put_mid x (x + r.n - x) s part ≡ fill s₀ 0 (x + r.n) row_of
  unfolding row_sigma frame_sigma
  row-turn s part x limit r e room is q = next-part s₀ s part x r.n row_of _ e room q each
    where
      each : (i : ℕ) → i < r.n → sigma_in t grids modular r.group (r.column + i) r.row ≡ row_of (x + i)
      each i p =
          let k = f.group_size_shift in
          let bx = row.left + x in
          let block : row.left + (x + i) ≡ row.left + x + i = omega arith in
          let inside : inner_of bx k + i < group_dim_of k = omega (arith, is.column-is, is.one-group) in
          rw (block, run-group bx k i inside, run-inner bx k i inside, is.group-is, is.column-is, is.row_is)

-- ---- row by row

-- the sigma at an index of the block sigmas
unfoldable pub flat_sigma : Frame → Blocks → List ℕ → List Float → Float → ℕ → Float
flat_sigma f b t grids modular i = block_sigma f b t grids modular (i % blocks_across b) (i / blocks_across b)

module _ (f : Frame) (b : Blocks) (t : List ℕ) (grids : List Float) (modular : Float) (s₀ : List Float) where
  abbrev flat : ℕ → Float
  flat = flat_sigma f b t grids modular

  flat-is : (x y o : ℕ) → x < blocks_across b → o ≡ y * blocks_across b → flat (o + x) ≡ block_sigma f b t grids modular x y
  unfolding flat_sigma
  flat-is x y o p e = rw (e, digits_mod y p, digits_div y p)

  -- row y of the filter region, with n blocks across
  abbrev row_at : ℕ → ℕ → BlockRow
  row_at n y = record { left = b.left; by = b.top + y; across = n }

  -- an iteration of the loop over rows
  pub rows-turn : (s part : List Float) (n y o : ℕ) → n ≡ blocks_across b → o ≡ y * n → s ≡ fill s₀ 0 o flat → o + n ≤ length s
      → part ≡ tab n (row_sigma f t grids modular (row_at n y)) → put_mid o (o + n - o) s part ≡ fill s₀ 0 (o + n) flat
  unfolding row_sigma block_sigma
  rows-turn s part n y o q e is room p =
      next-part s₀ s part o n flat _ is room p (λ x l. sym (flat-is x y o (omega (arith, q)) (rw (← q) e)))

  pub rows_end : (s : List Float) (n y o : ℕ) → n ≡ blocks_across b → o ≡ y * n → y ≡ blocks_down b → length s₀ ≡ blocks_down b * blocks_across b → s ≡ fill s₀ 0 o flat → s ≡ block_sigmas f b t grids modular
  unfolding block_sigmas flat_sigma
  rows_end s n y o q e d l is =
      let z : o ≡ blocks_down b * blocks_across b = e ∙ rw (d, q) in
      is ∙ rw z (fill-whole s₀ (blocks_down b * blocks_across b) _ l)

pub row_fits : (f : Frame) (b : Blocks) (t : List ℕ) → BlocksFit b → some_not_held f b t ≡ false → (n y : ℕ) → n ≡ blocks_across b → y < blocks_down b
    → RowFits f t (record { left = b.left; by = b.top + y; across = n })
unfolding some_not_held
row_fits f b t fit held n y q l =
    rw q (record {
      left_le = fit.left_le;
      across-le = across-le b fit;
      held_all = none_below (blocks_down b) y _ held l;
    })

-- the grids of an accepted call
pub grids-of : (on : ℕ) (f g : Frame) (b : Blocks) (t u : List ℕ) (grids : List Float) (n : ℕ) (sizes : GroupSizes) → Accepted on f b t grids n → TableOf g sizes u → g ≡ f → u ≡ t → GridsOf g sizes u grids
grids-of on f g b t u grids n sizes a h e i =
    record {
      table = h;
      sides = rw (e, i) a.sides;
      cells_are = rw (e, i) a.cells_are;
    }
