-- The group table (Specification 7.4): three numbers per group (presence, grid width, grid height), in group order.
-- The grids slice has the cells of the present grids in group order, each grid row by row.
use Rattle.std.specs.Prelude.{Bool, false, cond, ◌&&◌, ◌||◌, List, ℕ, zero, suc, ◌+◌, ◌*◌, ltb, leb, eqb, get_or}

abbrev pub presence : List ℕ → ℕ → ℕ
presence t g = get_or t (3 * g) 0

abbrev pub grid_width : List ℕ → ℕ → ℕ
grid_width t g = get_or t (3 * g + 1) 0

abbrev pub grid_height : List ℕ → ℕ → ℕ
grid_height t g = get_or t (3 * g + 2) 0

-- presence is 1 for a grid that is there and 0 for a missing one
abbrev pub present : List ℕ → ℕ → Bool
present t g = eqb (presence t g) 1

abbrev pub bad_presence : List ℕ → ℕ → Bool
bad_presence t g = ltb 1 (presence t g)

abbrev pub bad_grid_side : ℕ → Bool
bad_grid_side side = ltb side 1 || ltb 1024 side

-- a present grid with a side outside 1 to 1,024; the sides of a missing grid are not read
unfoldable pub bad_grid : List ℕ → ℕ → Bool
bad_grid t g = present t g && (bad_grid_side (grid_width t g) || bad_grid_side (grid_height t g))

-- the number of cells of a group in the grids slice
unfoldable pub cells : List ℕ → ℕ → ℕ
cells t g = cond (present t g) (grid_width t g * grid_height t g) 0

-- the start of a group's grid: after the cells of all groups before it
unfoldable pub grid_start : List ℕ → ℕ → ℕ
grid_start t zero = 0
grid_start t (suc g) = grid_start t g + cells t g

-- a grid that is present and lacks the cell at this column and row
unfoldable pub grid_lacks_block : List ℕ → ℕ → ℕ → ℕ → Bool
grid_lacks_block t g column row = present t g && (leb (grid_width t g) column || leb (grid_height t g) row)

-- some number below n has the property
unfoldable pub some_below : ℕ → (ℕ → Bool) → Bool
some_below zero has = false
some_below (suc n) has = some_below n has || has n
