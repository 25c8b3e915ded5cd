-- Sizes of a tile and of the arrays computed for it, as in src/lib.rt.
use Rattle.std.specs.Prelude.{ℕ}

-- the largest number of columns of a tile
abbrev pub lanes : ℕ
lanes = 64

-- the largest number of rows of a tile
abbrev pub tile_rows : ℕ
tile_rows = 8

-- the distance from one row to the next, in a window, in a field and in a plane of differences
abbrev pub stride : ℕ
stride = 72

-- the rows of a window
abbrev pub window_rows : ℕ
window_rows = 14

-- a window's plane
abbrev pub window_plane : ℕ
window_plane = 1008

-- the windows of three planes, with room for the vectors that end past the last row
abbrev pub windows_length : ℕ
windows_length = 3032

-- where a tile's first sample stands in its window
abbrev pub margin_rows : ℕ
margin_rows = 3

abbrev pub margin_columns : ℕ
margin_columns = 4

-- a field: 10 rows, two of them above the tile
abbrev pub field_plane : ℕ
field_plane = 720

-- six fields
abbrev pub fields_length : ℕ
fields_length = 4320

-- the rows of a plane of differences (those of a field, one above and one below), its length, and that of three planes
abbrev pub difference_rows : ℕ
difference_rows = 12

abbrev pub difference_plane : ℕ
difference_plane = 864

abbrev pub differences_length : ℕ
differences_length = 2592

-- the longest side of a region (Specification 4.1), `limits::MAX_SIDE`
abbrev pub max_side : ℕ
max_side = 16384
