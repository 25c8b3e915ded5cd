-- What writing the entries needs of a table and of the file's length. Definitions only.
use Rattle.std.specs.Prelude.{◌≡◌, true, ℕ, ◌≤◌}
use Rattle.cut_file.specs.declared.CutTable.{CutTable}
use Rattle.cut_file.specs.File.{max_file, max_rectangles, file_length}
use Rattle.cut_file.specs.Write.{rectangle, rectangles_fit}

pub record TableFits (planes : ℕ) (t : CutTable) (len : ℕ) : Type 0 where
  pub few-planes : planes ≤ 3
  pub count-le : t.count ≤ max_rectangles
  pub rectangles-fit : rectangles_fit (rectangle t) t.count ≡ true
  pub length-is : len ≡ file_length planes (rectangle t) t.count
  pub length-le : len ≤ max_file
