-- Laws of region arithmetic, stated; proofs/Laws.antt proves them. A position is a column and a row, in the coordinates of left and top.
use Rattle.std.specs.Prelude.{◌≡◌, false, ℕ, ◌<◌, T, ℤ}
use Rattle.region_interval.specs.Integers.{floor_div}
use Rattle.region_interval.specs.Grid.{OnGrid}
use Rattle.region.specs.Regions.{Holds, columns, rows, is_empty, contains}
use Rattle.region.specs.declared.Region.{Region}
use Rattle.region_arithmetic.specs.Arithmetic.{intersected, shrunk_by, aligned_to}

-- all four edges are multiples of m
pub record Aligned (m : ℕ) (r : Region) : Type 0 where
  pub across : OnGrid m (columns r)
  pub down : OnGrid m (rows r)

-- the intersection is contained in both
abbrev pub IntersectionInside : Type 0
IntersectionInside = (a b : Region) → T (contains a (intersected a b)) × T (contains b (intersected a b))

-- and contains every nonempty region that is contained in both
abbrev pub IntersectionGreatest : Type 0
IntersectionGreatest = (a b c : Region) → is_empty c ≡ false → T (contains a c) → T (contains b c) → T (contains (intersected a b) c)

-- the aligned region is aligned and contains its argument
abbrev pub AlignedContains : Type 0
AlignedContains = (m : ℕ) (r : Region) → 0 < m → Aligned m (aligned_to m r) × T (contains (aligned_to m r) r)

-- and is contained in every aligned region that contains its argument, if the argument is not empty
abbrev pub AlignedLeast : Type 0
AlignedLeast = (m : ℕ) (r s : Region) → 0 < m → is_empty r ≡ false → Aligned m s → T (contains s r) → T (contains s (aligned_to m r))

-- the shrunk region contains the cell of each position of the region
abbrev pub ShrunkHas : Type 0
ShrunkHas = (m : ℕ) (r : Region) → 0 < m → (x y : ℤ) → Holds r x y → Holds (shrunk_by m r) (floor_div x m) (floor_div y m)

-- and no other, if the region is not empty
abbrev pub ShrunkTouched : Type 0
ShrunkTouched = (m : ℕ) (r : Region) → 0 < m → is_empty r ≡ false → (i j : ℤ) → Holds (shrunk_by m r) i j
    → (x : ℤ) × (y : ℤ) × Holds r x y × (floor_div x m ≡ i) × (floor_div y m ≡ j)
