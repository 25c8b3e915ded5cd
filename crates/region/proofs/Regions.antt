-- Regions as their columns and rows: positions, regions inside others, and offsets from both corners. Assumes nothing.
use mathlib.Core.Path.{◌≡◌}
use Prim.Native.Nat.{ℕ, ◌+◌, ◌<◌, ◌≤◌}
use lib.Dec.{T}
use lib.Ieee.Fits.{and_l, and_r, and_i}
use lib.IntN.{ℤ, pos, nat_abs, ◌+ℤ◌, ◌-ℤ◌}
use lib.Signed.{le_z}
use Rattle.region_interval.specs.Overlap.{covers, In}
use Rattle.region_interval.proofs.Laws.{covers-start}
use Rattle.region_interval.proofs.Positions.{nth_in, offset-below, offsets-add, in-or-not, covers-itself, in-covering, part-fits}
use Rattle.region.specs.declared.Region.{Region}
use Rattle.region.specs.Regions.{columns, rows, inside, Holds}

-- ---- one region

-- the position at column x and row y
pub nth-holds : (r : Region) (x y : ℕ) → x < r.width → y < r.height → Holds r (r.left +ℤ pos x) (r.top +ℤ pos y)
nth-holds r x y h k = record { column = nth_in r.left r.width x h; row = nth_in r.top r.height y k }

pub holds-or-not : (r : Region) (x y : ℤ) → Dec (Holds r x y)
holds-or-not r x y = go (in-or-not (columns r) x) (in-or-not (rows r) y)
  where
    go : Dec (In (columns r) x) → Dec (In (rows r) y) → Dec (Holds r x y)
    go (yes a) (yes b) = yes (record { column = a; row = b })
    go (yes a) (no b) = no (λ h. b h.row)
    go (no a) b = no (λ h. a h.column)

module _ (r : Region) (x y : ℤ) (held : Holds r x y) where
  pub column-below : nat_abs (x -ℤ r.left) < r.width
  column-below = offset-below r.left r.width x held.column

  pub row_below : nat_abs (y -ℤ r.top) < r.height
  row_below = offset-below r.top r.height y held.row

-- ---- a region inside another

pub inside_of : (large small : Region) → T (covers (columns large) (columns small)) → T (covers (rows large) (rows small)) → T (inside large small)
unfolding inside
inside_of large small h k = and_i (covers (columns large) (columns small)) (covers (rows large) (rows small)) h k

pub inside-itself : (r : Region) → T (inside r r)
inside-itself r = inside_of r r (covers-itself (columns r)) (covers-itself (rows r))

module _ (large small : Region) (t : T (inside large small)) where
  pub inside-columns : T (covers (columns large) (columns small))
  unfolding inside
  inside-columns = and_l (covers (columns large) (columns small)) (covers (rows large) (rows small)) t

  pub inside-rows : T (covers (rows large) (rows small))
  unfolding inside
  inside-rows = and_r (covers (columns large) (columns small)) (covers (rows large) (rows small)) t

  pub inside-left : T (le_z large.left small.left)
  inside-left = covers-start (columns large) (columns small) inside-columns

  pub inside-top : T (le_z large.top small.top)
  inside-top = covers-start (rows large) (rows small) inside-rows

  pub width_fits : nat_abs (small.left -ℤ large.left) + small.width ≤ large.width
  width_fits = part-fits small.left large.left small.width large.width inside-columns

  pub height-fits : nat_abs (small.top -ℤ large.top) + small.height ≤ large.height
  height-fits = part-fits small.top large.top small.height large.height inside-rows

  -- a position of the smaller region
  module _ (x y : ℤ) (held : Holds small x y) where
    pub holds-in-larger : Holds large x y
    holds-in-larger = record { column = in-covering (columns large) (columns small) x inside-columns held.column; row = in-covering (rows large) (rows small) y inside-rows held.row }

    pub column-offsets-add : nat_abs (x -ℤ large.left) ≡ nat_abs (small.left -ℤ large.left) + nat_abs (x -ℤ small.left)
    column-offsets-add = offsets-add small.left large.left x inside-left held.column.from

    pub row-offsets-add : nat_abs (y -ℤ large.top) ≡ nat_abs (small.top -ℤ large.top) + nat_abs (y -ℤ small.top)
    row-offsets-add = offsets-add small.top large.top y inside-top held.row.from
