-- Runs of blocks and the shares of their tiles. Assumes nothing.
use mathlib.Core.Path.{◌≡◌, ◌∙◌}
use mathlib.Core.Bool.{Bool, not}
use mathlib.Core.List.{List}
use Prim.Native.Nat.{ℕ, ◌+◌, ◌-◌, ◌*◌, ◌/◌, ◌<◌, ◌≤◌, min}
use native.Mathlib.Nat.{div-lt_iff_lt-mul, mul-le-mul, add-mul}
use native.Mathlib.Decide.{dec_lt}
use native.Mathlib.Omega.{arith}
use lib.ListN.{length, get_or, take, drop}
use lib.Ieee.{Float, nan}
use Rattle.std.proofs.Common.{Option, None, Some}
use Rattle.std.proofs.lemmas.List.{get_or-take, get_or-drop, length-take, length-drop}
use Rattle.std.specs.Option.{MatchOption}
use Rattle.std.specs.List.{HoldsAt, AllWithin}
use Rattle.std.specs.Int.{div_ceil}
use Rattle.frame.specs.Sizes.{divided_up}
use Rattle.frame.proofs.Laws.{div-ceil-is}
use Rattle.planes.specs.declared.Layout.{Layout}
use Rattle.epf_sizes.specs.Sizes.{lanes as tile_columns}
use Rattle.epf_step.specs.Steps.{copied}
use Rattle.epf_tiles.specs.declared.Pass.{Pass}
use Rattle.epf_tiles.specs.Blocks.{block_side, tile_blocks, block_columns}
use Rattle.epf_tiles.specs.Region.{share_of, block_copied, block_start, RunEnd}

pub share-is : (r k s : ℕ) → 0 < r → k ≡ div_ceil r tile_blocks → s ≡ div_ceil r k → s ≡ share_of r
share-is r k s pos ek es =
    let e : k ≡ divided_up r tile_blocks = ek ∙ div-ceil-is r tile_blocks (omega arith) in
    es ∙ rw e (div-ceil-is r (divided_up r tile_blocks) (omega arith))

-- at least one block, and no more than a tile or the run has
pub record ShareFits (r s : ℕ) : Type 0 where
  pub some : 0 < s
  pub within : s ≤ r
  pub small : s ≤ tile_blocks

-- r divided by k, rounded up
up-le : (r k t : ℕ) → 1 ≤ k → r ≤ t * k → divided_up r k ≤ t
up-le r k t one h = let w : divided_up r k < t + 1 = (div-lt_iff_lt-mul one).1 (omega (arith, add-mul t 1 k)) in omega (arith, w)

up-pos : (r k : ℕ) → 0 < r → 1 ≤ k → 0 < divided_up r k
up-pos r k pos one = go (dec_lt 0 (divided_up r k))
  where
    go : Dec (0 < divided_up r k) → 0 < divided_up r k
    go (yes h) = h
    go (no h) = let none : divided_up r k < 1 = omega arith in let few : r + (k - 1) < 1 * k = (div-lt_iff_lt-mul one).0 none in absurd (omega (arith, few))

pub share-fits : (r : ℕ) → 0 < r → ShareFits r (share_of r)
share-fits r pos =
    let one : 1 ≤ divided_up r tile_blocks = omega arith in
    let own : r ≤ r * divided_up r tile_blocks = omega (arith, mul-le-mul (le r) one) in
    record {
      some = up-pos r (divided_up r tile_blocks) pos one;
      within = up-le r (divided_up r tile_blocks) r one own;
      small = up-le r (divided_up r tile_blocks) tile_blocks one (omega arith);
    }
  where
    le : (a : ℕ) → a ≤ a
    le a = omega arith

-- the columns of a tile
pub record TileColumns (l : Layout) (b blocks cols : ℕ) : Type 0 where
  pub start : b * block_side ≡ block_start l b
  pub some : 0 < cols
  pub few : cols ≤ tile_columns
  pub across : b * block_side + cols ≤ l.width
  pub width : cols ≡ block_start l (b + blocks) - block_start l b

pub tile-columns : (l : Layout) (b to blocks cols : ℕ) → b < to → to ≤ block_columns l → blocks ≡ share_of (to - b) → cols ≡ min (l.width - b * block_side) (blocks * block_side) → TileColumns l b blocks cols
tile-columns l b to blocks cols lo hi e f =
    let g : ShareFits (to - b) blocks = rw e (share-fits (to - b) (omega arith)) in
    record {
      start = omega arith;
      some = omega (arith, g.some);
      few = omega (arith, g.small);
      across = omega arith;
      width = omega (arith, g.some);
    }

-- ---- a run

module _ (p : Pass) (sigmas : List Float) (y from first across : ℕ) (kind : Bool) (xs : List Float) (all : across ≡ block_columns p.layout) (start : first ≡ y / 8 * block_columns p.layout) (order : from ≤ across) (room : first + across ≤ length sigmas)
    (e : xs ≡ take (first + across - (first + from)) (drop (first + from) sigmas)) where
  abbrev limit : Float
  limit = p.settings.limit

  long : length xs ≡ across - from
  long = rw e (omega (arith, length-take (first + across - (first + from)) (drop (first + from) sigmas), length-drop (first + from) sigmas))

  sigma-at : (k : ℕ) → k < across - from → block_copied p sigmas y (from + k) ≡ copied (get_or xs k nan) limit
  sigma-at k h =
      let at : y / 8 * block_columns p.layout + (from + k) ≡ first + from + k = omega arith in
      rw (at, e, get_or-take (first + across - (first + from)) (drop (first + from) sigmas) k nan (omega arith), get_or-drop (first + from) sigmas k nan)

  -- a run that reaches the last block, or ends before
  pub run-ends : (r : Option ℕ) (end : ℕ)
      → MatchOption r (AllWithin (λ s. copied s limit ≡ kind) xs 0 (length xs)) (λ i. (i < length xs) × HoldsAt (λ s. copied s limit ≡ not kind) xs i × AllWithin (λ s. copied s limit ≡ kind) xs 0 i)
      → MatchOption r (end ≡ across) (λ i. end ≡ from + i) → RunEnd p sigmas y kind from end
  run-ends None end h m = record {
    order = omega arith;
    within = omega arith;
    alike = λ b lo hi. let z : from + (b - from) ≡ b = omega arith in rw z at (sigma-at (b - from) (omega arith)) ∙ h (b - from) nan (omega arith) (omega (arith, long));
    longest = λ k. absurd (omega arith);
  }
  run-ends (Some i) end h m = record {
    order = omega arith;
    within = omega (arith, long, h.0);
    alike = λ b lo hi. let z : from + (b - from) ≡ b = omega arith in rw z at (sigma-at (b - from) (omega (arith, long, h.0))) ∙ h.2 (b - from) nan (omega arith) (omega arith);
    longest = λ k. rw m (sigma-at i (omega (arith, long, h.0)) ∙ h.1 nan);
  }
