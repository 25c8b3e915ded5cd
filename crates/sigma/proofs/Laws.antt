-- Laws of block sigmas for callers: their order, blocks with a present grid, and blocks with a missing grid. Assumes nothing.
use mathlib.Core.Path.{◌≡◌, ◌∙◌}
use mathlib.Core.List.{List}
use Prim.Native.Nat.{ℕ, ◌+◌, ◌*◌, ◌<◌}
use borrow.Author.Tests.{eq-eqb, ne_eqb}
use lib.Arith.{digits_lt, digits_div, digits_mod}
use lib.ListN.{length, get_or}
use lib.Ieee.{Float, nan}
use Rattle.planes.proofs.SetLaws.{length-tab, get_d-tab}
use Rattle.frame.specs.declared.Frame.{Frame}
use Rattle.frame.specs.Sizes.{inner_of}
use Rattle.sigma_groups.specs.declared.blocks.Blocks.{Blocks}
use Rattle.sigma_grids.specs.Table.{presence, grid_width, grid_start}
use Rattle.sigma_groups.specs.Measures.{blocks_across, blocks_down}
use Rattle.sigma_groups.specs.Held.{group_at}
use Rattle.sigma.specs.Sigma.{sigma_in, frame_sigma, block_sigma, block_sigmas}

module _ (f : Frame) (b : Blocks) (t : List ℕ) (grids : List Float) (modular : Float) where
  -- One sigma per block,
  pub length-sigmas : length (block_sigmas f b t grids modular) ≡ blocks_down b * blocks_across b
  unfolding block_sigmas
  length-sigmas = length-tab (blocks_down b * blocks_across b) _

  -- row of blocks by row.
  pub sigmas-at : (x y : ℕ) → x < blocks_across b → y < blocks_down b → get_or (block_sigmas f b t grids modular) (y * blocks_across b + x) nan ≡ block_sigma f b t grids modular x y
  unfolding block_sigmas
  sigmas-at x y p q = get_d-tab (blocks_down b * blocks_across b) _ (y * blocks_across b + x) (digits_lt q p) ∙ rw (digits_div y p, digits_mod y p)

  -- A block with a present grid has the sigma of its cell.
  pub sigma-present : (x y : ℕ) → presence t (group_at f (b.left + x) (b.top + y)) ≡ 1
      → block_sigma f b t grids modular x y
      ≡ get_or grids (grid_start t (group_at f (b.left + x) (b.top + y)) + (inner_of (b.top + y) f.group_size_shift * grid_width t (group_at f (b.left + x) (b.top + y)) + inner_of (b.left + x) f.group_size_shift)) nan
  unfolding block_sigma frame_sigma sigma_in
  sigma-present x y p = rw (eq-eqb (presence t (group_at f (b.left + x) (b.top + y))) 1 p)

  -- A block with a missing grid has `sigma_for_modular`.
  pub sigma-missing : (x y : ℕ) → (presence t (group_at f (b.left + x) (b.top + y)) ≡ 1 → ⊥) → block_sigma f b t grids modular x y ≡ modular
  unfolding block_sigma frame_sigma sigma_in
  sigma-missing x y p = rw (ne_eqb (presence t (group_at f (b.left + x) (b.top + y))) 1 p)
