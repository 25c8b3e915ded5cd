-- `loupe::check_groups` meets its contract: one block is within the limits, and with the EPF off neither sigmas nor blocks are asked for.
-- Assumes nothing.
use mathlib.Core.Path.{◌≡◌, refl, ◌∙◌}
use mathlib.Core.Bool.{Bool, true, false}
use mathlib.Core.List.{List}
use Prim.Native.Nat.{ℕ}
use lib.Ieee.{Float}
use Rattle.refusals.specs.Checks.{first_of}
use Rattle.frame.specs.declared.Frame.{Frame}
use Rattle.sigma_groups.specs.declared.blocks.Blocks.{Blocks}
use Rattle.sigma_groups.specs.Measures.{bad_blocks}
use Rattle.sigma_groups.specs.Outcome.{table_read, sigma_number}
use Rattle.loupe.specs.Pieces.{groups_checks}
use Rattle.loupe.proofs.check_groups.Goals as goal

abbrev one : Blocks
one = record { left = 0; top = 0; width = 1; height = 1 }

one-alone : (f : Frame) (t : List ℕ) (grids : List Float) → sigma_number 0 f one t grids 0 ≡ first_of (groups_checks f t grids)
unfolding bad_blocks
one-alone f t grids = go (table_read f t) refl
  where
    go : (b : Bool) → table_read f t ≡ b → sigma_number 0 f one t grids 0 ≡ first_of (groups_checks f t grids)
    go true e = rw e
    go false e = rw e

pub returns : goal.returns
returns c =
    let a = c.args in
    c.check.ensures ∙ rw c.one_block.ensures (one-alone a.frame a.table.now a.grids.now)
