-- The number of the first check that applies, from the tests in order, where the check of the code does not find it alone. Assumes nothing.
use mathlib.Core.Path.{◌≡◌}
use mathlib.Core.Bool.{Bool, true, false, not, ◌&&◌}
use mathlib.Core.List.{List}
use Prim.Native.Nat.{ℕ}
use lib.Dec.{eqb}
use lib.Ieee.{Float}
use Rattle.refusals.specs.Numbers.{accepted, out_of_limits, wrong_length, block_not_held, out_of_range}
use Rattle.refusals.specs.Flags.{flag_fits, flag_set}
use Rattle.frame.specs.declared.Frame.{Frame}
use Rattle.sigma_groups.specs.declared.blocks.Blocks.{Blocks}
use Rattle.sigma_grids.specs.Table.{bad_grid, bad_presence}
use Rattle.frame.specs.Outcome.{bad_sides, bad_settings}
use Rattle.sigma_groups.specs.Outcome.{table_fits, some_group, grids_fit, sigma_count, sigma_number}
use Rattle.sigma_groups.specs.Measures.{bad_blocks}
use Rattle.sigma_groups.specs.Held.{some_not_held}

module _ (on : ℕ) (f : Frame) (b : Blocks) (t : List ℕ) (grids : List Float) (n : ℕ) where
  -- the number of sigmas is checked only if the flag is in range
  abbrev pub bad_count : Bool
  bad_count = flag_fits on && not (eqb n (sigma_count (flag_set on) b))

  module _ (s : bad_sides f ≡ false) (k : bad_blocks b ≡ false) (q : bad_settings f ≡ false) (l : table_fits f t ≡ true) where
    pub grid-out : some_group f (bad_grid t) ≡ true → out_of_limits ≡ sigma_number on f b t grids n
    grid-out g = rw (s, k, q, l, g)

    module _ (g : some_group f (bad_grid t) ≡ false) where
      pub grids-wrong : (not (some_group f (bad_presence t)) && not (grids_fit f t grids)) ≡ true → wrong_length ≡ sigma_number on f b t grids n
      grids-wrong w = rw (s, k, q, l, g, w)

      module _ (w : (not (some_group f (bad_presence t)) && not (grids_fit f t grids)) ≡ false) (c : bad_count ≡ false) where
        pub block_out : (flag_set on && some_not_held f b t) ≡ true → block_not_held ≡ sigma_number on f b t grids n
        block_out h = rw (s, k, q, l, g, w, c, h)

        module _ (h : (flag_set on && some_not_held f b t) ≡ false) (p : some_group f (bad_presence t) ≡ false) where
          pub flag-out : flag_fits on ≡ false → out_of_range ≡ sigma_number on f b t grids n
          flag-out o = rw (s, k, q, l, g, w, c, h, p, o)

          pub none_out : flag_fits on ≡ true → accepted ≡ sigma_number on f b t grids n
          none_out o = rw (s, k, q, l, g, w, c, h, p, o)
