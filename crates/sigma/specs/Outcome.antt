-- The outcome of `block_sigmas`: its number, and the sigmas after the call (Specification 7.9).
use Rattle.std.specs.Prelude.{Bool, cond, ◌&&◌, List, ℕ, eqb, length, Float}
use Rattle.refusals.specs.Flags.{flag_set}
use Rattle.frame.specs.declared.Frame.{Frame}
use Rattle.sigma_groups.specs.declared.blocks.Blocks.{Blocks}
use Rattle.sigma_groups.specs.Outcome.{sigma_number}
use Rattle.sigma.specs.Sigma.{block_sigmas}

pub record SigmasOutcome : Type 0 where
  pub number : ℕ
  pub sigmas : List Float

-- accepted with the EPF on, the sigmas are the block sigmas of the filter region; otherwise they stay
abbrev pub left_in : ℕ → Bool → List Float → List Float → List Float
left_in number on defined lent = cond (eqb number 0 && on) defined lent

abbrev pub sigmas_outcome : ℕ → Frame → Blocks → List ℕ → List Float → Float → List Float → SigmasOutcome
sigmas_outcome on f b t grids modular lent =
    record {
      number = sigma_number on f b t grids (length lent);
      sigmas = left_in (sigma_number on f b t grids (length lent)) (flag_set on) (block_sigmas f b t grids modular) lent;
    }
