-- `sigma_groups::blocks::SoundBlocks::new` meets its contract. Assumes nothing.
use mathlib.Core.Path.{◌≡◌, sym, ◌∙◌}
use mathlib.Core.Bool.{false}
use Rattle.sigma_groups.specs.Measures.{bad_blocks}
use Rattle.sigma_groups.proofs.BlocksFit.{fits-blocks}
use Rattle.sigma_groups.proofs.blocks.SoundBlocks.new.Goals as goal

pub invariant_of-result : goal.invariant_of-result
invariant_of-result c =
    let within : bad_blocks c.args.blocks ≡ false = sym c.bad_blocks.ensures ∙ c.if-bad_blocks.false in
    record { within = within; fits = fits-blocks c.args.blocks within }
