-- `run_start::check_picture` meets its contract. Assumes nothing.
use mathlib.Core.Path.{◌∙◌}
use Rattle.run_start.specs.Pieces.{number_of}
use Rattle.run_start.proofs.check_picture.Goals as goal

pub returns : goal.returns
unfolding number_of
returns c = c.lowest-2.ensures ∙ rw (← c.check_placed-place.ensures, ← c.check_setup-own.ensures, ← c.check_groups-groups.ensures, ← c.lowest.ensures)
