-- `frame::SoundFrame::sizes` meets its contract. Assumes nothing.
use Rattle.frame.specs.Sizes.{sizes_of}
use Rattle.frame.proofs.SoundFrame.sizes.Goals as goal

pub returns : goal.returns
unfolding sizes_of
returns c =
    rw (
      c.groups_along-groups_per_column.ensures.groups,
      c.groups_along-groups_per_row.ensures.groups,
      c.dim-dim.ensures.dim,
      c.shift-shift.ensures,
      c.sample_side-sample_height.ensures,
      c.sample_side-sample_width.ensures,
    )
