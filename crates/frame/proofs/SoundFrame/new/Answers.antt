-- `frame::SoundFrame::new` meets its contract: no check applies to the frame. Assumes nothing.
use mathlib.Core.Path.{sym}
use Rattle.frame.proofs.Laws.{frame-fits, fitting-sound}
use Rattle.frame.proofs.SoundFrame.new.Goals as goal

pub invariant_of-result : goal.invariant_of-result
invariant_of-result c =
    let fits = frame-fits c.args.frame (sym c.in_ok-check.ensures) in
    record { sides = fits.0; settings = fits.1; sound = fitting-sound c.args.frame fits.0 fits.1 }
