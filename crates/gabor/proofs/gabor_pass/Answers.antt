-- `gabor::gabor_pass` meets its contract: the refusal of a layout. Assumes nothing.
use Rattle.gabor.proofs.Fits.{outcome_placed}
use Rattle.gabor.proofs.gabor_pass.Goals as goal

pub returns-in_err-l : goal.returns-in_err-l
returns-in_err-l c = outcome_placed _ _ _ _ _ _ _ _ _ _ _ c.in_err-l.ensures.0 c.from_residual.ensures.1
