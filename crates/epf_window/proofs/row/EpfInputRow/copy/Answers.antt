-- `epf_window::row::EpfInputRow::copy` meets its contract. Mirrored left of the row, copied inside it, mirrored right of it. Assumes nothing.
use mathlib.Core.Path.{refl, ap, ◌∙◌}
use native.Mathlib.Omega.{arith}
use lib.ListN.{length}
use Rattle.planes.proofs.Fill.{length-fill}
use Rattle.planes.proofs.Copy.{copied-run}
use Rattle.epf_window.specs.Window.{row_sample}
use Rattle.epf_window.proofs.Window.{row_loaded}
use Rattle.epf_window.proofs.row.EpfInputRow.copy.Goals as goal

pub returns : goal.returns
returns c =
    row_loaded _ c.args.self.place c.args.x c.args.self.width _ _ _ _ c.args.at c.saturating_sub-low.result c.min-high.result c.args.cols _ (omega arith) (omega arith) (omega arith) (omega arith) refl
    c.copy_mirrored.ensures (c.copy_run.ensures ∙ copied-run _ _ _ _ _ (omega (arith, ap length c.copy_mirrored.ensures, length-fill c.args.win.now c.args.at c.saturating_sub-low.result (row_sample c.args.self.plane.now c.args.self.place c.args.x c.args.self.width))) (omega arith)) c.copy_mirrored-2.ensures
