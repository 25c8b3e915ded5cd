-- `epf_window::row::EpfInputRow::copy_mirrored` meets its contract. The invariant: j samples of n are written. Assumes nothing.
use mathlib.Core.Path.{◌≡◌}
use Rattle.planes.specs.Fill.{fill}
use Rattle.epf_window.specs.Window.{row_sample}
use Rattle.epf_window.proofs.row.EpfInputRow.copy_mirrored.Given as goal

abbrev pub invariant-loop-j : goal.invariant-loop-j
invariant-loop-j l = l.win ≡ fill l.initial.win l.at l.j (row_sample l.self.plane.now l.self.place l.x l.self.width)
