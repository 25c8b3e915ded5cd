-- `epf_window::load_plane` meets its contract. The invariant: i rows are written. Assumes nothing.
use mathlib.Core.Path.{◌≡◌}
use Prim.Native.Nat.{◌+◌, ◌≤◌}
use Rattle.planes.specs.Rect.{rows_fill}
use Rattle.epf_window.specs.Window.{window_sample}
use Rattle.epf_window.proofs.load_plane.Given as goal

abbrev pub invariant-loop-i : goal.invariant-loop-i
invariant-loop-i l = (l.i ≤ l.rows) × (l.win ≡ rows_fill l.initial.win l.at 72 l.part.cols l.i (λ k j. window_sample l.l l.src l.part.x l.part.y l.c j (l.part.top + k)))
