-- `epf_window::load_planes` meets its contract. The invariant: c planes are written. Assumes nothing.
use mathlib.Core.Path.{◌≡◌}
use Prim.Native.Nat.{◌≤◌}
use Rattle.epf_window.specs.Window.{window_filled}
use Rattle.epf_window.proofs.load_planes.Given as goal

abbrev pub invariant-loop-c : goal.invariant-loop-c
invariant-loop-c l = (l.c ≤ l.n) × (l.win ≡ window_filled l.l l.c l.src l.part.x l.part.y l.part.top l.part.rows l.part.cols l.initial.win)
