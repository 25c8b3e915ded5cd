-- `gabor_plane::rows::inner_columns` meets its contract. The invariant: the first j samples are written to `dst`. Assumes nothing.
use Rattle.planes.proofs.Loop.{Written}
use Rattle.gabor_plane.specs.Rows.{inner_sample}
use Rattle.gabor_plane.proofs.rows.inner_columns.Given as goal

abbrev pub invariant-loop-j : goal.invariant-loop-j
invariant-loop-j g l =
    Written l.initial.dst l.o l.n (inner_sample l.src (g.R.Row.above l.row) (g.R.Row.here l.row) (g.R.Row.below l.row) l.k g.R.Row.stands) l.dst l.j
