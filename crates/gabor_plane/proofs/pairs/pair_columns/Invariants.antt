-- `gabor_plane::pairs::pair_columns` meets its contract. The invariant: the first j samples of both rows are written to `dst`. Assumes nothing.
use Rattle.gabor_kernel.specs.Ends.{inner}
use Rattle.gabor_plane.specs.Rows.{inner_sample}
use Rattle.gabor_plane.proofs.PairLaws.{BothWritten}
use Rattle.gabor_plane.proofs.pairs.pair_columns.Given as goal

abbrev pub invariant-loop-j : goal.invariant-loop-j
invariant-loop-j l =
    BothWritten l.initial.dst l.o l.p l.n (inner_sample l.src l.upper.above l.upper.here l.upper.below l.k inner) (inner_sample l.src l.lower.above l.lower.here l.lower.below l.k inner) l.dst l.j
