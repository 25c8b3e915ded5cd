-- `epf_vectors::weights` meets its contract. Assumes nothing.
use mathlib.Core.Path.{ap, ◌∙◌}
use lib.Ieee.{binary32, add, mul, lt, of_bits}
use lib.Lanes.{zip2, sel_l}
use lib.ListN.{replicate}
use mir.Syntax.{w32}
use Rattle.std.proofs.lemmas.Simd.{tops_compared}
use Rattle.epf_vectors.proofs.Lanes.{lanes-weigh, lanes-bounded}
use Rattle.epf_vectors.proofs.weights.Goals as goal

pub returns-clause-weighed : goal.returns-clause-weighed
returns-clause-weighed c =
    let zeros = replicate 4 (of_bits binary32 0) in
    let x = zip2 (add binary32) (replicate 4 (of_bits binary32 0x3f80_0000)) (zip2 (mul binary32) c.args.distances c.args.slopes) in
    ap (λ ms. sel_l ms x zeros) (tops_compared w32 lt zeros x)
    ∙ lanes-weigh 4 c.args.distances c.args.slopes c.fits-distances.0 c.fits-slopes.0

pub returns-clause-bounded : goal.returns-clause-bounded
returns-clause-bounded c k l =
    rw (returns-clause-weighed c) (lanes-bounded 4 c.args.distances c.args.slopes c.fits-distances.0 c.fits-slopes.0 k l)
