-- `epf_vectors::differences` meets its contract. Assumes nothing.
use mathlib.Core.Path.{ap, ◌∙◌}
use lib.Ieee.{binary32, sub, lt, of_bits}
use lib.Lanes.{zip2, sel_l}
use lib.ListN.{replicate}
use mir.Syntax.{w32}
use Rattle.std.proofs.lemmas.Simd.{tops_compared}
use Rattle.epf_vectors.proofs.Lanes.{lanes-differ}
use Rattle.epf_vectors.proofs.differences.Goals as goal

pub returns : goal.returns
returns c =
    let x = c.args.x in
    let y = c.args.y in
    let d = zip2 (sub binary32) x y in
    let zeros = replicate 4 (of_bits binary32 0) in
    ap (λ ms. zip2 (sub binary32) (sel_l ms zeros d) (sel_l ms d zeros)) (tops_compared w32 lt d zeros)
    ∙ lanes-differ 4 x y c.fits-x.0 c.fits-y.0
