-- `epf_lanes::rows::store` meets its contract. Assumes nothing.
use mathlib.Core.Path.{refl, sym, ◌∙◌}
use native.Mathlib.Omega.{arith}
use lib.Seq.{take-length}
use Rattle.std.proofs.lemmas.Simd.{put_chunk_whole}
use Rattle.planes.proofs.Copy.{copied-whole}
use Rattle.epf_lanes.proofs.rows.store.Goals as goal

pub returns-then-m-eq4 : goal.returns-then-m-eq4
returns-then-m-eq4 c = rw (put_chunk_whole c.args.dst.now c.args.v (c.if-m-eq4.true ∙ sym c.fits-v.0), c.if-m-eq4.true, ← c.fits-v.0) (sym (take-length c.args.v))

pub returns : goal.returns
returns c = c.copy_run.ensures ∙ copied-whole c.args.dst.now c.args.v _ refl (omega (arith, c.fits-v.0, c.requires))
