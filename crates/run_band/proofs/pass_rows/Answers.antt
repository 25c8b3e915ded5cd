-- `run_band::pass_rows` meets its contract. Assumes nothing.
use Rattle.run_passes.proofs.PlanLaws.{pass-gabor, pass-edge}
use Rattle.run_band.proofs.Rows.{gabor-rows, step-rows}
use Rattle.run_band.proofs.pass_rows.Goals as goal

pub returns-in-Gabor : goal.returns-in-Gabor
returns-in-Gabor c =
    let r = c.args.run.now in
    let at = pass-gabor r.setup.settings r.pass _ c.in-Gabor.ensures in
    gabor-rows r c.args.sigmas.now c.args.src.now c.args.dst.now c.args.from c.args.to c.requires at.0 _ at.1 _ _ c.gabor_pass.ensures

pub returns-in-Edge : goal.returns-in-Edge
returns-in-Edge c =
    let r = c.args.run.now in
    let at = pass-edge r.setup.settings r.pass _ c.in-Edge.ensures in
    step-rows r c.args.sigmas.now c.args.src.now c.args.dst.now c.args.from c.args.to c.requires at.0 _ at.1 _ _ c.epf_pass.ensures
