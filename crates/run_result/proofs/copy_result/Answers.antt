-- `run_result::copy_result` meets its contract. Assumes nothing.
use Rattle.refusals.proofs.Answered.{outcome_ok}
use Rattle.refusals.proofs.Tables.{is_true}
use Rattle.planes.specs.Band.{planes_fit}
use Rattle.planes.proofs.Stored.{planes-few}
use Rattle.run_result.proofs.Part.{setup-part, source-length, target-length, setup-copied}
use Rattle.run_result.proofs.copy_result.Goals as goal

pub copy_planes-requires : goal.copy_planes-requires
copy_planes-requires c = let u = c.full_planes in
    let a = c.unwrap-l in
    let p = c.part_of-part in record {
      layout_fits = setup-part c.args.s.now c.requires.0 u.result u.ensures a.result (outcome_ok c.layout_of.result _ _ a.result c.layout_of.ensures a.ensures) p.result p.ensures;
      few_planes = (planes-few c.args.s.now.planes (is_true (planes_fit c.args.s.now.planes) c.requires.0.planes)).1;
      lengths = (
        source-length c.args.s.now c.requires.0 u.result u.ensures a.result (outcome_ok c.layout_of.result _ _ a.result c.layout_of.ensures a.ensures) p.result p.ensures _ c.requires.1,
        target-length c.args.s.now c.requires.0 u.result u.ensures a.result (outcome_ok c.layout_of.result _ _ a.result c.layout_of.ensures a.ensures) p.result p.ensures _ c.requires.2,
      );
    }

pub returns : goal.returns
returns c = let u = c.full_planes in
    let a = c.unwrap-l in
    let p = c.part_of-part in
    setup-copied c.args.s.now c.requires.0 u.result u.ensures a.result (outcome_ok c.layout_of.result _ _ a.result c.layout_of.ensures a.ensures) p.result p.ensures _ _ _ c.requires.2 c.copy_planes.ensures
