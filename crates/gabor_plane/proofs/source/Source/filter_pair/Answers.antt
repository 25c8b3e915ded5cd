-- `gabor_plane::source::Source::filter_pair` meets its contract: the samples of the two rows are the region's, and the four rows that they read lie within the slice. Assumes nothing.
use Rattle.std.proofs.Common.{◌+◌, ◌≤◌, arith}
use Rattle.gabor_plane.proofs.RowLaws.{row_room, row_above, row_below}
use Rattle.gabor_plane.proofs.PairLaws.{region_pair}
use Rattle.gabor_plane.proofs.source.Source.filter_pair.Goals as goal

pub filter_pair-requires-clause-lower_holds : goal.filter_pair-requires-clause-lower_holds
filter_pair-requires-clause-lower_holds c =
    let r = c.args.self.now.region in
    let y = c.args.y in
    let last = row_room r _ (y + 1 + 1) c.args.self.now.fits (omega arith) in
    let down = row_below y r.stride in
    let next = row_below (y + 1) r.stride in
    (omega (arith, last, down, next), omega (arith, last, down, next), omega (arith, last, down, next))

pub returns : goal.returns
returns c =
    let y = c.requires.y_inner in
    let up : c.args.self.now.region.stride ≤ c.args.o = omega (arith, row_above c.args.y c.args.self.now.region.stride y.0) in
    region_pair _ _ _ _ _ _ _ _ _ _ y.0 y.1 c.requires.o_value.0 (omega arith) (omega arith) (omega arith) c.filter_pair.ensures
