-- `gabor_plane::source::Source::filter_row` meets its contract: in each of the four cases of a row its samples are the region's. Assumes nothing.
use Rattle.std.proofs.Common.{◌∙◌, ◌≤◌, arith}
use Rattle.planes.proofs.Fill.{fill-cong}
use Rattle.gabor_plane.proofs.RowLaws.{row_above, region-only, region-first, region-last, region-inner}
use Rattle.gabor_plane.proofs.source.Source.filter_row.Goals as goal

pub returns-then-self-eq1 : goal.returns-then-self-eq1
returns-then-self-eq1 c =
    c.filter_row.ensures ∙ fill-cong _ _ _ _ _ (λ x p. region-only _ _ _ _ _ _ p c.requires.0 c.requires.1 (omega arith))

pub returns-then-y-eq0 : goal.returns-then-y-eq0
returns-then-y-eq0 c =
    c.filter_row-then-y-eq0.ensures ∙ fill-cong _ _ _ _ _ (λ x p. region-first _ _ _ _ _ _ p c.requires.0 c.requires.1 _ (omega arith) (omega arith) (omega arith))

pub returns-then-y-self : goal.returns-then-y-self
returns-then-y-self c =
    let above : c.args.self.now.region.stride ≤ c.args.o = omega (arith, row_above c.args.y c.args.self.now.region.stride (omega arith)) in
    c.filter_row-then-y-self.ensures ∙ fill-cong _ _ _ _ _ (λ x p. region-last _ _ _ _ _ _ p c.requires.0 c.requires.1 _ (omega arith) (omega arith) (omega arith))

pub returns : goal.returns
returns c =
    let above : c.args.self.now.region.stride ≤ c.args.o = omega (arith, row_above c.args.y c.args.self.now.region.stride (omega arith)) in
    c.filter_row-2.ensures ∙ fill-cong _ _ _ _ _ (λ x p. region-inner _ _ _ _ _ _ p c.requires.0 c.requires.1 _ _ (omega arith) (omega arith) (omega arith) (omega arith))
