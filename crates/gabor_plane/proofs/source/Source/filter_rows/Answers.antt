-- `gabor_plane::source::Source::filter_rows` meets its contract. Assumes nothing.
use Rattle.std.proofs.Common.{◌≡◌, ◌+◌, refl, ◌∙◌, arith}
use native.Mathlib.Nat.{add-mul}
use Rattle.planes.specs.Rect.{rows_fill}
use Rattle.gabor_plane.specs.Plane.{region_rows}
use Rattle.gabor_plane.proofs.PairLaws.{rows_then}
use Rattle.gabor_plane.proofs.source.Source.filter_rows.Goals as goal

pub loop-i-init : goal.loop-i-init
unfolding rows_fill
loop-i-init c = (omega arith, omega arith, refl, refl)

pub loop-i-preserved : goal.loop-i-preserved
unfolding region_rows
loop-i-preserved c =
    let inv = c.loop-i.invariant in (
      omega (arith, c.filter_next-m.ensures.result_nonzero.1),
      omega (arith, add-mul c.loop-i.i c.filter_next-m.result c.args.self.now.region.stride),
      c.filter_next-m.auto.dst ∙ inv.2,
      rows_then _ _ _ _ _ _ _ _ _ _ _ inv.3 inv.1
          (λ j x. let z : c.args.from + c.loop-i.i + j ≡ c.args.from + (c.loop-i.i + j) = omega arith in rw z) c.filter_next-m.ensures.dst_after,
    )
