-- `epf_distances::field` meets its contract: step 2 sums single differences, steps 0 and 1 stored ones. Assumes nothing.
use mathlib.Core.Path.{◌≡◌, ◌∙◌}
use Prim.Native.Nat.{◌+◌}
use native.Mathlib.Omega.{arith}
use lib.ListN.{length}
use Rattle.planes.proofs.Rect.{rows-cong}
use Rattle.epf_distances.specs.Taps.{field_vectors}
use Rattle.epf_distances.specs.Fields.{first_place, dist_at}
use Rattle.epf_distances.proofs.TapLaws.{Near, pair-near, half_le}
use Rattle.epf_distances.proofs.Fields.{vectors-le}
use Rattle.epf_distances.proofs.Loops.{room-single, room-differences, room-field, room-before, vectors-is, summed-stored, summed-single}
use Rattle.epf_distances.proofs.field.Goals as goal

pub single_rows-requires : goal.single_rows-requires
single_rows-requires g c =
    let f = c.requires.0 in
    let near : Near c.pair-k.result = rw c.pair-k.ensures (pair-near g.row.STEP c.args.h) in
    let vectors : c.div_ceil-vectors.result ≡ field_vectors c.args.cols c.pair-k.result = vectors-is c.pair-k.result c.args.cols _ _ c.abs_diff.ensures c.div_ceil-vectors.ensures in (
      f.planes-pos,
      f.planes-le,
      f.stride-le,
      rw (c.apart_in-apart.ensures, vectors) (room-single c.args.v g.row.N c.args.rows c.args.cols (length c.args.src.now) f c.pair-k.result near),
      rw vectors (room-field c.args.v g.row.N c.args.rows c.args.cols (length c.args.src.now) f c.pair-k.result near c.args.h (omega (arith, c.requires.1, half_le g.row.STEP))),
    )

pub difference_planes-requires : goal.difference_planes-requires
difference_planes-requires g c =
    let f = c.requires.0 in
    let near : Near c.pair-k.result = rw c.pair-k.ensures (pair-near g.row.STEP c.args.h) in
    let vectors : c.div_ceil-vectors.result ≡ field_vectors c.args.cols c.pair-k.result = vectors-is c.pair-k.result c.args.cols _ _ c.abs_diff.ensures c.div_ceil-vectors.ensures in (
      omega (arith, f.planes-le),
      omega (arith, f.rows-le, near.up-le),
      omega (arith, vectors, vectors-le c.pair-k.result c.args.cols near f.cols-le),
      rw (c.apart_in-apart.ensures, vectors) (room-differences c.args.v g.row.N c.args.rows c.args.cols (length c.args.src.now) f c.pair-k.result near),
    )

pub returns-then-this-gt1-clause-fields : goal.returns-then-this-gt1-clause-fields
unfolding dist_at
returns-then-this-gt1-clause-fields g c =
    let vectors : c.div_ceil-vectors.result ≡ field_vectors c.args.cols c.pair-k.result = vectors-is c.pair-k.result c.args.cols _ _ c.abs_diff.ensures c.div_ceil-vectors.ensures in
    rw (← c.pair-k.ensures, ← c.apart_in-apart.ensures, ← vectors)
    (c.single_rows.ensures ∙ rows-cong c.args.fields.now _ 72 _ _ _ _ (λ r i l m. summed-single c.args.v.stride g.row.STEP _ _ _ c.if-this-gt1.true))

pub returns-clause-fields : goal.returns-clause-fields
unfolding dist_at
returns-clause-fields g c =
    let f = c.requires.0 in
    let near : Near c.pair-k.result = rw c.pair-k.ensures (pair-near g.row.STEP c.args.h) in
    let vectors : c.div_ceil-vectors.result ≡ field_vectors c.args.cols c.pair-k.result = vectors-is c.pair-k.result c.args.cols _ _ c.abs_diff.ensures c.div_ceil-vectors.ensures in
    rw (← c.pair-k.ensures, ← c.apart_in-apart.ensures, ← vectors)
    (c.sum_rows.ensures ∙ rows-cong c.args.fields.now _ 72 _ _ _ _ (λ r i l m. summed-stored g.row.STEP g.row.N c.args.scales.now c.args.src.now c.args.v (first_place c.args.v c.pair-k.result) c.apart_in-apart.result c.div_ceil-vectors.result (c.args.rows + c.pair-k.result.up) c.args.d.now _
    f.planes-le (omega (arith, f.rows-le, near.up-le)) (omega (arith, vectors, vectors-le c.pair-k.result c.args.cols near f.cols-le)) c.told-d
    (room-before c.args.v g.row.N c.args.rows c.args.cols (length c.args.src.now) f c.pair-k.result near) c.difference_planes.ensures r i l m))
