-- `cut_write::put_table`: one more entry is stored. Assumes nothing.
use mathlib.Core.Path.{◌≡◌, refl, ap, ◌∙◌}
use Prim.Native.Nat.{ℕ, ◌+◌, ◌*◌, ◌≤◌, ◌<◌}
use native.Mathlib.Omega.{arith}
use lib.ListN.{length, get_or, take}
use lib.Seq.{sets}
use Rattle.std.proofs.lemmas.List.{length-take, get_or-take}
use Rattle.std.specs.Prelude.{Option}
use Rattle.std.specs.Option.{UnwrapsOrElse}
use Rattle.refusals.proofs.Tables.{of-true}
use Rattle.region.specs.declared.Region.{Region}
use Rattle.region.specs.Regions.{zero_region}
use Rattle.cut_file.specs.declared.CutTable.{CutTable}
use Rattle.cut_file.specs.File.{body_at, entry_bytes, table_bytes}
use Rattle.cut_file.specs.Write.{rectangle, rectangles_fit}
use Rattle.cut_write.specs.Fits.{TableFits}
use Rattle.cut_file.proofs.Laws.{counted, Sampled, sampled, count-fits, body-next, body-grows}
use Rattle.cut_file.proofs.FileLaws.{body-at}
use Rattle.cut_write.proofs.Bytes.{table-parts}
use Rattle.cut_write.proofs.Tables.{each_fits}
use Rattle.cut_write.proofs.put_table.Goals as goal

-- rectangle i of those that the loop goes over
record Taken (planes : ℕ) (t : CutTable) (len i : ℕ) (r : Region) : Type 1 where
  below : i < t.count
  is : r ≡ rectangle t i
  samples : (o : Option ℕ) (n : ℕ) (P : ℕ → Type 0) → o ≡ counted planes r → UnwrapsOrElse o P n → Sampled planes (rectangle t i) n

taken : (planes : ℕ) (t : CutTable) (len i : ℕ) → TableFits planes t len → i < length (take t.count t.regions) → Taken planes t len i (get_or (take t.count t.regions) i zero_region)
taken planes t len i f l =
    let below : i < t.count = omega (arith, length-take t.count t.regions) in
    let is : get_or (take t.count t.regions) i zero_region ≡ rectangle t i = get_or-take t.count t.regions i zero_region below in
    let fits = each_fits (rectangle t) t.count i (of-true (rectangles_fit (rectangle t) t.count) f.rectangles-fit) below in
    record {
      below = below;
      is = is;
      samples = λ o n P m u. sampled planes (rectangle t i) n fits (rw (count-fits planes (rectangle t i) o (m ∙ ap (counted planes) is) fits) at u);
    }

-- the bodies so far end in the file
short : (planes : ℕ) (t : CutTable) (len i end : ℕ) → TableFits planes t len → i ≤ t.count → end ≡ body_at planes (rectangle t) t.count i → end ≤ 16777216
short planes t len i end f l e = omega (arith, e, body-grows planes (rectangle t) t.count i t.count l, f.length-is, f.length-le)

-- entry i is in the file
room : (planes : ℕ) (t : CutTable) (len i : ℕ) → TableFits planes t len → i < t.count → 22 + 16 * i ≤ len
room planes t len i f l = omega (arith, f.length-is, body-at planes (rectangle t) t.count t.count)

pub loop-i-init : goal.loop-i-init
unfolding body_at table_bytes
loop-i-init c = (c.entry_at-end.ensures, refl)

pub overflow_cast-end : goal.overflow_cast-end
overflow_cast-end c =
    let k = taken _ _ _ _ c.requires c.loop-i-test.true in
    omega (arith, short _ _ _ c.loop-i.i _ c.requires (omega (arith, k.below)) c.loop-i.invariant.0)

pub put_entry-requires : goal.put_entry-requires
put_entry-requires c =
    let k = taken _ _ _ _ c.requires c.loop-i-test.true in
    let r : 22 + 16 * c.loop-i.i ≤ length c.args.file.now = room _ _ _ c.loop-i.i c.requires k.below in
    omega (arith, c.entry_at.ensures, c.loop-i.auto.file, r)

pub overflow_mul-end : goal.overflow_mul-end
overflow_mul-end c =
    let k = taken _ _ _ _ c.requires c.loop-i-test.true in
    omega (arith, (k.samples _ _ _ c.sample_count.ensures c.unwrap_or_default.ensures).le, c.requires.few-planes)

pub overflow_add-end : goal.overflow_add-end
overflow_add-end c =
    let k = taken _ _ _ _ c.requires c.loop-i-test.true in
    omega (arith, (k.samples _ _ _ c.sample_count.ensures c.unwrap_or_default.ensures).le, c.requires.few-planes, short _ _ _ c.loop-i.i _ c.requires (omega (arith, k.below)) c.loop-i.invariant.0)

pub loop-i-preserved : goal.loop-i-preserved
loop-i-preserved c =
    let t : CutTable = c.args.table in
    let k = taken _ _ _ _ c.requires c.loop-i-test.true in
    let s = k.samples _ _ _ c.sample_count.ensures c.unwrap_or_default.ensures in
    let stored = c.put_entry.ensures ∙ ap (λ (q : Region). sets c.loop-i.file c.entry_at.result (entry_bytes c.loop-i.end q)) k.is in
    let v = c.loop-i.invariant in (
      omega (arith, s.are, v.0, body-next c.args.planes (rectangle t) t.count c.loop-i.i),
      table-parts c.args.planes (rectangle t) t.count c.args.file.now _ _ c.loop-i.i _ _ v.1 c.entry_at.ensures v.0 stored,
    )
