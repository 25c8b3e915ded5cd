-- `cut_write::file_end`: each return has the number of the first check that applies. Assumes nothing.
use mathlib.Core.Path.{◌≡◌, sym, ap, ◌∙◌, subst}
use mathlib.Core.Bool.{true, false}
use borrow.Author.Rules.{rules}
use Prim.Native.Nat.{ℕ, ◌+◌, ◌*◌, ◌≤◌, ◌<◌}
use native.Mathlib.Omega.{arith}
use lib.Dec.{T}
use lib.ListN.{length, get_or, take}
use Rattle.std.proofs.lemmas.List.{length-take, get_or-take}
use Rattle.std.specs.Prelude.{Option, Some, None, Result, Err, ok_or}
use Rattle.refusals.specs.Refusals.{refusal_number as number}
use Rattle.refusals.specs.declared.Refusal.{Refusal}
use Rattle.refusals.specs.declared.Refusal.TheVariants.{OutOfLimits}
use Rattle.refusals.proofs.Tables.{is_true}
use Rattle.region.specs.Measures.{picture_fits}
use Rattle.region.specs.Regions.{zero_region}
use Rattle.cut_file.specs.declared.CutTable.{CutTable}
use Rattle.cut_file.specs.File.{body_at, file_length}
use Rattle.cut_file.specs.Read.{bad_count}
use Rattle.cut_file.specs.Write.{rectangle, rectangles_fit}
use Rattle.cut_file.proofs.Laws.{counted, Sampled, count-some, count-none, count-range, body-next}
use Rattle.cut_write.proofs.Tables.{one-misfits, one_more, count-refused, limits-refused, table-accepted}
use Rattle.cut_write.proofs.file_end.Goals as goal

-- after the loop every rectangle is within the limits, and `end` is the end of the file
record Ended (planes : ℕ) (t : CutTable) (end : ℕ) : Type 0 where
  all_fit : rectangles_fit (rectangle t) t.count ≡ true
  ends : end ≡ file_length planes (rectangle t) t.count

ended : (planes : ℕ) (t : CutTable) (i end : ℕ) → false ≡ bad_count t.count → length t.regions ≡ 64 → i ≤ length (take t.count t.regions) → length (take t.count t.regions) ≤ i
    → (end ≡ body_at planes (rectangle t) t.count i) × T (rectangles_fit (rectangle t) i) × (end ≤ 1030 + 288230376084602880 * i) → Ended planes t end
ended planes t i end b n l h v =
    let all : i ≡ t.count = omega (arith, (count-range t.count (sym b)).1, length-take t.count t.regions) in
    record {
      all_fit = is_true (rectangles_fit (rectangle t) t.count) (subst (λ (k : ℕ). T (rectangles_fit (rectangle t) k)) all v.1);
      ends = v.0 ∙ ap (body_at planes (rectangle t) t.count) all;
    }

-- rectangle i of those that the loop goes over: its samples
record Taken (planes : ℕ) (t : CutTable) (i n : ℕ) : Type 0 where
  below : i < t.count
  fits : T (picture_fits (rectangle t i))
  samples : Sampled planes (rectangle t i) n

below-count : (t : CutTable) (i : ℕ) → i < length (take t.count t.regions) → i < t.count
below-count t i l = omega (arith, length-take t.count t.regions)

-- the region of turn i, as the table has it
turn : (planes : ℕ) (t : CutTable) (i : ℕ) (o : Option ℕ) → i < length (take t.count t.regions) → o ≡ counted planes (get_or (take t.count t.regions) i zero_region) → o ≡ counted planes (rectangle t i)
turn planes t i o l m = m ∙ ap (counted planes) (get_or-take t.count t.regions i zero_region (below-count t i l))

taken : (planes : ℕ) (t : CutTable) (i n : ℕ) (o : Option ℕ) → i < length (take t.count t.regions) → o ≡ counted planes (get_or (take t.count t.regions) i zero_region) → o ≡ Some n → Taken planes t i n
taken planes t i n o l m e =
    let k = count-some planes (rectangle t i) o (turn planes t i o l m) n e in
    record { below = below-count t i l; fits = k.0; samples = k.1 }

refused : (e : Refusal) (o : Option ℕ) → ◌≡◌ {A = Result ℕ Refusal} (Err e) (ok_or o OutOfLimits) → ◌≡◌ {A = Option ℕ} o None → number e ≡ 4
refused e o v m = let f : ◌≡◌ {A = Result ℕ Refusal} (Err e) (Err OutOfLimits) = rw m at v in let g : e ≡ OutOfLimits = cc in rw g

pub returns-then-bad_count : goal.returns-then-bad_count
returns-then-bad_count c = (sym (count-refused _ (sym c.if-bad_count.ensures)), tt)

pub loop-r-init : goal.loop-r-init
unfolding body_at rectangles_fit
loop-r-init c = (c.entry_at-end.ensures, tt, omega (arith, c.entry_at-end.ensures, (count-range c.args.table.count (sym c.if-bad_count.ensures)).1))

pub returns-in_err-end : goal.returns-in_err-end
returns-in_err-end c =
    let t : CutTable = c.args.table in
    let e = c.in_err-end.field-0.0 in
    let misfit = count-none c.args.planes (rectangle t c.loop-r.r-index) _ (turn c.args.planes t _ _ c.loop-r-test.true c.sample_count.ensures) c.in_err-end.ensures.ok_part in
    let n : number e ≡ 4 = refused e _ c.in_err-end.ensures.value c.in_err-end.ensures.ok_part in
    let m = limits-refused t (sym c.if-bad_count.ensures) (one-misfits _ _ _ (below-count t _ c.loop-r-test.true) misfit) in
    (search rules ∙ n ∙ sym m, search rules)

pub overflow_mul-end : goal.overflow_mul-end
overflow_mul-end c = omega (arith, (taken c.args.planes c.args.table _ _ _ c.loop-r-test.true c.sample_count.ensures c.in_ok-end.ensures.ok_part).samples.le)

pub overflow_add-end : goal.overflow_add-end
overflow_add-end c =
    let k = taken c.args.planes c.args.table _ _ _ c.loop-r-test.true c.sample_count.ensures c.in_ok-end.ensures.ok_part in
    omega (arith, k.samples.le, k.below, (count-range c.args.table.count (sym c.if-bad_count.ensures)).1, c.loop-r.invariant.2)

pub loop-r-preserved : goal.loop-r-preserved
loop-r-preserved c =
    let t : CutTable = c.args.table in
    let k = taken c.args.planes t _ _ _ c.loop-r-test.true c.sample_count.ensures c.in_ok-end.ensures.ok_part in
    let v = c.loop-r.invariant in (
      omega (arith, k.samples.are, v.0, body-next c.args.planes (rectangle t) t.count c.loop-r.r-index),
      one_more (rectangle t) c.loop-r.r-index v.1 (is_true (picture_fits (rectangle t c.loop-r.r-index)) k.fits),
      omega (arith, k.samples.le, v.2),
    )

pub returns : goal.returns
returns c =
    let d = ended c.args.planes c.args.table _ _ c.if-bad_count.ensures (search rules) c.loop-r.auto.r-index-end c.loop-r-test.false c.loop-r.invariant in
    (sym (table-accepted _ (sym c.if-bad_count.ensures) d.all_fit), d.ends)
