-- `cut_write::write_cut` meets its contract. Assumes nothing.
use mathlib.Core.Path.{◌≡◌, sym, ap, ◌∙◌}
use mathlib.Core.List.{List}
use Prim.Native.Nat.{ℕ, ◌+◌, ◌-◌, ◌*◌, ◌/◌, ◌≤◌}
use native.Mathlib.Omega.{arith}
use lib.ListN.{length}
use borrow.Author.Rules.{rules}
use Rattle.std.proofs.lemmas.List.{length-take, length-drop}
use lib.Seq.{sets, length-sets}
use Rattle.refusals.specs.Checks.{first_of}
use Rattle.refusals.specs.Refusals.{refusal_number as number, number_of}
use Rattle.refusals.proofs.Outcomes.{number-nonzero}
use Rattle.cut_bytes.specs.Bytes.{bytes_of, stored}
use Rattle.cut_bytes.proofs.Laws.{bytes_inside}
use Rattle.cut_file.specs.declared.CutTable.{CutTable}
use Rattle.cut_file.specs.File.{marker_of, entry_at, file_length, table_bytes}
use Rattle.cut_file.specs.Write.{rectangle, samples_before, table_checks}
use Rattle.cut_file.proofs.FileLaws.{body-at}
use Rattle.cut_write.proofs.Bytes.{file-parts, samples-put}
use Rattle.cut_write.proofs.Tables.{planes-good, planes-bad, table_fits_lem, write-table, write-long, write-planes, write-file, write-samples, write-passed, write-refused, write-accepted}
use Rattle.cut_write.proofs.write_cut.Goals as goal

-- both slices have the lengths that an accepted table needs
record Exact (planes : ℕ) (t : CutTable) (samples file : ℕ) : Type 0 where
  good : first_of (table_checks t) ≡ 0
  file-is : file ≡ file_length planes (rectangle t) t.count
  samples-are : samples ≡ samples_before planes (rectangle t) t.count
  whole : file ≡ entry_at t.count + 4 * samples

module _ (planes : ℕ) (t : CutTable) (len at : ℕ) (n : (0 ≡ first_of (table_checks t)) × (len ≡ file_length planes (rectangle t) t.count)) (a : at ≡ entry_at t.count) where
  bodies : len ≡ at + 4 * samples_before planes (rectangle t) t.count
  bodies = omega (arith, n.1, a, body-at planes (rectangle t) t.count t.count)

  exact : (samples file : ℕ) → file ≡ len → samples ≡ (len - at) / 4 → Exact planes t samples file
  exact samples file f s =
      let e : samples ≡ samples_before planes (rectangle t) t.count = omega (arith, s, bodies) in
      record { good = sym n.0; file-is = f ∙ n.1; samples-are = e; whole = omega (arith, f, e, bodies, a) }

-- the marker and the count are stored
record Headed (planes : ℕ) (file m u : List ℕ) (n : ℕ) : Type 0 where
  count-stored : u ≡ sets m 4 (bytes_of 2 n)
  kept : length u ≡ length file

headed : (planes : ℕ) (file m u : List ℕ) (n : ℕ) → 6 ≤ length file → m ≡ sets file 0 (marker_of planes) → u ≡ stored m 4 (bytes_of 2 n) → Headed planes file m u n
headed planes file m u n room p q =
    let marked : length m ≡ length file = ap length p ∙ length-sets file 0 (marker_of planes) in
    let e : u ≡ sets m 4 (bytes_of 2 n) = q ∙ bytes_inside m 4 2 n (omega (arith, marked)) in
    record { count-stored = e; kept = ap length e ∙ length-sets m 4 (bytes_of 2 n) ∙ marked }

-- then the table: the file keeps its length, and the samples fill it from the bodies on
record Tabled (planes : ℕ) (t : CutTable) (samples file m u w : List ℕ) (at : ℕ) : Type 0 where
  lengths : Exact planes t (length samples) (length file)
  head : Headed planes file m u t.count
  kept : length w ≡ length file
  rest : length w ≡ at + 4 * length samples

tabled : (planes : ℕ) (t : CutTable) (samples file m u w : List ℕ) (len at : ℕ) → (0 ≡ first_of (table_checks t)) × (len ≡ file_length planes (rectangle t) t.count) → at ≡ entry_at t.count
    → length file ≡ len → length samples ≡ (len - at) / 4 → m ≡ sets file 0 (marker_of planes) → u ≡ stored m 4 (bytes_of 2 t.count) → w ≡ sets u 6 (table_bytes planes (rectangle t) t.count t.count) → Tabled planes t samples file m u w at
tabled planes t samples file m u w len at n a f s p q r =
    let x : Exact planes t (length samples) (length file) = exact planes t len at n a _ _ f s in
    let h : Headed planes file m u t.count = headed planes file m u t.count (omega (arith, x.whole)) p q in
    let k : length w ≡ length file = ap length r ∙ length-sets u 6 (table_bytes planes (rectangle t) t.count t.count) ∙ h.kept in
    record { lengths = x; head = h; kept = k; rest = omega (arith, k, x.whole, a) }

pub returns-in_err-needed : goal.returns-in_err-needed
returns-in_err-needed c =
    let e = c.in_err-needed.field-0.0 in
    let r : number_of c.from_residual.result ≡ number e = search rules in
    rw r (write-refused _ _ _ _ (number e) (write-table _ _ _ _ (number e) (sym c.in_err-needed.ensures.0) (number-nonzero e)) (number-nonzero e))

pub returns-then-file-gt-MAX_FILE : goal.returns-then-file-gt-MAX_FILE
returns-then-file-gt-MAX_FILE c =
    write-refused _ _ _ _ 7 (write-long _ _ _ _ (sym c.in_ok-needed.ensures.0) c.if-file-gt-MAX_FILE.true) (λ e. omega arith)

pub returns-in_err-check_planes : goal.returns-in_err-check_planes
returns-in_err-check_planes c =
    let e = c.in_err-check_planes.field-0.0 in
    let r : number_of c.from_residual-in_err-check_planes.result ≡ number e = search rules in
    let bad = planes-bad _ e c.in_err-check_planes.ensures in
    rw (r, bad.1) (write-refused _ _ _ _ 9 (write-planes _ _ _ _ (sym c.in_ok-needed.ensures.0) (omega (arith, c.if-file-gt-MAX_FILE.false)) bad.0) (λ z. omega arith))

pub returns-then-file-needed : goal.returns-then-file-needed
returns-then-file-needed c =
    let n = c.in_ok-needed.ensures in
    write-refused _ _ _ _ 7 (write-file _ _ _ _ (sym n.0) (omega (arith, c.if-file-gt-MAX_FILE.false)) (planes-good _ c.in_ok-check_planes.ensures) (λ e. c.if-file-needed.true (e ∙ sym n.1))) (λ e. omega arith)

pub overflow_sub-needed : goal.overflow_sub-needed
overflow_sub-needed c = omega (arith, bodies _ _ _ _ c.in_ok-needed.ensures c.entry_at-bodies.ensures)

pub returns-then-samples-needed : goal.returns-then-samples-needed
returns-then-samples-needed c =
    let n = c.in_ok-needed.ensures in
    write-refused _ _ _ _ 7
    (write-samples _ _ _ _ (sym n.0) (omega (arith, c.if-file-gt-MAX_FILE.false)) (planes-good _ c.in_ok-check_planes.ensures) (λ e. c.if-samples-needed.true (omega (arith, e, bodies _ _ _ _ n c.entry_at-bodies.ensures))))
    (λ e. omega arith)

pub put_marker-requires : goal.put_marker-requires
put_marker-requires c = omega (arith, (exact _ _ _ _ c.in_ok-needed.ensures c.entry_at-bodies.ensures _ _ c.if-file-needed.false c.if-samples-needed.false).whole)

pub put_table-requires : goal.put_table-requires
put_table-requires c =
    let x = exact _ _ _ _ c.in_ok-needed.ensures c.entry_at-bodies.ensures _ _ c.if-file-needed.false c.if-samples-needed.false in
    let h = headed _ _ _ _ _ (omega (arith, x.whole)) c.put_marker.ensures c.put_u16.ensures in
    table_fits_lem _ _ _ x.good (planes-good _ c.in_ok-check_planes.ensures) (h.kept ∙ x.file-is) (omega (arith, h.kept, c.if-file-gt-MAX_FILE.false))

pub slice_bounds-write_u32_into-count : goal.slice_bounds-write_u32_into-count
slice_bounds-write_u32_into-count c =
    omega (arith, (tabled _ _ _ _ _ _ _ _ _ c.in_ok-needed.ensures c.entry_at-bodies.ensures c.if-file-needed.false c.if-samples-needed.false c.put_marker.ensures c.put_u16.ensures c.put_table.ensures).rest)

pub slice_bounds-write_u32_into-start : goal.slice_bounds-write_u32_into-start
slice_bounds-write_u32_into-start c =
    omega (arith, (tabled _ _ _ _ _ _ _ _ _ c.in_ok-needed.ensures c.entry_at-bodies.ensures c.if-file-needed.false c.if-samples-needed.false c.put_marker.ensures c.put_u16.ensures c.put_table.ensures).rest)

pub write_u32_into-requires : goal.write_u32_into-requires
write_u32_into-requires c =
    simp (length-take, length-drop) (omega (arith, (tabled _ _ _ _ _ _ _ _ _ c.in_ok-needed.ensures c.entry_at-bodies.ensures c.if-file-needed.false c.if-samples-needed.false c.put_marker.ensures c.put_u16.ensures c.put_table.ensures).rest))

pub returns : goal.returns
returns c =
    let d = tabled _ _ _ _ _ _ _ _ _ c.in_ok-needed.ensures c.entry_at-bodies.ensures c.if-file-needed.false c.if-samples-needed.false c.put_marker.ensures c.put_u16.ensures c.put_table.ensures in
    let left : length c.put_table.new.file - c.entry_at-bodies.result ≡ 4 * length c.args.samples.now = omega (arith, d.rest) in
    write-accepted _ _ _ _ _
    (write-passed _ _ _ _ d.lengths.good (omega (arith, c.if-file-gt-MAX_FILE.false)) (planes-good _ c.in_ok-check_planes.ensures) d.lengths.samples-are d.lengths.file-is)
    (file-parts _ _ _ _ _ _ _ _ _ _ d.lengths.whole c.put_marker.ensures d.head.count-stored c.put_table.ensures c.entry_at-bodies.ensures
    (samples-put _ _ _ _ _ c.write_u32_into.ensures left (omega (arith, d.rest))))
