use mathlib.Core.Path.{◌≡◌, sym, ◌∙◌}
use mathlib.Core.List.{List}
use Prim.Native.Nat.{ℕ, suc, ◌+◌, ◌-◌, ◌≤◌, ◌<◌}
use native.Mathlib.Omega.{arith}
use borrow.Author.Tests.{eq-eqb, ne_eqb}
use lib.ListN.{length}
use borrow.Author.Rules.{rules}
use Rattle.refusals.specs.Refusals.{refusal_number as number}
use Rattle.refusals.proofs.Outcomes.{number-nonzero}
use Rattle.refusals.specs.Numbers.{accepted, wrong_end}
use Rattle.refusals.specs.Checks.{first_of}
use Rattle.cut_file.specs.File.{sample_count, body_at}
use Rattle.cut_file.specs.Read.{planes_in, count_in, region_in, entry_checks}
use Rattle.cut_file.specs.Entry.{entry_number}
use Rattle.cut_file.proofs.Laws.{Sampled, sampled, entry-accepted, entries-first, body-next, planes-few}
use Rattle.cut_file.proofs.check_entries.Invariants.{Checked}
use Rattle.cut_file.proofs.check_entries.Goals as goal

module _ (s : List ℕ) (count i : ℕ) (more : i < count) where
  left_is : count - i ≡ suc (count - (i + 1))
  left_is = omega arith

  turn : entry_number s i ≡ 0 → first_of (entry_checks s i (count - i)) ≡ first_of (entry_checks s (i + 1) (count - (i + 1)))
  turn e = rw left_is (entries-first s i (count - (i + 1)) ∙ rw (eq-eqb (entry_number s i) 0 e))

  stopped : (entry_number s i ≡ 0 → ⊥) → first_of (entry_checks s i (count - i)) ≡ entry_number s i
  stopped h = rw left_is (entries-first s i (count - (i + 1)) ∙ rw (ne_eqb (entry_number s i) 0 h))

all_left : (s : List ℕ) (count : ℕ) → first_of (entry_checks s 0 count) ≡ first_of (entry_checks s 0 (count - 0))
all_left s count = let z : count - 0 ≡ count = omega arith in rw z

at-end : (s : List ℕ) (count i : ℕ) → count ≤ i → entry_checks s i (count - i) ≡ entry_checks s i 0
at-end s count i h = let z : count - i ≡ 0 = omega arith in rw z

wrong-end : (s : List ℕ) (count i : ℕ) → count ≤ i → (length s ≡ body_at (planes_in s) (region_in s) (count_in s) i → ⊥) → first_of (entry_checks s i (count - i)) ≡ wrong_end
unfolding entry_checks
wrong-end s count i h n = rw (at-end s count i h, ne_eqb (length s) (body_at (planes_in s) (region_in s) (count_in s) i) n)

right_end : (s : List ℕ) (count i : ℕ) → count ≤ i → length s ≡ body_at (planes_in s) (region_in s) (count_in s) i → first_of (entry_checks s i (count - i)) ≡ accepted
unfolding entry_checks
right_end s count i h n = rw (at-end s count i h, eq-eqb (length s) (body_at (planes_in s) (region_in s) (count_in s) i) n)

-- after the check of entry i, which has the number 0: its samples
counted : (s : List ℕ) (i n : ℕ) → (0 ≡ entry_number s i) × (n ≡ sample_count (planes_in s) (region_in s i)) → Sampled (planes_in s) (region_in s i) n
counted s i n e = sampled (planes_in s) (region_in s i) n (entry-accepted s i (sym e.0)).region-fits e.1

pub loop-i-init : goal.loop-i-init
unfolding body_at
loop-i-init c =
    record {
      i-le = omega arith;
      end_is = rw (← c.requires.1) c.entry_at-end.ensures;
      end-le = omega (arith, c.entry_at-end.ensures, c.requires.0);
      number_is = all_left c.args.file.now c.args.count;
    }

pub returns-in_err-end : goal.returns-in_err-end
returns-in_err-end c =
    let a = c.args in
    let e = c.in_err-end.field-0.0 in
    let n : number e ≡ entry_number a.file.now c.loop-i.i = c.in_err-end.ensures.0 in
    search rules ∙ n ∙ sym (c.loop-i.invariant.number_is ∙ stopped a.file.now a.count c.loop-i.i c.loop-i-test.true (λ z. number-nonzero e (n ∙ z)))

pub loop-i-preserved : goal.loop-i-preserved
loop-i-preserved c =
    let file : List ℕ = c.args.file.now in
    let inv : Checked file c.args.count c.loop-i.i c.loop-i.end = c.loop-i.invariant in
    let none : entry_number file c.loop-i.i ≡ 0 = sym c.in_ok-end.ensures.0 in
    let samples = counted _ _ _ c.in_ok-end.ensures in
    record {
      i-le = omega arith;
      end_is = omega (arith, inv.end_is, samples.are, body-next (planes_in file) (region_in file) (count_in file) c.loop-i.i);
      end-le = omega (arith, inv.end-le, samples.le, planes-few file);
      number_is = inv.number_is ∙ turn file c.args.count c.loop-i.i (omega arith) none;
    }

pub returns-then-file-end : goal.returns-then-file-end
returns-then-file-end c =
    let a = c.args in
    let inv = c.loop-i.invariant in
    sym (inv.number_is ∙ wrong-end a.file.now a.count c.loop-i.i (omega arith) (λ z. c.if-file-end.true (z ∙ sym inv.end_is)))

pub returns : goal.returns
returns c =
    let a = c.args in
    let inv = c.loop-i.invariant in
    sym (inv.number_is ∙ right_end a.file.now a.count c.loop-i.i (omega arith) (c.if-file-end.false ∙ inv.end_is))

pub overflow_mul-end : goal.overflow_mul-end
overflow_mul-end c =
    omega (arith, (counted _ _ _ c.in_ok-end.ensures).le, planes-few c.args.file.now)

pub overflow_add-end : goal.overflow_add-end
overflow_add-end c =
    omega (arith, (counted _ _ _ c.in_ok-end.ensures).le, planes-few c.args.file.now, c.loop-i.invariant.end-le, c.requires.0)
