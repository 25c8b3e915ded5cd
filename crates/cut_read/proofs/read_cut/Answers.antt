-- `cut_read::read_cut` meets its contract. Assumes nothing.
use mathlib.Core.Path.{◌≡◌, refl, sym, ap, ◌∙◌}
use mathlib.Core.Bool.{true, false, not}
use mathlib.Core.List.{List}
use Prim.Native.Nat.{ℕ, ◌+◌, ◌-◌, ◌*◌, ◌<◌}
use native.Mathlib.Omega.{arith}
use borrow.Author.Rules.{rules}
use borrow.Author.Tests.{eqb-true, eqb-false, not-true, not-false}
use lib.Dec.{eqb}
use lib.ListN.{length}
use Rattle.std.specs.Prelude.{Option, Some}
use Rattle.std.specs.Option.{option_eq}
use Rattle.refusals.specs.Numbers.{wrong_length}
use Rattle.refusals.specs.Checks.{first_of}
use Rattle.refusals.specs.Refusals.{refusal_number as number}
use Rattle.refusals.proofs.Outcomes.{number-nonzero}
use Rattle.cut_bytes.specs.Bytes.{number_at}
use Rattle.cut_file.specs.File.{sample_count, entry_at, body_at}
use Rattle.cut_file.specs.Read.{planes_in, count_in, region_in, samples_at, region_checks, read_checks}
use Rattle.cut_file.proofs.Laws.{counted, FileAccepted, file-accepted, count-fits, body-inside}
use Rattle.cut_read.specs.declared.Cut.{Cut}
use Rattle.cut_read.specs.Outcome.{cut_in, ReadOutcome, read_outcome}
use Rattle.cut_read.proofs.Numbers.{accepted-file, accepted-rectangle, region-refused, length-unlike, length-alike, read-refused, read-accepted}
use Rattle.cut_read.proofs.Samples.{read_all}
use Rattle.cut_read.proofs.read_cut.Goals as goal

-- what the slice's length is compared with
unlike : (o : Option ℕ) (n len : ℕ) → o ≡ Some n → true ≡ not (option_eq eqb o (Some len)) → len ≡ n → ⊥
unlike o n len m h p = let g : true ≡ not (eqb n len) = rw m at h in eqb-false n len (not-true (eqb n len) (sym g)) (sym p)

alike : (o : Option ℕ) (n len : ℕ) → o ≡ Some n → false ≡ not (option_eq eqb o (Some len)) → len ≡ n
alike o n len m h = let g : false ≡ not (eqb n len) = rw m at h in sym (eqb-true n len (not-false (eqb n len) (sym g)))

-- an accepted file with rectangle k, the count of the rectangle's samples, and where they start
record Found (s : List ℕ) (k : ℕ) (r : Cut) (o : Option ℕ) (at : ℕ) : Type 0 where
  number-good : first_of (region_checks s k) ≡ 0
  file-has : FileAccepted s
  k-less : k < count_in s
  cut-is : r ≡ cut_in s k
  samples-are : o ≡ Some (sample_count (planes_in s) (region_in s k))
  at-is : at ≡ body_at (planes_in s) (region_in s) (count_in s) k

found : (s : List ℕ) (k : ℕ) (r : Cut) (o : Option ℕ) (place at : ℕ) → (0 ≡ first_of (region_checks s k)) × (r ≡ cut_in s k)
    → o ≡ counted r.planes r.region → place ≡ entry_at k → at ≡ number_at s place 4 → Found s k r o at
found s k r o place at f m p e =
    let good : first_of (region_checks s k) ≡ 0 = sym f.0 in
    let less : k < count_in s = accepted-rectangle s k good in
    let has : FileAccepted s = file-accepted s (accepted-file s k good) in
    record {
      number-good = good;
      file-has = has;
      k-less = less;
      cut-is = f.1;
      samples-are = count-fits (planes_in s) (region_in s k) o (m ∙ ap (λ (c : Cut). counted c.planes c.region) f.1) (has.entry k less).region-fits;
      at-is = rw p at e ∙ (has.entry k less).offset-is;
    }

samples-same : (s : List ℕ) {at place n count : ℕ} → at ≡ place → n ≡ count → samples_at s at n ≡ samples_at s place count
samples-same s p q = rw (p, q)

-- a refused call leaves the slice as it was
kept : (s : List ℕ) (k n : ℕ) (slice : List ℕ) → first_of (read_checks s k (length slice)) ≡ n → (n ≡ 0 → ⊥) → slice ≡ (read_outcome s k slice).samples
kept s k n slice e z = sym (ap (λ (o : ReadOutcome). o.samples) (read-refused s k slice n e z))

pub returns-in_err-cut : goal.returns-in_err-cut
returns-in_err-cut c =
    let e = c.in_err-cut.field-0.0 in
    let n : number e ≡ first_of (region_checks c.args.file.now c.args.k) = c.in_err-cut.ensures.0 in
    let m = region-refused _ _ (length c.args.samples.now) (λ z. number-nonzero e (n ∙ z)) ∙ sym n in
    record { answer = (search rules ∙ sym m, search rules); stored = kept _ _ (number e) _ m (number-nonzero e) }

pub returns-then-ne : goal.returns-then-ne
returns-then-ne c =
    let f = found _ _ _ _ _ _ c.in_ok-cut.ensures c.sample_count.ensures refl refl in
    let m = length-unlike c.args.file.now c.args.k (length c.args.samples.now) f.number-good (unlike _ _ _ f.samples-are c.if-ne.ensures) in
    record { answer = (sym m, tt); stored = kept _ _ wrong_length _ m (λ p. omega arith) }

pub slice_bounds-read_u32_into-end : goal.slice_bounds-read_u32_into-end
slice_bounds-read_u32_into-end c =
    let f = found _ _ _ _ _ _ c.in_ok-cut.ensures c.sample_count.ensures c.entry_at.ensures c.u32_at-at.ensures in
    omega (arith, f.at-is, alike _ _ _ f.samples-are c.if-ne.ensures, body-inside _ _ f.file-has f.k-less)

pub returns : goal.returns
returns c =
    let f = found _ _ _ _ _ _ c.in_ok-cut.ensures c.sample_count.ensures c.entry_at.ensures c.u32_at-at.ensures in
    let n : length c.args.samples.now ≡ sample_count (planes_in c.args.file.now) (region_in c.args.file.now c.args.k) = alike _ _ _ f.samples-are c.if-ne.ensures in
    let part : c.u32_at-at.result + 4 * length c.args.samples.now - c.u32_at-at.result ≡ 4 * length c.args.samples.now = omega arith in
    let read = read_all _ _ _ _ _ part c.read_u32_into.auto.dst c.read_u32_into.ensures in
    let m = length-alike _ _ _ f.number-good n in
    record {
      answer = (sym m, f.cut-is);
      stored = read ∙ samples-same _ f.at-is n ∙ sym (ap (λ (o : ReadOutcome). o.samples) (read-accepted _ _ _ m));
    }
