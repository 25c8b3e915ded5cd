-- `cut_read::cut_region` meets its contract. Assumes nothing.
use mathlib.Core.Path.{◌≡◌, sym, ◌∙◌}
use Prim.Native.Nat.{◌≤◌, ◌<◌}
use borrow.Author.Rules.{rules}
use Rattle.refusals.specs.Checks.{first_of}
use Rattle.refusals.specs.Refusals.{refusal_number as number}
use Rattle.refusals.proofs.Outcomes.{number-nonzero}
use Rattle.cut_file.specs.Read.{count_in, file_checks}
use Rattle.cut_read.proofs.Numbers.{file-refused, rectangle-missing, rectangle-there}
use Rattle.cut_read.proofs.cut_region.Goals as goal

pub returns-in_err-count : goal.returns-in_err-count
returns-in_err-count c =
    let e = c.in_err-count.field-0.0 in
    let n : number e ≡ first_of (file_checks c.args.file.now) = c.in_err-count.ensures.0 in
    (search rules ∙ n ∙ sym (file-refused _ _ (λ z. number-nonzero e (n ∙ z))), search rules)

pub returns-then-count-k : goal.returns-then-count-k
returns-then-count-k c =
    let past : count_in c.args.file.now ≤ c.args.k = rw c.in_ok-count.ensures.1 at c.if-count-k.true in
    (sym (rectangle-missing _ _ (sym c.in_ok-count.ensures.0) past), tt)

pub returns : goal.returns
returns c =
    let less : c.args.k < count_in c.args.file.now = rw c.in_ok-count.ensures.1 at c.if-count-k.false in
    (sym (rectangle-there _ _ (sym c.in_ok-count.ensures.0) less), (λ j. record { region = c.region_in.ensures j; planes = c.planes_in.ensures j }))
