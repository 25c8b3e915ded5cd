-- `cut_write::cut_length`: each return has the number of the first check that applies. Assumes nothing.
use mathlib.Core.Path.{◌≡◌, sym, ◌∙◌}
use borrow.Author.Rules.{rules}
use native.Mathlib.Omega.{arith}
use Rattle.refusals.specs.Checks.{first_of}
use Rattle.refusals.specs.Refusals.{refusal_number as number}
use Rattle.refusals.proofs.Outcomes.{number-nonzero}
use Rattle.cut_file.specs.Write.{table_checks}
use Rattle.cut_write.proofs.Tables.{planes-good, planes-bad, length-table, length-planes, length-long, length-accepted}
use Rattle.cut_write.proofs.cut_length.Goals as goal

pub returns-in_err-needed : goal.returns-in_err-needed
returns-in_err-needed c =
    let e = c.in_err-needed.field-0.0 in
    let n : number e ≡ first_of (table_checks c.args.table) = c.in_err-needed.ensures.0 in
    (search rules ∙ sym (length-table _ _ (number e) (sym n) (number-nonzero e)), search rules)

pub returns-in_err-check_planes : goal.returns-in_err-check_planes
returns-in_err-check_planes c =
    let e = c.in_err-check_planes.field-0.0 in
    let bad = planes-bad _ e c.in_err-check_planes.ensures in
    (search rules ∙ bad.1 ∙ sym (length-planes _ _ (sym c.in_ok-needed.ensures.0) bad.0), search rules)

pub returns-then-needed-gt-MAX_FILE : goal.returns-then-needed-gt-MAX_FILE
returns-then-needed-gt-MAX_FILE c =
    let n = c.in_ok-needed.ensures in
    (sym (length-long _ _ (sym n.0) (planes-good _ c.in_ok-check_planes.ensures) (omega (arith, n.1, c.if-needed-gt-MAX_FILE.true))), tt)

pub returns : goal.returns
returns c =
    let n = c.in_ok-needed.ensures in
    (sym (length-accepted _ _ (sym n.0) (planes-good _ c.in_ok-check_planes.ensures) (omega (arith, n.1, c.if-needed-gt-MAX_FILE.false))), n.1)
