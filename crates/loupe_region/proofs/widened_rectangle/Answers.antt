-- `loupe_region::widened_rectangle` meets its contract. Assumes nothing.
use mathlib.Core.Path.{◌≡◌, sym, ap, ◌∙◌}
use mathlib.Core.Bool.{true, false}
use Prim.Native.Nat.{ℕ}
use borrow.Author.Rules.{rules}
use Rattle.refusals.specs.Refusals.{refusal_number as number, number_of}
use Rattle.refusals.specs.Checks.{first_of}
use Rattle.region_interval.proofs.Flags.{yes}
use Rattle.region.specs.Measures.{picture_fits, rectangle_fits}
use Rattle.loupe_region.specs.Widened.{widened}
use Rattle.run_passes.specs.Plan.{margin_number}
use Rattle.loupe_region.specs.Outcome.{bad_wanted, off_blocks, rectangle_checks}
use Rattle.loupe_region.proofs.Laws.{wanted-of}
use Rattle.loupe_region.proofs.Answers.{whole-outside, wanted-outside, wanted-bad, whole-off-blocks, regions-pass}
use Rattle.loupe_region.proofs.widened_rectangle.Goals as goal
use Rattle.loupe_region.proofs.widened_rectangle.Goals.{Else-not-picture_fits, Else-not-rectangle_fits, Else-bad_wanted, Else-off_blocks}

-- ---- what holds past each check

whole_in : (c : Else-not-picture_fits) → picture_fits c.args.s.whole ≡ true
whole_in c = sym c.picture_fits.ensures ∙ c.if-not-picture_fits.false

wanted-in : (c : Else-not-rectangle_fits) → rectangle_fits c.args.s.wanted ≡ true
wanted-in c = sym c.rectangle_fits.ensures ∙ c.if-not-rectangle_fits.false

wanted-good : (c : Else-bad_wanted) → bad_wanted c.args.s.whole c.args.s.wanted ≡ false
wanted-good c = sym c.bad_wanted.ensures ∙ c.if-bad_wanted.false

on-blocks : (c : Else-off_blocks) → off_blocks c.args.s ≡ false
on-blocks c = sym c.off_blocks.ensures ∙ c.if-off_blocks.false

-- ---- the answers

pub returns-then-not-picture_fits : goal.returns-then-not-picture_fits
returns-then-not-picture_fits c = (sym (whole-outside c.args.s (sym c.picture_fits.ensures ∙ c.if-not-picture_fits.true)), tt)

pub returns-then-not-rectangle_fits : goal.returns-then-not-rectangle_fits
returns-then-not-rectangle_fits c =
    let at = goal.at.returns-then-not-rectangle_fits c in
    (sym (wanted-outside c.args.s (whole_in at.Else-not-picture_fits) (sym c.rectangle_fits.ensures ∙ c.if-not-rectangle_fits.true)), tt)

pub returns-then-bad_wanted : goal.returns-then-bad_wanted
returns-then-bad_wanted c =
    let at = goal.at.returns-then-bad_wanted c in
    (sym (wanted-bad c.args.s (whole_in at.Else-not-picture_fits) (wanted-in at.Else-not-rectangle_fits) (sym c.bad_wanted.ensures ∙ c.if-bad_wanted.true)), tt)

pub returns-then-off_blocks : goal.returns-then-off_blocks
returns-then-off_blocks c =
    let at = goal.at.returns-then-off_blocks c in
    (sym (whole-off-blocks c.args.s (whole_in at.Else-not-picture_fits) (wanted-in at.Else-not-rectangle_fits) (wanted-good at.Else-bad_wanted) (sym c.off_blocks.ensures ∙ c.if-off_blocks.true)), tt)

-- past all of them, the number is the margin's
past : (c : Else-off_blocks) → first_of (rectangle_checks c.args.s) ≡ margin_number c.args.s.settings
past c = let at = goal.at.Else-off_blocks c in regions-pass c.args.s (whole_in at.Else-not-picture_fits) (wanted-in at.Else-not-rectangle_fits) (wanted-good at.Else-bad_wanted) (on-blocks c)

pub returns-in_err-margin : goal.returns-in_err-margin
returns-in_err-margin c =
    let r : number_of c.from_residual.result ≡ number c.in_err-margin.field-0.0 = search rules in
    (r ∙ c.in_err-margin.ensures.0 ∙ sym (past (goal.at.returns-in_err-margin c).Else-off_blocks), search rules)

pub widened-requires : goal.widened-requires
widened-requires c =
    let at = goal.at.widened-requires c in
    wanted-of c.args.s.whole c.args.s.wanted (yes (whole_in at.Else-not-picture_fits)) (yes (wanted-in at.Else-not-rectangle_fits)) (wanted-good at.Else-bad_wanted)

pub returns : goal.returns
returns c =
    let s = c.args.s in
    (c.in_ok-margin.ensures.0 ∙ sym (past (goal.at.returns c).Else-off_blocks), c.widened.ensures ∙ ap (λ (m : ℕ). widened m s.whole s.wanted) c.in_ok-margin.ensures.1)
