-- `loupe::checked_place` meets its contract. Assumes nothing.
use mathlib.Core.Path.{◌≡◌, refl, sym, ◌∙◌}
use mathlib.Core.Bool.{Bool, true, false, true≢false, not, ◌&&◌}
use Prim.Native.Nat.{ℕ}
use borrow.Author.Tests.{eqb-true, eqb-false}
use lib.Dec.{eqb}
use lib.ListN.{length}
use Rattle.std.specs.Prelude.{Result, Ok, Err, is_ok}
use Rattle.refusals.specs.declared.Refusal.{Refusal}
use Rattle.refusals.specs.Refusals.{number_of}
use Rattle.refusals.proofs.Outcomes.{number-nonzero}
use Rattle.planes.specs.Band.{planes_fit}
use Rattle.loupe.specs.Outcome.{wanted_length}
use Rattle.loupe.proofs.Early.{in-limits, groups-in-limits, outside, off-blocks, wanted-picture, wrong-slice, early-accepted, early-unknown}
use Rattle.loupe.proofs.checked_place.Goals as goal
use Rattle.loupe.proofs.checked_place.Goals.{Else-is_refused, Else-is_refused-2, Else-is_refused-3, Else-is_refused-4, Else-wrong_slice}

same : {a k : ℕ} {b : Bool} → b ≡ eqb a k → b ≡ true → a ≡ k
same {a} {k} e t = eqb-true a k (sym e ∙ t)

differs : {a k : ℕ} {b : Bool} → b ≡ eqb a k → b ≡ false → a ≡ k → ⊥
differs {a} {k} e f = eqb-false a k (sym e ∙ f)

not_refused : {A : Type 0} (r : Result A Refusal) → is_ok r ≡ true → number_of r ≡ 0
not_refused (Ok a) e = refl
not_refused (Err x) e = absurd (true≢false (sym e))

was_refused : {A : Type 0} (r : Result A Refusal) → is_ok r ≡ false → number_of r ≡ 0 → ⊥
was_refused (Ok a) e = absurd (true≢false e)
was_refused (Err x) e = number-nonzero x

-- ---- what holds past each check

not-4 : (c : Else-is_refused) → number_of c.widened_rectangle-place.result ≡ 4 → ⊥
not-4 c = differs c.is_refused.ensures c.if-is_refused.false

groups-not-4 : (c : Else-is_refused-2) → number_of c.check_groups-groups.result ≡ 4 → ⊥
groups-not-4 c = differs c.is_refused-2.ensures c.if-is_refused-2.false

not-15 : (c : Else-is_refused-3) → number_of c.widened_rectangle-place.result ≡ 15 → ⊥
not-15 c = differs c.is_refused-3.ensures c.if-is_refused-3.false

not-6 : (c : Else-is_refused-4) → number_of c.widened_rectangle-place.result ≡ 6 → ⊥
not-6 c = differs c.is_refused-4.ensures c.if-is_refused-4.false

right-slice : (c : Else-wrong_slice) → (planes_fit c.args.s.planes && not (eqb (length c.args.out.now) (wanted_length c.args.s))) ≡ false
right-slice c = sym c.wrong_slice.ensures ∙ c.if-wrong_slice.false

-- ---- the answers

pub returns-then-is_refused : goal.returns-then-is_refused
returns-then-is_refused c =
    let a = c.args in
    let is = same c.is_refused.ensures c.if-is_refused.true in
    (is ∙ in-limits a.s a.frame a.table.now a.grids.now (length a.sigmas.now) (length a.out.now) (number_of c.widened_rectangle-place.result) c.widened_rectangle-place.ensures.0 is, c.widened_rectangle-place.ensures.1)

pub returns-then-is_refused-2 : goal.returns-then-is_refused-2
returns-then-is_refused-2 c =
    let a = c.args in
    let at = goal.at.returns-then-is_refused-2 c in
    (groups-in-limits a.s a.frame a.table.now a.grids.now (length a.sigmas.now) (length a.out.now) (number_of c.widened_rectangle-place.result) c.widened_rectangle-place.ensures.0 (not-4 at.Else-is_refused) (number_of c.check_groups-groups.result) c.check_groups-groups.ensures (same c.is_refused-2.ensures c.if-is_refused-2.true), tt)

pub returns-then-is_refused-3 : goal.returns-then-is_refused-3
returns-then-is_refused-3 c =
    let a = c.args in
    let at = goal.at.returns-then-is_refused-3 c in
    let is = same c.is_refused-3.ensures c.if-is_refused-3.true in
    (is ∙ outside a.s a.frame a.table.now a.grids.now (length a.sigmas.now) (length a.out.now) (number_of c.widened_rectangle-place.result) c.widened_rectangle-place.ensures.0 (not-4 at.Else-is_refused) (number_of c.check_groups-groups.result) c.check_groups-groups.ensures (groups-not-4 at.Else-is_refused-2) is, c.widened_rectangle-place.ensures.1)

pub returns-then-is_refused-4 : goal.returns-then-is_refused-4
returns-then-is_refused-4 c =
    let a = c.args in
    let at = goal.at.returns-then-is_refused-4 c in
    let is = same c.is_refused-4.ensures c.if-is_refused-4.true in
    (is ∙ off-blocks a.s a.frame a.table.now a.grids.now (length a.sigmas.now) (length a.out.now) (number_of c.widened_rectangle-place.result) c.widened_rectangle-place.ensures.0 (not-4 at.Else-is_refused) (number_of c.check_groups-groups.result) c.check_groups-groups.ensures (groups-not-4 at.Else-is_refused-2) (not-15 at.Else-is_refused-3) is, c.widened_rectangle-place.ensures.1)

pub wrong_slice-requires : goal.wrong_slice-requires
wrong_slice-requires c =
    let a = c.args in
    let at = goal.at.wrong_slice-requires c in
    wanted-picture a.s a.frame a.table.now a.grids.now (length a.sigmas.now) (length a.out.now) (number_of c.widened_rectangle-place.result) c.widened_rectangle-place.ensures.0 (not-4 at.Else-is_refused) (number_of c.check_groups-groups.result) c.check_groups-groups.ensures (groups-not-4 at.Else-is_refused-2) (not-15 at.Else-is_refused-3)

pub returns-then-wrong_slice : goal.returns-then-wrong_slice
returns-then-wrong_slice c =
    let a = c.args in
    let at = goal.at.returns-then-wrong_slice c in
    (wrong-slice a.s a.frame a.table.now a.grids.now (length a.sigmas.now) (length a.out.now) (number_of c.widened_rectangle-place.result) c.widened_rectangle-place.ensures.0 (not-4 at.Else-is_refused) (number_of c.check_groups-groups.result) c.check_groups-groups.ensures (groups-not-4 at.Else-is_refused-2) (not-15 at.Else-is_refused-3) (not-6 at.Else-is_refused-4) (sym c.wrong_slice.ensures ∙ c.if-wrong_slice.true), tt)

pub returns-then-is_ok : goal.returns-then-is_ok
returns-then-is_ok c =
    let a = c.args in
    let at = goal.at.returns-then-is_ok c in
    let is : number_of c.widened_rectangle-place.result ≡ 0 = not_refused _ (sym c.is_ok.ensures.value ∙ c.if-is_ok.true) in
    (is ∙ early-accepted a.s a.frame a.table.now a.grids.now (length a.sigmas.now) (length a.out.now) (number_of c.widened_rectangle-place.result) c.widened_rectangle-place.ensures.0 (not-4 at.Else-is_refused) (number_of c.check_groups-groups.result) c.check_groups-groups.ensures (groups-not-4 at.Else-is_refused-2) (not-15 at.Else-is_refused-3) (not-6 at.Else-is_refused-4) (right-slice at.Else-wrong_slice) is, c.widened_rectangle-place.ensures.1)

pub returns : goal.returns
returns c =
    let a = c.args in
    let at = goal.at.returns c in
    let u : number_of c.widened_rectangle-place.result ≡ 0 → ⊥ = was_refused _ (sym c.is_ok.ensures.value ∙ c.if-is_ok.false) in
    (early-unknown a.s a.frame a.table.now a.grids.now (length a.sigmas.now) (length a.out.now) (number_of c.widened_rectangle-place.result) c.widened_rectangle-place.ensures.0 (not-4 at.Else-is_refused) (number_of c.check_groups-groups.result) c.check_groups-groups.ensures (groups-not-4 at.Else-is_refused-2) (not-15 at.Else-is_refused-3) (not-6 at.Else-is_refused-4) (right-slice at.Else-wrong_slice) u _ c.settings_refusal.ensures, tt)
