-- `sigma_groups::checked_groups` meets its contract: each return has the number of the first check that applies. Assumes nothing.
use Rattle.std.proofs.Common.{◌≡◌, Bool, true, false, not, ◌&&◌, cond, List, ℕ, ◌*◌, ◌<◌, ◌≤◌, eqb, length, refl, sym, ap, ◌∙◌, arith}
use Rattle.std.proofs.lemmas.Result.{err_from_is_err_and}
use borrow.Author.Tests.{eqb-true}
use lib.Ieee.{Float}
use Rattle.refusals.specs.Numbers.{accepted, out_of_limits, wrong_length, block_not_held, out_of_range}
use Rattle.refusals.specs.Flags.{flag_fits, flag_set}
use Rattle.refusals.proofs.Outcomes.{number-positive}
use Rattle.frame.specs.declared.SoundFrame.{SoundFrame}
use Rattle.frame.specs.declared.GroupSizes.{GroupSizes}
use Rattle.frame.specs.Sizes.{sizes_of}
use Rattle.frame.proofs.Laws.{sizes-bounded}
use Rattle.sigma_grids.proofs.Laws.{start-passed, start-refused}
use Rattle.sigma_grids.specs.Table.{bad_grid, bad_presence, grid_start}
use Rattle.sigma_grids.specs.Start.{start_outcome}
use Rattle.sigma_groups.specs.Held.{some_not_held}
use Rattle.sigma_groups.specs.Outcome.{table_fits, some_group, grids_fit, sigma_number}
use Rattle.sigma_groups.specs.declared.blocks.SoundBlocks.{SoundBlocks}
use Rattle.sigma_groups.specs.declared.groups.Groups.{Groups}
use Rattle.sigma_groups.proofs.Number as number
use Rattle.sigma_groups.proofs.checked_groups.Goals as goal
use Rattle.sigma_groups.proofs.checked_groups.Goals.{else-flag_set-via-then-flag_set+else-some_not_held, else-flag_set-via-else-flag_set}

right : (a : Bool) → 0 ≡ cond a accepted wrong_length → a ≡ true
right true e = refl
right false e = absurd (omega arith)

-- what the tests establish: a table of the right length,
module _ (frame : SoundFrame) (t : List ℕ) (sizes : GroupSizes) (is : sizes ≡ sizes_of frame.frame) (fits : 0 ≡ cond (table_fits frame.frame t) accepted wrong_length) where
  num : sizes.num_groups ≡ (sizes_of frame.frame).num_groups
  num = ap (λ (g : GroupSizes). g.num_groups) is

  table-right : table_fits frame.frame t ≡ true
  table-right = right (table_fits frame.frame t) fits

  entries : length t ≡ 3 * (sizes_of frame.frame).num_groups
  unfolding table_fits
  entries = eqb-true _ _ table-right

  table-le : length t ≤ 768
  table-le = omega (arith, entries, (sizes-bounded frame.frame frame.sound).groups-le)

  room : 3 * sizes.num_groups ≤ length t
  room = omega (arith, entries, num)

  -- the number of `grid_start`
  grids-bad : (k : ℕ) → 0 < k → k ≡ (start_outcome t sizes.num_groups).number → (some_group frame.frame (bad_grid t) ≡ true) × (k ≡ out_of_limits)
  grids-bad k p e = rw (← num) (start-refused t _ table-le room k p e)

  grids-good : 0 ≡ (start_outcome t sizes.num_groups).number → some_group frame.frame (bad_grid t) ≡ false
  grids-good e = rw (← num) (start-passed t _ table-le room e)

-- and grids with sides in range, of which `bad` says whether a presence is not and `wrong` whether their slice has another length
module _ (on n : ℕ) (frame : SoundFrame) (region : SoundBlocks) (grids : List Float) (g : Groups) (t : List ℕ) (cells : ℕ) (bad wrong : Bool)
    (h : (0 ≡ cond (table_fits frame.frame t) accepted wrong_length) × ((g.frame.frame ≡ frame.frame) × (g.sizes ≡ sizes_of frame.frame) × (g.table.now ≡ t)))
    (k : (0 ≡ (start_outcome t g.sizes.num_groups).number) × (cells ≡ grid_start t g.sizes.num_groups))
    (p : bad ≡ some_group g.frame.frame (bad_presence g.table.now))
    (w : wrong ≡ (not bad && not (eqb (length grids) cells)))
  where
    table : table_fits frame.frame t ≡ true
    table = table-right frame t g.sizes h.1.1 h.0

    good : some_group frame.frame (bad_grid t) ≡ false
    good = grids-good frame t g.sizes h.1.1 h.0 k.0

    bad-is : bad ≡ some_group frame.frame (bad_presence t)
    bad-is = p ∙ rw (h.1.0, h.1.2)

    wrong-is : wrong ≡ (not (some_group frame.frame (bad_presence t)) && not (grids_fit frame.frame t grids))
    unfolding grids_fit
    wrong-is = w ∙ rw (bad-is, k.1, num frame t g.sizes h.1.1 h.0)

    grids_out : wrong ≡ true → wrong_length ≡ sigma_number on frame.frame region.blocks t grids n
    grids_out e = number.grids-wrong on frame.frame region.blocks t grids n frame.sides region.within frame.settings table good (sym wrong-is ∙ e)

    module _ (e : wrong ≡ false) (c : false ≡ number.bad_count on frame.frame region.blocks t grids n) (lacks : Bool) (l : lacks ≡ (flag_set on && some_not_held g.frame.frame region.blocks g.table.now)) where
      lacks-is : lacks ≡ (flag_set on && some_not_held frame.frame region.blocks t)
      lacks-is = l ∙ rw (h.1.0, h.1.2)

      blocks_out : lacks ≡ true → block_not_held ≡ sigma_number on frame.frame region.blocks t grids n
      blocks_out o = number.block_out on frame.frame region.blocks t grids n frame.sides region.within frame.settings table good (sym wrong-is ∙ e) (sym c) (sym lacks-is ∙ o)

      module _ (o : lacks ≡ false) (q : bad ≡ false) where
        flag_out : flag_fits on ≡ false → out_of_range ≡ sigma_number on frame.frame region.blocks t grids n
        flag_out = number.flag-out on frame.frame region.blocks t grids n frame.sides region.within frame.settings table good (sym wrong-is ∙ e) (sym c) (sym lacks-is ∙ o) (sym bad-is ∙ q)

        passed : flag_fits on ≡ true → accepted ≡ sigma_number on frame.frame region.blocks t grids n
        passed = number.none_out on frame.frame region.blocks t grids n frame.sides region.within frame.settings table good (sym wrong-is ∙ e) (sym c) (sym lacks-is ∙ o) (sym bad-is ∙ q)

pub returns-in_err-cells-clause-number : goal.returns-in_err-cells-clause-number
returns-in_err-cells-clause-number c =
    let a = c.args in
    let h = c.in_ok-groups.ensures in
    let p = err_from_is_err_and c.from_residual-in_err-cells.result c.from_residual-in_err-cells.ensures.1 in
    let bad = grids-bad a.frame a.table.now c.in_ok-groups.groups.sizes h.1.1 h.0 _ (number-positive c.in_err-cells.field-0.0) c.in_err-cells.ensures.0 in
    rw (p.1, p.2)
    (bad.1
    ∙ number.grid-out a.on a.frame.frame a.region.blocks a.table.now a.grids.now a.sigmas_len a.frame.sides a.region.within a.frame.settings
    (table-right a.frame a.table.now c.in_ok-groups.groups.sizes h.1.1 h.0) bad.0)

pub returns-then-bad_grids-clause-number : goal.returns-then-bad_grids-clause-number
returns-then-bad_grids-clause-number c =
    let a = c.args in
    grids_out a.on a.sigmas_len a.frame a.region a.grids.now c.in_ok-groups.groups _ _ _ _ c.in_ok-groups.ensures c.in_ok-cells.ensures c.some_bad_presence-bad_presence.ensures c.bad_grids.ensures
    c.if-bad_grids.true

pub returns-then-some_not_held-clause-number : goal.returns-then-some_not_held-clause-number
returns-then-some_not_held-clause-number c =
    let a = c.args in
    blocks_out a.on a.sigmas_len a.frame a.region a.grids.now c.in_ok-groups.groups _ _ _ _ c.in_ok-groups.ensures c.in_ok-cells.ensures c.some_bad_presence-bad_presence.ensures c.bad_grids.ensures
    c.if-bad_grids.false (sym c.if-bad_count.false ∙ c.bad_count.ensures) _ refl
    (rw (sym c.flag_set.ensures ∙ c.if-flag_set.true, sym c.some_not_held.ensures ∙ c.if-some_not_held.true))

pub returns-then-not-flag_fits-clause-number : goal.returns-then-not-flag_fits-clause-number
returns-then-not-flag_fits-clause-number c =
    let a = c.args in
    flag_out a.on a.sigmas_len a.frame a.region a.grids.now c.in_ok-groups.groups _ _ _ _ c.in_ok-groups.ensures c.in_ok-cells.ensures c.some_bad_presence-bad_presence.ensures c.bad_grids.ensures
    c.if-bad_grids.false (sym c.if-bad_count.false ∙ c.bad_count.ensures) _ refl
    (elim c.else-flag_set.branch [
      | else-flag_set-via-then-flag_set+else-some_not_held w ↦ rw (sym c.flag_set.ensures ∙ w.if-flag_set.true, sym w.some_not_held.ensures ∙ w.if-some_not_held.false)
      | else-flag_set-via-else-flag_set w ↦ rw (sym c.flag_set.ensures ∙ w.if-flag_set.false)
    ])
    c.if-bad_presence.false (sym c.flag_fits.ensures ∙ c.if-not-flag_fits.true)

pub returns-clause-number : goal.returns-clause-number
returns-clause-number c =
    let a = c.args in
    passed a.on a.sigmas_len a.frame a.region a.grids.now c.in_ok-groups.groups _ _ _ _ c.in_ok-groups.ensures c.in_ok-cells.ensures c.some_bad_presence-bad_presence.ensures c.bad_grids.ensures
    c.if-bad_grids.false (sym c.if-bad_count.false ∙ c.bad_count.ensures) _ refl
    (elim c.else-flag_set.branch [
      | else-flag_set-via-then-flag_set+else-some_not_held w ↦ rw (sym c.flag_set.ensures ∙ w.if-flag_set.true, sym w.some_not_held.ensures ∙ w.if-some_not_held.false)
      | else-flag_set-via-else-flag_set w ↦ rw (sym c.flag_set.ensures ∙ w.if-flag_set.false)
    ])
    c.if-bad_presence.false (sym c.flag_fits.ensures ∙ c.if-not-flag_fits.false)
