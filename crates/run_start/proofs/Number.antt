-- The lowest number of the parts is the number of start's checks, so the code's answer is start's outcome. Assumes nothing.
use mathlib.Core.Path.{◌≡◌, refl, sym, ap, subst, ◌∙◌}
use mathlib.Core.Bool.{Bool, true, false, cond, not, ◌&&◌}
use mathlib.Core.List.{List, [], ◌∷◌}
use Prim.Native.Nat.{ℕ, ◌*◌, ◌/◌, ◌≤◌}
use native.Mathlib.Omega.{arith}
use borrow.Author.Tests.{le-ltb, ne_eqb, not-false}
use lib.Dec.{T, eqb}
use lib.ListN.{length}
use lib.Ieee.{Float}
use Rattle.refusals.specs.Numbers.{out_of_limits}
use Rattle.refusals.specs.Checks.{Check, first_of}
use Rattle.refusals.specs.Flags.{flag_fits, flag_set}
use Rattle.region_axis.proofs.Laws.{place-size}
use Rattle.region.specs.declared.Region.{Region}
use Rattle.region.specs.Measures.{picture_fits}
use Rattle.region.proofs.Laws.{picture-bounds, picture-width, picture-height, picture-area, bounds-left, bounds-top, bounds-width, bounds-height}
use Rattle.region_placement.specs.Placed.{placed_checks}
use Rattle.planes.proofs.Stored.{and_first, and_second}
use Rattle.planes_layout.specs.Outcome.{layout_of}
use Rattle.epf_tiles.specs.Blocks.{block_columns, block_rows}
use Rattle.frame.specs.declared.Frame.{Frame}
use Rattle.sigma_groups.specs.Measures.{blocks_across, blocks_down, bad_blocks}
use Rattle.sigma_groups.specs.Held.{some_not_held}
use Rattle.sigma_groups.specs.Outcome.{table_read, frame_sides, grid_sides, table_length, grids_length, frame_settings, presences, sigma_checks, sigma_number}
use Rattle.sigma.specs.Outcome.{SigmasOutcome, left_in, sigmas_outcome}
use Rattle.region_placement.specs.Blocks.{clamp_to_zero}
use Rattle.region_placement.proofs.BlockLaws.{clamp-small}
use Rattle.run_setup.specs.declared.Setup.{Setup}
use Rattle.run_setup.specs.Setup.{layout, epf_on, iters_fit, size_fits}
use Rattle.run_record.specs.Record.{started}
use Rattle.run_setup.proofs.Laws.{picture-size}
use Rattle.run_outcomes.proofs.Tests.{blocks-same}
use Rattle.run_outcomes.specs.Start.{Handed, StartOutcome, blocks_of, runs_epf, region_sides, filter_inside, filter_on_blocks, set_lengths, sigmas_length, blocks_held, iters_in_range, picture_checks, start_number, start_leaves, sigmas_filled, no_run, start_outcome}
use Rattle.refusals.proofs.Rows.{here, below, row-passed, or-zero}
use Rattle.run_outcomes.proofs.Laws.{start-parts}
use Rattle.run_start.specs.Lowest.{lowest}
use Rattle.run_start.proofs.LowestLaws.{Parted, none, left, right, first-lowest, lowest-left, lowest-none, ascending-from}
use Rattle.run_start.specs.Pieces.{epf_flag, sigmas_asked, setup_checks, number_of, settings_checks}

-- ---- a region, as the parts check it

module _ (r : Region) (e : picture_fits r ≡ true) where
  fits : T (picture_fits r)
  fits = subst T (sym e) tt

  is-size : size_fits r ≡ true
  is-size = picture-size r fits

blocks-good : (s : Setup) → picture_fits s.filter ≡ true → bad_blocks (blocks_of s) ≡ false
unfolding bad_blocks
blocks-good s e =
    let r = s.filter in
    let t = fits r e in
    let m = picture-bounds r t in
    let l : clamp_to_zero r.left / 8 ≤ 131072 = omega (arith, clamp-small r.left, place-size r.left (bounds-left r m)) in
    let u : clamp_to_zero r.top / 8 ≤ 131072 = omega (arith, clamp-small r.top, place-size r.top (bounds-top r m)) in
    rw (
      le-ltb r.width 1 (picture-width r t),
      le-ltb 16384 r.width (bounds-width r m),
      le-ltb r.height 1 (picture-height r t),
      le-ltb 16384 r.height (bounds-height r m),
      le-ltb 16777216 (r.width * r.height) (picture-area r t),
      le-ltb 131072 (clamp_to_zero r.left / 8) l,
      le-ltb 131072 (clamp_to_zero r.top / 8) u,
    )

-- ---- rows of the table, by the code's tests

count_same : (s : Setup) → blocks_down (blocks_of s) * blocks_across (blocks_of s) ≡ block_rows (layout s) * block_columns (layout s)
unfolding layout_of
count_same s = rw (blocks-same s.filter.height, blocks-same s.filter.width)

-- whether the EPF runs, as a flag
flag-fits : (b : Bool) → flag_fits (cond b 1 0) ≡ true
flag-fits true = refl
flag-fits false = refl

flag-set : (b : Bool) → flag_set (cond b 1 0) ≡ b
flag-set true = refl
flag-set false = refl

-- the row of the block sigmas' length, and the row of number 8
sigmas-row : (iters on : Bool) (k c d : ℕ) → c ≡ d → not (eqb (cond iters k 0) (cond (iters && on) c 0)) ≡ (iters && not (eqb k (cond on d 0)))
sigmas-row true on k c d e = rw e
sigmas-row false on k c d e = refl

held-row : (read on some : Bool) → (read && true && on && some) ≡ (on && read && some)
held-row true true some = refl
held-row true false some = refl
held-row false true some = refl
held-row false false some = refl

-- the block sigmas of an accepted start, if the iterations are in range
left_is : (number : ℕ) (set iters on : Bool) (defined lent : List Float) → number ≡ 0 → set ≡ (iters && on) → iters ≡ true → left_in number set defined lent ≡ cond on defined lent
left_is number set iters on defined lent p y q = rw (p, y, q)

-- ---- the rows of start's table that each part checks

module _ (h : Handed) where
  abbrev s : Setup
  s = h.setup

  abbrev f : Frame
  f = h.frame

  abbrev t : List ℕ
  t = h.table

  abbrev own_rows : List Check
  own_rows =
      filter_on_blocks s
      ∷ set_lengths h
      ∷ settings_checks s

  abbrev group_rows : List Check
  group_rows =
      frame_sides f
      ∷ grid_sides f t
      ∷ table_length f t
      ∷ grids_length f t h.grids
      ∷ sigmas_length h
      ∷ blocks_held h
      ∷ frame_settings f
      ∷ presences f t
      ∷ []

  -- all other rows: the regions, then `own_rows`
  abbrev placed_rows : List Check
  placed_rows =
      region_sides s
      ∷ filter_inside s
      ∷ own_rows

  whole : Parted (picture_checks h) placed_rows group_rows
  unfolding picture_checks
  whole = search (none, left, right) depth 30

  placed-own : Parted placed_rows (placed_checks s.image s.filter) own_rows
  placed-own = search (none, left, right) depth 30

  rows-lowest : first_of (picture_checks h) ≡ lowest (lowest (first_of (placed_checks s.image s.filter)) (first_of own_rows)) (first_of group_rows)
  unfolding picture_checks
  rows-lowest = first-lowest whole refl ∙ ap (λ (k : ℕ). lowest k (first_of group_rows)) (first-lowest placed-own refl)

  -- if the regions are within the limits, the parts check these rows
  setup-number : picture_fits s.image ≡ true → first_of own_rows ≡ first_of (setup_checks s (length h.first) (length h.second))
  setup-number e = rw (is-size s.image e)

  abbrev groups_number : ℕ → ℕ
  groups_number = sigma_number (epf_flag s) f (blocks_of s) t h.grids

  groups-number : picture_fits s.filter ≡ true → first_of group_rows ≡ groups_number (sigmas_asked s (length h.sigmas))
  groups-number e =
      rw (blocks-good s e, flag-fits (runs_epf s), flag-set (runs_epf s), sigmas-row (iters_fit s) (epf_on s) (length h.sigmas) _ _ (count_same s), held-row (table_read f t) (runs_epf s) (some_not_held f (blocks_of s) t))

  -- ---- the number of the table is the lowest of the parts'

  abbrev number : ℕ
  number = number_of s f t h.grids (length h.first) (length h.second) (length h.sigmas)

  picture-same : first_of (picture_checks h) ≡ number
  unfolding number_of picture_checks
  picture-same = go (picture_fits s.image && picture_fits s.filter) refl
    where
      go : (p : Bool) → (picture_fits s.image && picture_fits s.filter) ≡ p → first_of (picture_checks h) ≡ number
      go true e = rows-lowest ∙ rw (setup-number (and_first (picture_fits s.image) (picture_fits s.filter) e), groups-number (and_second (picture_fits s.image) (picture_fits s.filter) e))
      go false e =
          let own = setup_checks s (length h.first) (length h.second) in
          let groups = sigma_checks (epf_flag s) f (blocks_of s) t h.grids (sigmas_asked s (length h.sigmas)) in
          rw (
            e,
            lowest-left out_of_limits (first_of own) (omega arith) (ascending-from out_of_limits own refl),
            lowest-left out_of_limits (first_of groups) (omega arith) (ascending-from out_of_limits groups refl),
          )

  -- ---- start's number, and its outcome

  -- there are no further checks
  number_same : start_number h ≡ number
  number_same = start-parts h ∙ or-zero (first_of (picture_checks h)) ∙ picture-same

  module _ (k : ℕ) (e : k ≡ number) where
    number_is : start_number h ≡ k
    number_is = number_same ∙ sym e

    pub refused : (k ≡ 0 → ⊥)
        → ◌≡◌ {A = StartOutcome} (record { answer = record { number = k; run = no_run }; first = h.first; sigmas = h.sigmas }) (start_outcome h)
    unfolding start_outcome
    refused z = rw (number_is, ne_eqb k 0 z)

    module _ (z : k ≡ 0) where
      -- every part's number is 0
      pieces : (first_of (setup_checks s (length h.first) (length h.second)) ≡ 0) × (groups_number (sigmas_asked s (length h.sigmas)) ≡ 0)
      unfolding number_of
      pieces = let b = lowest-none _ _ (sym e ∙ z) in ((lowest-none _ _ b.0).1, b.1)

      iters : iters_fit s ≡ true
      iters = not-false (iters_fit s) (row-passed (setup_checks s (length h.first) (length h.second)) tt pieces.0 (iters_in_range s) (search (here, below) depth 20))

      sigmas-fit : groups_number (length h.sigmas) ≡ 0
      sigmas-fit = let a : length h.sigmas ≡ sigmas_asked s (length h.sigmas) = rw iters in ap groups_number a ∙ pieces.1

      module _ (m : ℕ) (filled : List Float)
          (o : ◌≡◌ {A = SigmasOutcome} (record { number = m; sigmas = filled }) (sigmas_outcome (epf_flag s) f (blocks_of s) t h.grids s.settings.epf.sigma_for_modular h.sigmas)) where
        -- the block sigmas are not refused
        pub sigmas-accepted : m ≡ 0
        sigmas-accepted = ap (λ (o : SigmasOutcome). o.number) o ∙ sigmas-fit

        pub accepted : ◌≡◌ {A = StartOutcome} (record { answer = record { number = 0; run = started s }; first = h.first; sigmas = filled }) (start_outcome h)
        unfolding start_outcome start_leaves sigmas_filled
        accepted =
            let l = ap (λ (o : SigmasOutcome). o.sigmas) o ∙ left_is _ (flag_set (epf_flag s)) (iters_fit s) (epf_on s) _ _ sigmas-fit (flag-set (runs_epf s)) iters in
            rw (number_is, z, l)
