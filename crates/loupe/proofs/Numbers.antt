-- The number of a call of `loupe_smooth`: that of the checks before the start of the run or, if that is 0, the start's. Assumes nothing.
use mathlib.Core.Path.{◌≡◌, refl, sym, ◌∙◌}
use mathlib.Core.Bool.{Bool, true, false, cond, not, ◌&&◌, ◌||◌}
use mathlib.Core.List.{List, [], ◌∷◌}
use Prim.Native.Nat.{ℕ}
use native.Mathlib.Omega.{arith}
use borrow.Author.Tests.{leb-false, ltb-true, ltb-false, ne_eqb, eq-eqb}
use lib.Dec.{T, eqb, ltb}
use lib.ListN.{length}
use Rattle.refusals.specs.Checks.{Check, applies, first_of}
use Rattle.refusals.proofs.Tables.{is_true, met}
use Rattle.refusals.proofs.Rows.{or_else}
use Rattle.region.specs.declared.Region.{Region}
use Rattle.region.specs.Regions.{inside}
use Rattle.region.specs.Measures.{picture_fits}
use Rattle.region.proofs.Regions.{inside-itself}
use Rattle.region_placement.specs.Blocks.{on_blocks}
use Rattle.sigma_groups.specs.Outcome.{frame_sides, grid_sides, table_length, grids_length, frame_settings, presences}
use Rattle.run_passes.specs.Plan.{gabor_fits, iterations_fit, margin}
use Rattle.run_setup.specs.Setup.{band_count, epf_on}
use Rattle.run_outcomes.specs.Start.{filter_on_blocks, iters_in_range, planes_in_range, gabor_in_range, picture_checks, start_checks, start_number}
use Rattle.loupe_region.specs.Fits.{WantedFits}
use Rattle.loupe_region.specs.Outcome.{regions_in_limits, wanted_inside, whole_on_blocks, off_blocks, widened_region}
use Rattle.loupe_region.proofs.Laws.{widened-fits, widened-on-blocks}
use Rattle.loupe.specs.Outcome.{LoupeHanded, run_setup_of, as_run, slice_length, widened_sets, widened_sigmas, widened_held, loupe_checks, loupe_number}
use Rattle.loupe.specs.Pieces.{unknown_checks, early_checks}
use Rattle.loupe.proofs.Samples.{one-band}
use Rattle.loupe.proofs.Early.{wanted-passed}

-- ---- rows that two tables share

shared : (r f s w b o : Bool) (x y z : ℕ) → (r ≡ false → f ≡ false → s ≡ false → w ≡ false → b ≡ false → x ≡ or_else y z)
    → cond r 4 (cond f 4 (cond s 4 (cond w 15 (cond b 6 (cond o 7 x))))) ≡ or_else (cond r 4 (cond f 4 (cond s 4 (cond w 15 (cond b 6 (cond o 7 y)))))) z
shared true f s w b o x y z e = refl
shared false true s w b o x y z e = refl
shared false false true w b o x y z e = refl
shared false false false true b o x y z e = refl
shared false false false false true o x y z e = refl
shared false false false false false true x y z e = refl
shared false false false false false false x y z e = e refl refl refl refl refl

-- a margin that is not known: 9 at the end
nine-last : (t g s p a b : Bool) (z : ℕ) → cond t 7 (cond g 7 (cond s 7 (cond p 9 (cond a 9 (cond b 9 9))))) ≡ or_else (cond t 7 (cond g 7 (cond s 7 9))) z
nine-last true g s p a b z = refl
nine-last false true s p a b z = refl
nine-last false false true p a b z = refl
nine-last false false false true a b z = refl
nine-last false false false false true b z = refl
nine-last false false false false false true z = refl
nine-last false false false false false false z = refl

-- 6, passed for a region, is passed for one that starts at multiples of 8 if that region does
six-passed : (i on b c : Bool) → (T b → T c) → ((i && on) && not b) ≡ false → ((i && on) && not c) ≡ false
six-passed true true b c f e = let t = is_true c (f (met b e)) in rw t
six-passed true false b c f e = refl
six-passed false on b c f e = refl

or-true : (b : Bool) → (b || true) ≡ true
or-true true = refl
or-true false = refl

no-iterations : (k : ℕ) (on : Bool) → ltb 0 k ≡ on → eqb k 0 ≡ not on
no-iterations k true e = let l = ltb-true 0 k e in ne_eqb k 0 (λ z. omega arith)
no-iterations k false e = let l = ltb-false 0 k e in eq-eqb k 0 (omega arith)

module _ (h : LoupeHanded) where
  abbrev pub early : ℕ
  early = first_of (early_checks h.setup h.frame h.table h.grids (length h.sigmas) (length h.out))

  -- the rows after those that both tables have
  abbrev rest : List Check
  rest =
      widened_sets h
      ∷ table_length h.frame h.table
      ∷ grids_length h.frame h.table h.grids
      ∷ widened_sigmas h
      ∷ widened_held h
      ∷ iters_in_range (run_setup_of h.setup)
      ∷ planes_in_range (run_setup_of h.setup)
      ∷ frame_settings h.frame
      ∷ presences h.frame h.table
      ∷ gabor_in_range (run_setup_of h.setup)
      ∷ []

  abbrev r : Region
  r = widened_region h.setup

  -- ---- the margin is known: the start has the same rows

  known : gabor_fits h.setup.settings ≡ true → iterations_fit h.setup.settings ≡ true → applies (frame_sides h.frame) ≡ false → applies (grid_sides h.frame h.table) ≡ false
      → WantedFits h.setup.whole h.setup.wanted → off_blocks h.setup ≡ false → first_of rest ≡ start_number (as_run h)
  unfolding start_checks picture_checks
  known eg ei ef es w eb =
      let within = widened-fits (margin h.setup.settings) h.setup.whole h.setup.wanted w in
      let fits : picture_fits r ≡ true = is_true (picture_fits r) within in
      let itself : inside r r ≡ true = is_true (inside r r) (inside-itself r) in
      let one : band_count (run_setup_of h.setup) ≡ 1 = one-band r r h.setup.planes h.setup.settings within in
      let blocks : applies (filter_on_blocks (run_setup_of h.setup)) ≡ false =
      six-passed (iterations_fit h.setup.settings) (ltb 0 h.setup.settings.epf.iters) (on_blocks h.setup.whole) (on_blocks r)
      (widened-on-blocks (margin h.setup.settings) h.setup.whole h.setup.wanted w) eb in
      rw (es, blocks, eg, ei, ef, fits, itself, one, or-true (not (epf_on (run_setup_of h.setup))))

  -- ---- it is not known: 7 or 9

  abbrev iters : ℕ
  iters = h.setup.settings.epf.iters

  abbrev unknown : List Check
  unknown = unknown_checks h.setup h.frame h.table h.grids (length h.sigmas)

  too_many : (g : Bool) → gabor_fits h.setup.settings ≡ g → iterations_fit h.setup.settings ≡ false → (z : ℕ) → first_of rest ≡ or_else (first_of unknown) z
  too_many g eg ei z =
      let l = leb-false iters 3 ei in
      let e : eqb iters 0 ≡ false = ne_eqb iters 0 (λ z. omega arith) in
      go g eg e
    where
      go : (g : Bool) → gabor_fits h.setup.settings ≡ g → eqb iters 0 ≡ false → first_of rest ≡ or_else (first_of unknown) z
      go true eg e = rw (eg, ei, e) (nine-last (applies (table_length h.frame h.table)) (applies (grids_length h.frame h.table h.grids)) false true true true z)
      go false eg e = rw (eg, ei, e) (nine-last (applies (table_length h.frame h.table)) (applies (grids_length h.frame h.table h.grids)) false true true true z)

  bad-flag : gabor_fits h.setup.settings ≡ false → iterations_fit h.setup.settings ≡ true → (z : ℕ) → first_of rest ≡ or_else (first_of unknown) z
  bad-flag eg ei z = go (ltb 0 iters) refl
    where
      go : (on : Bool) → ltb 0 iters ≡ on → first_of rest ≡ or_else (first_of unknown) z
      go true e = let e0 = no-iterations iters true e in
          rw (eg, ei, e, e0) (nine-last (applies (table_length h.frame h.table)) (applies (grids_length h.frame h.table h.grids)) false (applies (planes_in_range (run_setup_of h.setup))) (applies (frame_settings h.frame)) (applies (presences h.frame h.table)) z)
      go false e = let e0 = no-iterations iters false e in
          rw (eg, ei, e, e0) (nine-last (applies (table_length h.frame h.table)) (applies (grids_length h.frame h.table h.grids)) (not (eqb (length h.sigmas) 0)) (applies (planes_in_range (run_setup_of h.setup))) (applies (frame_settings h.frame)) (applies (presences h.frame h.table)) z)

  -- ---- both

  pub parted : loupe_number h ≡ or_else early (start_number (as_run h))
  unfolding loupe_checks early_checks
  parted =
      shared (applies (regions_in_limits h.setup)) (applies (frame_sides h.frame)) (applies (grid_sides h.frame h.table)) (applies (wanted_inside h.setup)) (applies (whole_on_blocks h.setup)) (applies (slice_length h))
      (first_of rest) (first_of unknown) (start_number (as_run h))
      (λ er ef es ew eb. go (gabor_fits h.setup.settings) (iterations_fit h.setup.settings) refl refl er ef es ew eb)
    where
      go : (g i : Bool) → gabor_fits h.setup.settings ≡ g → iterations_fit h.setup.settings ≡ i
          → applies (regions_in_limits h.setup) ≡ false → applies (frame_sides h.frame) ≡ false → applies (grid_sides h.frame h.table) ≡ false
          → applies (wanted_inside h.setup) ≡ false → applies (whole_on_blocks h.setup) ≡ false
          → first_of rest ≡ or_else (first_of unknown) (start_number (as_run h))
      go true true eg ei er ef es ew eb =
          let none : or_else (first_of unknown) (start_number (as_run h)) ≡ start_number (as_run h) = rw (eg, ei) in
          known eg ei ef es (wanted-passed h.setup er ew) eb ∙ sym none
      go g false eg ei er ef es ew eb = too_many g eg ei (start_number (as_run h))
      go false true eg ei er ef es ew eb = bad-flag eg ei (start_number (as_run h))
