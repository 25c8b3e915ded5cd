-- The number of the checks before the start of the run, from those of `widened_rectangle` and `groups_number`. Assumes nothing.
use mathlib.Core.Path.{◌≡◌, refl, sym, ap, ◌∙◌}
use mathlib.Core.Bool.{Bool, true, false, cond, not, ◌&&◌, ◌||◌}
use mathlib.Core.List.{List, [], ◌∷◌}
use Prim.Native.Nat.{ℕ}
use borrow.Author.Tests.{eq-eqb}
use lib.Dec.{T, eqb}
use lib.Ieee.{Float}
use lib.Ieee.Fits.{and_l, and_r}
use Rattle.refusals.specs.Numbers.{wrong_length}
use Rattle.refusals.specs.Checks.{Check, given, applies, first_of}
use Rattle.refusals.proofs.Tables.{is_true, met}
use Rattle.refusals.proofs.Rows.{found, after, first-number, none, keep, drop, same_number}
use Rattle.region.specs.Measures.{picture_fits, rectangle_fits}
use Rattle.frame.specs.declared.Frame.{Frame}
use Rattle.sigma_groups.specs.Outcome.{frame_sides, grid_sides, table_length, grids_length, frame_settings, presences}
use Rattle.run_passes.specs.Plan.{gabor_fits, iterations_fit, margin_checks}
use Rattle.loupe_region.specs.declared.LoupeSetup.{LoupeSetup}
use Rattle.loupe_region.specs.Fits.{WantedFits}
use Rattle.loupe_region.specs.Outcome.{regions_in_limits, wanted_inside, whole_on_blocks, rectangle_checks}
use Rattle.loupe_region.proofs.Laws.{wanted-of, accepted-gabor, accepted-iterations}
use Rattle.planes.specs.Band.{planes_fit}
use Rattle.loupe.specs.Outcome.{wanted_length, margin_fits}
use Rattle.loupe.specs.Pieces.{groups_checks, settings_number, unknown_checks, early_checks}

-- ---- the first row of a table, from the table's number

-- no row has this number, which is not 0
abbrev lacks : ℕ → List Check → Bool
lacks k [] = not (eqb 0 k)
lacks k (c ∷ cs) = not (eqb c.number k) && lacks k cs

absent : (k : ℕ) (cs : List Check) → T (lacks k cs) → first_of cs ≡ k → ⊥
absent k [] t e = rw (eq-eqb 0 k e) at t
absent k (c ∷ cs) t e = go (λ z. absent k cs (and_r (not (eqb c.number k)) (lacks k cs) t) z) (applies c) e
  where
    go : (first_of cs ≡ k → ⊥) → (b : Bool) → cond b c.number (first_of cs) ≡ k → ⊥
    go below true e = rw (eq-eqb c.number k e) at (and_l (not (eqb c.number k)) (lacks k cs) t)
    go below false e = below e

head-applies : (c : Check) (cs : List Check) → T (lacks c.number cs) → first_of (c ∷ cs) ≡ c.number → applies c ≡ true
head-applies c cs t e = go (applies c) e
  where
    go : (b : Bool) → cond b c.number (first_of cs) ≡ c.number → b ≡ true
    go true e = refl
    go false e = absurd (absent c.number cs t e)

head_passed : (c : Check) (cs : List Check) → (first_of (c ∷ cs) ≡ c.number → ⊥) → applies c ≡ false
head_passed c cs f = go (applies c) f
  where
    go : (b : Bool) → (cond b c.number (first_of cs) ≡ c.number → ⊥) → b ≡ false
    go true f = absurd (f refl)
    go false f = refl

tail-number : (c : Check) (cs : List Check) → applies c ≡ false → first_of (c ∷ cs) ≡ first_of cs
tail-number c cs e = rw e

-- 4 in either of two rows
either-four : (a b : Bool) (x y : ℕ) → (x ≡ 4 → ⊥) → cond a 4 (cond b 4 x) ≡ 4 → 4 ≡ cond a 4 (cond b 4 y)
either-four true b x y f e = refl
either-four false true x y f e = refl
either-four false false x y f e = absurd (f e)

-- 7 in the first rows
seven-first : (t g a b z : Bool) → ◌≡◌ {A = ℕ} (cond (eqb (cond t 7 (cond g 7 (cond a 9 (cond b 9 0)))) 7 || z) 7 9) (cond t 7 (cond g 7 (cond z 7 9)))
seven-first true g a b z = refl
seven-first false true a b z = refl
seven-first false false true b z = refl
seven-first false false false true z = refl
seven-first false false false false z = refl

-- ---- a wanted rectangle that is not refused with 4 or 15

pub wanted-passed : (s : LoupeSetup) → applies (regions_in_limits s) ≡ false → applies (wanted_inside s) ≡ false → WantedFits s.whole s.wanted
wanted-passed s e f =
    let both = met (picture_fits s.whole && rectangle_fits s.wanted) e in
    wanted-of s.whole s.wanted (and_l (picture_fits s.whole) (rectangle_fits s.wanted) both) (and_r (picture_fits s.whole) (rectangle_fits s.wanted) both) f

-- ---- the parts of `early_number`

module _ (s : LoupeSetup) (f : Frame) (t : List ℕ) (grids : List Float) (sigmas out : ℕ) (place : ℕ) (is-place : place ≡ first_of (rectangle_checks s)) where
  abbrev checks : List Check
  checks = early_checks s f t grids sigmas out

  abbrev Number : ℕ → Type 0
  Number k = k ≡ first_of checks

  pub in-limits : place ≡ 4 → Number 4
  unfolding rectangle_checks margin_checks early_checks
  in-limits e = sym (first-number checks (regions_in_limits s) (found (head-applies (regions_in_limits s) (wanted_inside s ∷ whole_on_blocks s ∷ margin_checks s.settings) tt (sym is-place ∙ e))))

  module _ (not-4 : place ≡ 4 → ⊥) (groups : ℕ) (is-groups : groups ≡ first_of (groups_checks f t grids)) where
    regions : applies (regions_in_limits s) ≡ false
    unfolding rectangle_checks
    regions = head_passed (regions_in_limits s) (wanted_inside s ∷ whole_on_blocks s ∷ margin_checks s.settings) (λ e. not-4 (is-place ∙ e))

    next : place ≡ first_of (wanted_inside s ∷ whole_on_blocks s ∷ margin_checks s.settings)
    unfolding rectangle_checks
    next = is-place ∙ tail-number (regions_in_limits s) (wanted_inside s ∷ whole_on_blocks s ∷ margin_checks s.settings) regions

    pub groups-in-limits : groups ≡ 4 → Number 4
    unfolding early_checks
    groups-in-limits e =
        let later = table_length f t ∷ grids_length f t grids ∷ frame_settings f ∷ presences f t ∷ [] in
        rw regions (either-four (applies (frame_sides f)) (applies (grid_sides f t)) (first_of later) _ (λ z. absent 4 later tt z) (sym is-groups ∙ e))

    module _ (groups-not-4 : groups ≡ 4 → ⊥) where
      sides : applies (frame_sides f) ≡ false
      sides = head_passed (frame_sides f) (grid_sides f t ∷ table_length f t ∷ grids_length f t grids ∷ frame_settings f ∷ presences f t ∷ []) (λ e. groups-not-4 (is-groups ∙ e))

      groups-next : groups ≡ first_of (grid_sides f t ∷ table_length f t ∷ grids_length f t grids ∷ frame_settings f ∷ presences f t ∷ [])
      groups-next = is-groups ∙ tail-number (frame_sides f) (grid_sides f t ∷ table_length f t ∷ grids_length f t grids ∷ frame_settings f ∷ presences f t ∷ []) sides

      grid-sides : applies (grid_sides f t) ≡ false
      grid-sides = head_passed (grid_sides f t) (table_length f t ∷ grids_length f t grids ∷ frame_settings f ∷ presences f t ∷ []) (λ e. groups-not-4 (groups-next ∙ e))

      groups-rest : groups ≡ first_of (table_length f t ∷ grids_length f t grids ∷ frame_settings f ∷ presences f t ∷ [])
      groups-rest = groups-next ∙ tail-number (grid_sides f t) (table_length f t ∷ grids_length f t grids ∷ frame_settings f ∷ presences f t ∷ []) grid-sides

      pub outside : place ≡ 15 → Number 15
      unfolding margin_checks early_checks
      outside e =
          sym (first-number checks (wanted_inside s) (after regions (after sides (after grid-sides
          (found (head-applies (wanted_inside s) (whole_on_blocks s ∷ margin_checks s.settings) tt (sym next ∙ e)))))))

      module _ (not-15 : place ≡ 15 → ⊥) where
        held : applies (wanted_inside s) ≡ false
        held = head_passed (wanted_inside s) (whole_on_blocks s ∷ margin_checks s.settings) (λ e. not-15 (next ∙ e))

        then : place ≡ first_of (whole_on_blocks s ∷ margin_checks s.settings)
        then = next ∙ tail-number (wanted_inside s) (whole_on_blocks s ∷ margin_checks s.settings) held

        pub off-blocks : place ≡ 6 → Number 6
        unfolding margin_checks early_checks
        off-blocks e =
            sym (first-number checks (whole_on_blocks s) (after regions (after sides (after grid-sides (after held
            (found (head-applies (whole_on_blocks s) (margin_checks s.settings) tt (sym then ∙ e))))))))

        pub wanted-picture : T (picture_fits s.wanted)
        wanted-picture = (wanted-passed s regions held).wanted-fits

        module _ (not-6 : place ≡ 6 → ⊥) where
          blocks : applies (whole_on_blocks s) ≡ false
          blocks = head_passed (whole_on_blocks s) (margin_checks s.settings) (λ e. not-6 (then ∙ e))

          last : place ≡ first_of (margin_checks s.settings)
          last = then ∙ tail-number (whole_on_blocks s) (margin_checks s.settings) blocks

          abbrev slice : Check
          slice = given (planes_fit s.planes) wrong_length (not (eqb out (wanted_length s)))

          pub wrong-slice : applies slice ≡ true → Number 7
          unfolding early_checks
          wrong-slice wrong =
              sym (first-number checks slice (after regions (after sides (after grid-sides (after held (after blocks (found wrong)))))))

          module _ (right : applies slice ≡ false) where
            abbrev unknown : List Check
            unknown = unknown_checks s f t grids sigmas

            rest : first_of checks ≡ first_of unknown
            unfolding early_checks
            rest =
                same_number checks unknown (drop regions (drop sides (drop grid-sides (drop held (drop blocks (drop right (keep (keep (keep (keep none))))))))))

            pub early-accepted : place ≡ 0 → Number 0
            early-accepted e =
                let g = is_true (gabor_fits s.settings) (accepted-gabor s (sym is-place ∙ e)) in
                let i = is_true (iterations_fit s.settings) (accepted-iterations s (sym is-place ∙ e)) in
                let z : first_of unknown ≡ 0 = rw (g, i) in
                sym (rest ∙ z)

            margin-unknown : (place ≡ 0 → ⊥) → margin_fits s.settings ≡ false
            unfolding margin_checks
            margin-unknown u = go (gabor_fits s.settings) (iterations_fit s.settings) refl refl
              where
                go : (g i : Bool) → gabor_fits s.settings ≡ g → iterations_fit s.settings ≡ i → (g && i) ≡ false
                go true true p q = absurd (u (last ∙ rw (p, q)))
                go true false p q = refl
                go false i p q = refl

            pub early-unknown : (place ≡ 0 → ⊥) → (k : ℕ) → k ≡ settings_number groups s.settings.epf.iters sigmas → Number k
            early-unknown u k e =
                let m = margin-unknown u in
                let z : first_of unknown ≡ cond (applies (table_length f t)) 7 (cond (applies (grids_length f t grids)) 7 (cond (eqb s.settings.epf.iters 0 && not (eqb sigmas 0)) 7 9)) = rw m in
                e
                ∙ ap (λ (j : ℕ). settings_number j s.settings.epf.iters sigmas) groups-rest
                ∙ seven-first (applies (table_length f t)) (applies (grids_length f t grids)) (applies (frame_settings f)) (applies (presences f t)) (eqb s.settings.epf.iters 0 && not (eqb sigmas 0))
                ∙ sym (rest ∙ z)
