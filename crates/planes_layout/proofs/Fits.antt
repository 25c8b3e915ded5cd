-- An accepted layout fits: the filter region lies inside the image region. Assumes nothing.
use mathlib.Core.Path.{◌≡◌, refl, sym, ◌∙◌}
use mathlib.Core.Bool.{Bool, true, false, ◌&&◌, not}
use mathlib.Core.List.{List, [], ◌∷◌, ◌++◌}
use Prim.Native.Nat.{ℕ, ◌+◌, ◌*◌, ◌<◌, ◌≤◌}
use borrow.Author.Tests.{le-leb, ne_eqb}
use lib.Dec.{eqb}
use lib.ListN.{length}
use lib.Ieee.{Float}
use Rattle.refusals.specs.Numbers.{wrong_length, out_of_range}
use Rattle.refusals.specs.Checks.{Check, applies, first_of}
use Rattle.refusals.specs.Flags.{flag_fits, flag_set}
use Rattle.refusals.proofs.Rows.{found, after, first-number, none, drop, same_number, joined-passed, joined-refused}
use Rattle.region.specs.declared.Region.{Region}
use Rattle.region.proofs.Laws.{picture-bounds, picture-width, picture-height, bounds-width, bounds-height}
use Rattle.region.proofs.Regions.{width_fits, height-fits}
use Rattle.region_placement.specs.Placed.{placed_checks}
use Rattle.region_placement.proofs.PlacedLaws.{placed-fits}
use Rattle.planes.specs.declared.Layout.{Layout}
use Rattle.planes.specs.Band.{layout_fits, planes_fit, set_fits, rows_fit}
use Rattle.planes.specs.Fits.{LayoutFits}
use Rattle.planes.proofs.Stored.{planes-few}
use Rattle.planes_layout.specs.Outcome.{layout_of, lengths_check, planes_check, flag_check, rows_check, pass_checks, PassOutcome, pass_outcome}

-- ---- the layout of regions with number 0

pub record Accepted (l : Layout) : Type 0 where
  pub fits : LayoutFits l
  pub width-pos : 0 < l.width
  pub height-pos : 0 < l.height

module _ (image filter : Region) (full : Bool) (ok : first_of (placed_checks image filter) ≡ 0) where
  pub layout-accepted : Accepted (layout_of image filter full)
  unfolding layout_of
  layout-accepted =
      let p = placed-fits image filter ok in
      let m = picture-bounds image p.image-picture in
      record {
        fits = record {
          width-le = bounds-width image m;
          height-le = bounds-height image m;
          across = width_fits image filter p.filter-inside;
          down = height-fits image filter p.filter-inside;
        };
        width-pos = picture-width filter p.filter-picture;
        height-pos = picture-height filter p.filter-picture;
      }

  layout-true : layout_fits (layout_of image filter full) ≡ true
  layout-true =
      let l = layout_of image filter full in
      let f = layout-accepted.fits in
      rw (le-leb l.image.width 16384 f.width-le, le-leb l.image.height 16384 f.height-le, le-leb (l.left + l.width) l.image.width f.across, le-leb (l.top + l.height) l.image.height f.down)

  -- in an accepted layout, whether a slice is a set depends on its length alone
  length-checked : (n len : ℕ) → n ≤ 3 → set_fits (layout_of image filter full) n len ≡ eqb len (n * image.height * image.width)
  unfolding layout_of
  length-checked n len few = rw (layout-true, le-leb n 3 few)

-- ---- the number of a pass: 4 and 5 come first

module _ (image filter : Region) (cs : List Check) where
  pub placed_first : (k : ℕ) → k ≡ first_of (placed_checks image filter) → (k ≡ 0 → ⊥) → k ≡ first_of (placed_checks image filter ++ cs)
  placed_first k e h = e ∙ sym (joined-refused (placed_checks image filter) cs tt (λ z. h (e ∙ z)))

  pub placed-then : first_of (placed_checks image filter) ≡ 0 → (k : ℕ) → k ≡ first_of cs → k ≡ first_of (placed_checks image filter ++ cs)
  placed-then ok k e = e ∙ sym (joined-passed (placed_checks image filter) cs tt ok)

not_first : (a b : Bool) → a ≡ false → not (a && b) ≡ true
not_first a b e = rw e

not-second : (a b : Bool) → b ≡ false → not (a && b) ≡ true
not-second true b e = rw e
not-second false b e = refl

module _ (image filter : Region) (n full from to : ℕ) (src dst : List Float) where
  abbrev at-full : Layout
  at-full = layout_of image filter (flag_set full)

  -- the rows after 4 and 5
  abbrev own : List Check
  own = lengths_check image n src dst ∷ planes_check n ∷ flag_check full ∷ rows_check image filter full from to ∷ []

  abbrev Number : ℕ → Type 0
  Number k = k ≡ first_of (pass_checks image filter n full from to src dst)

  pub not-placed : (k : ℕ) → k ≡ first_of (placed_checks image filter) → (k ≡ 0 → ⊥) → Number k
  unfolding pass_checks
  not-placed k e h = placed_first image filter own k e h

  -- the number of planes is wrong: the lengths are not checked
  pub wrong-planes : first_of (placed_checks image filter) ≡ 0 → planes_fit n ≡ false → Number out_of_range
  unfolding pass_checks
  wrong-planes ok e =
      let lengths : applies (lengths_check image n src dst) ≡ false = rw e in
      let fails : applies (planes_check n) ≡ true = rw e in
      placed-then image filter own ok out_of_range (sym (first-number own (planes_check n) (search (found, after, lengths, fails) depth 20)))

  module _ (ok : first_of (placed_checks image filter) ≡ 0) (right : planes_fit n ≡ true) where
    few : n ≤ 3
    few = (planes-few n right).1

    own-number : (k : ℕ) → first_of own ≡ k → Number k
    unfolding pass_checks
    own-number k e = placed-then image filter own ok k (sym e)

    source_is : (b : Bool) → set_fits at-full n (length src) ≡ b → eqb (length src) (n * image.height * image.width) ≡ b
    source_is b e = sym (length-checked image filter (flag_set full) ok n (length src) few) ∙ e

    target_is : (b : Bool) → set_fits at-full n (length dst) ≡ b → eqb (length dst) (n * image.height * image.width) ≡ b
    target_is b e = sym (length-checked image filter (flag_set full) ok n (length dst) few) ∙ e

    wrong-lengths : applies (lengths_check image n src dst) ≡ true → Number wrong_length
    wrong-lengths e = own-number wrong_length (first-number own (lengths_check image n src dst) (search (found, after, e) depth 20))

    pub wrong-source : set_fits at-full n (length src) ≡ false → Number wrong_length
    wrong-source e = wrong-lengths (rw right (not_first _ (eqb (length dst) (n * image.height * image.width)) (source_is false e)))

    pub wrong_target : set_fits at-full n (length dst) ≡ false → Number wrong_length
    wrong_target e = wrong-lengths (rw right (not-second (eqb (length src) (n * image.height * image.width)) _ (target_is false e)))

    module _ (s : set_fits at-full n (length src) ≡ true) (t : set_fits at-full n (length dst) ≡ true) where
      lengths : applies (lengths_check image n src dst) ≡ false
      lengths = rw (right, source_is true s, target_is true t)

      planes : applies (planes_check n) ≡ false
      planes = rw right

      pub wrong-flag : flag_fits full ≡ false → Number out_of_range
      wrong-flag e =
          let fails : applies (flag_check full) ≡ true = rw e in
          own-number out_of_range (first-number own (flag_check full) (search (found, after, lengths, planes, fails) depth 20))

      module _ (f : flag_fits full ≡ true) where
        flag : applies (flag_check full) ≡ false
        flag = rw f

        pub wrong-rows : rows_fit at-full from to ≡ false → Number out_of_range
        wrong-rows e =
            let fails : applies (rows_check image filter full from to) ≡ true = rw (f, e) in
            own-number out_of_range (first-number own (rows_check image filter full from to) (search (found, after, lengths, planes, flag, fails) depth 20))

        pub pass-accepted : rows_fit at-full from to ≡ true → Number 0
        pass-accepted e =
            let passed : applies (rows_check image filter full from to) ≡ false = rw (f, e) in
            own-number 0 (same_number own [] (search (none, drop, lengths, planes, flag, passed) depth 20))

-- ---- for passes: the number and the written set of the pass

pub pass-refused : (k n : ℕ) (left dst : List Float) → k ≡ n → (k ≡ 0 → ⊥) → ◌≡◌ {A = PassOutcome} (record { number = k; target = dst }) (pass_outcome n left dst)
unfolding pass_outcome
pass-refused k n left dst e h = let m : eqb n 0 ≡ false = ne_eqb n 0 (λ (z : n ≡ 0). h (e ∙ z)) in rw (m, e)

pub pass-done : (n : ℕ) (left dst b : List Float) → 0 ≡ n → b ≡ left → ◌≡◌ {A = PassOutcome} (record { number = 0; target = b }) (pass_outcome n left dst)
unfolding pass_outcome
pass-done n left dst b e h = rw (← e, h)
