-- The invariant that accepted calls keep. The set that is read holds the input after the completed passes inside the filter region and the
-- first set's samples outside it. The other set holds one more pass in the rows of each band that is done. Assumes nothing.
use mathlib.Core.Path.{◌≡◌, refl, sym, ◌∙◌}
use mathlib.Core.Bool.{Bool, true, false, true≢false, false≢true, not, cond}
use mathlib.Core.List.{List, [], ◌∷◌}
use mathlib.Core.Logic.{inl, inr}
use Prim.Native.Nat.{ℕ, zero, suc, ◌+◌, ◌-◌, ◌/◌, ◌%◌, ◌<◌}
use native.Mathlib.Decide.{ℕ_discrete}
use native.Mathlib.Omega.{arith}
use borrow.Author.Tests.{eq-eqb, ne_eqb}
use lib.Dec.{eqb}
use lib.ListN.{length, get_or}
use lib.Ieee.{Float}
use Rattle.planes.specs.declared.Layout.{Layout}
use Rattle.planes.specs.Picture.{Picture, in_rect}
use Rattle.planes.proofs.Rect.{Between, between}
use Rattle.planes.proofs.SetLaws.{length-set_of}
use Rattle.planes.specs.Fits.{LayoutFits}
use Rattle.planes.specs.Band.{result_top, in_filter, written, inner, passed}
use Rattle.planes_layout.specs.Outcome.{layout_of}
use Rattle.run_passes.specs.Pass.{Area, Pass, gabor_like, pass}
use Rattle.run_passes.specs.Near.{IsSound}
use Rattle.run_passes.proofs.Near.{pass-cong}
use Rattle.run_passes.specs.Cut.{AllSound}
use Rattle.run_passes.proofs.Cut.{plan-sound}
use Rattle.run_passes.proofs.Stages.{stage}
use Rattle.run_setup.specs.declared.Setup.{Setup}
use Rattle.run_setup.specs.Setup.{passes_of, layout, area, band_from, band_to, set_length, sigma_length}
use Rattle.run_record.specs.Record.{is_done, started, marked, advanced}
use Rattle.run_record.proofs.Done.{started_none, started-flags, marked_other, marked-flags, advanced-none, advanced-flags}
use Rattle.run_setup.proofs.Laws.{setup-fits, setup-layout, band-of}
use Rattle.run_record.specs.RunFits.{RunFits}
use Rattle.run_record.proofs.Laws.{Open, Over, pass-left, started-fits, marked-fits, advanced-fits}
use Rattle.run_outcomes.specs.Start.{Handed, start_leaves, sigmas_filled}
use Rattle.run_outcomes.specs.Band.{State, reads_first, source, target, next_pass, banded, band_accepted}
use Rattle.run_outcomes.proofs.Laws.{PictureFits, leaves-length, sigmas-length}
use Rattle.run_calls.proofs.Rows.{sample_of, filtered, InResult, filter-in-result, filtered-inside, written_at, sample-after}

abbrev area_of : State → Area
area_of t = area t.run.setup t.sigmas

-- the input after its first k passes, with the first set's samples outside the filter region; `first` is the first set after start
abbrev pub staged : List Float → State → ℕ → Picture
staged first t k =
    let l = layout t.run.setup in
    filtered l (stage (area_of t) (passes_of t.run.setup) (inner l first) k) first

-- column x and row y of the image lie in the rows of band k
abbrev in_band : Setup → ℕ → ℕ → ℕ → Bool
in_band s k x y = written (layout s) (band_from s k) (band_to s k) x y

pub record Sound (first : List Float) (t : State) : Type 0 where
  pub run : RunFits t.run
  pub flags : length t.run.done ≡ 256
  pub first-length : length t.first ≡ set_length t.run.setup
  pub second-length : length t.second ≡ set_length t.run.setup
  pub sigma-length : length t.sigmas ≡ sigma_length t.run.setup
  -- the set that is read
  pub reads : (c x y : ℕ) → c < t.run.setup.planes → InResult (layout t.run.setup) x y → sample_of (layout t.run.setup) (source t) c x y ≡ staged first t t.run.pass c x y
  -- the rows of bands that are done, in the other set
  pub done : (k : ℕ) → is_done t.run k ≡ true → (c x y : ℕ) → c < t.run.setup.planes → InResult (layout t.run.setup) x y → in_band t.run.setup k x y ≡ true
      → sample_of (layout t.run.setup) (target t) c x y ≡ staged first t (suc t.run.pass) c x y

-- ---- positions of the filter region, as columns and rows of the image

pub record InFilter (l : Layout) (x y : ℕ) : Type 0 where
  pub left : l.left + (x - l.left) ≡ x
  pub top : l.top + (y - l.top) ≡ y
  pub column : x - l.left < l.width
  pub row : y - l.top < l.height

in-filter : (l : Layout) (x y : ℕ) → in_filter l x y ≡ true → InFilter l x y
unfolding in_filter in_rect
in-filter l x y e = go (between l.left l.width x) (between l.top l.height y)
  where
    go : Between l.left l.width x → Between l.top l.height y → InFilter l x y
    go (inl a) (inl b) = record { left = omega (arith, a.0); top = omega (arith, b.0); column = omega (arith, a.0, a.1); row = omega (arith, b.0, b.1) }
    go (inl a) (inr b) = absurd (true≢false (sym e ∙ rw (a.2, b.1)))
    go (inr a) b = absurd (true≢false (sym e ∙ rw a.1))

-- pictures that agree inside and outside the filter region are the same
filtered-same : (l : Layout) (p q : Picture) (u v : List Float) (c x y : ℕ) → (InFilter l x y → p c (x - l.left) (y - l.top) ≡ q c (x - l.left) (y - l.top))
    → (in_filter l x y ≡ false → sample_of l u c x y ≡ sample_of l v c x y) → filtered l p u c x y ≡ filtered l q v c x y
filtered-same l p q u v c x y f g = go (in_filter l x y) refl
  where
    go : (b : Bool) → in_filter l x y ≡ b → cond b (p c (x - l.left) (y - l.top)) (sample_of l u c x y) ≡ cond b (q c (x - l.left) (y - l.top)) (sample_of l v c x y)
    go true e = f (in-filter l x y e)
    go false e = g e

-- ---- at the start

-- no pass: the set itself
none-staged : (l : Layout) (first : List Float) (c x y : ℕ) → sample_of l first c x y ≡ filtered l (inner l first) first c x y
unfolding inner
none-staged l first c x y = go (in_filter l x y) refl
  where
    go : (b : Bool) → in_filter l x y ≡ b → sample_of l first c x y ≡ cond b (sample_of l first c (l.left + (x - l.left)) (l.top + (y - l.top))) (sample_of l first c x y)
    go true e = let i = in-filter l x y e in rw (i.left, i.top)
    go false e = refl

-- the state after an accepted start
abbrev pub begun : Handed → State
begun h = record { run = started h.setup; sigmas = sigmas_filled h; first = start_leaves h; second = h.second }

pub sound-start : (h : Handed) → PictureFits h → Sound (start_leaves h) (begun h)
unfolding started reads_first stage
sound-start h f =
    record {
      run = started-fits h.setup f.setup;
      flags = started-flags h.setup;
      first-length = leaves-length h ∙ f.first;
      second-length = f.second;
      sigma-length = sigmas-length h f;
      reads = λ c x y p i. none-staged (layout h.setup) (start_leaves h) c x y;
      done = λ k d. absurd (false≢true (sym (started_none h.setup k) ∙ d));
    }

-- ---- a band leaves the set that is read unchanged and writes the other

kept-source : (e : Bool) (a b m : List Float) → cond e (cond e a m) (cond e m b) ≡ cond e a b
kept-source true a b m = refl
kept-source false a b m = refl

new-target : (e : Bool) (a b m : List Float) → cond e (cond e m b) (cond e a m) ≡ m
new-target true a b m = refl
new-target false a b m = refl

cond-length : (e : Bool) (a b : List Float) (m : ℕ) → length a ≡ m → length b ≡ m → length (cond e a b) ≡ m
cond-length true a b m p q = p
cond-length false a b m p q = q

length-banded : (t : State) (k : ℕ) → length (banded t k) ≡ set_length t.run.setup
unfolding banded passed layout_of
length-banded t k = length-set_of t.run.setup.planes t.run.setup.image.width t.run.setup.image.height _

-- a pass of the plan is a valid one
sound-at : (n : ℕ) (ps : List Pass) (k : ℕ) → AllSound n ps → k < length ps → IsSound n (get_or ps k (gabor_like []))
sound-at n [] k a h = absurd (omega arith)
sound-at n (p ∷ ps) zero a h = a.0
sound-at n (p ∷ ps) (suc k) a h = sound-at n ps k a.1 (omega arith)

module _ (first : List Float) (t : State) (k : ℕ) (keeps : Sound first t) (free : Open t.run k) where
  abbrev setup : Setup
  setup = t.run.setup

  lies : LayoutFits (layout setup)
  lies = (setup-layout setup (setup-fits setup keeps.run.setup)).fits

  -- the filter region of the set that is read
  abbrev reading : Picture
  reading = inner (layout setup) (source t)

  reading-is : (c x y : ℕ) → c < t.run.setup.planes → x < setup.filter.width → y < setup.filter.height
      → reading c x y ≡ stage (area_of t) (passes_of setup) (inner (layout setup) first) t.run.pass c x y
  unfolding inner layout_of
  reading-is c x y h i j =
      let l = layout setup in
      keeps.reads c (l.left + x) (l.top + y) h (filter-in-result l lies x y i j) ∙ filtered-inside l lies (stage (area_of t) (passes_of setup) (inner l first) t.run.pass) first c x y i j

  -- the pass turns it into one more pass, at each position of the result region
  given_is : (c x y : ℕ) → c < t.run.setup.planes → InResult (layout setup) x y
      → filtered (layout setup) (pass (area_of t) (next_pass t.run) reading) (source t) c x y ≡ staged first t (suc t.run.pass) c x y
  unfolding stage layout_of
  given_is c x y h i =
      let ps : List Pass = passes_of setup in
      let more : t.run.pass < length ps = pass-left t.run keeps.run free.unfinished in
      let so_far : Picture = stage (area_of t) ps (inner (layout setup) first) t.run.pass in
      filtered-same (layout setup) (pass (area_of t) (next_pass t.run) reading) (pass (area_of t) (next_pass t.run) so_far) (source t) first c x y
      (λ f. pass-cong setup.planes (next_pass t.run) (sound-at setup.planes ps t.run.pass (plan-sound setup.planes setup.settings) more) (area_of t) reading so_far reading-is c _ _ h f.column f.row)
      (λ o. keeps.reads c x y h i ∙ rw o)

  -- after the band its own rows hold that, and all others are unchanged
  done-after : (j : ℕ) → is_done (marked t.run k) j ≡ true → (c x y : ℕ) → c < t.run.setup.planes → InResult (layout setup) x y → in_band setup j x y ≡ true
      → sample_of (layout setup) (banded t k) c x y ≡ staged first t (suc t.run.pass) c x y
  unfolding banded
  done-after j d c x y h i b = sample-after (layout setup) lies x y i setup.planes (band_from setup k) (band_to setup k) (pass (area_of t) (next_pass t.run) reading) (source t) (target t) c h ∙ go (in_band setup k x y) refl
    where
      go : (wrote : Bool) → in_band setup k x y ≡ wrote
          → cond wrote (filtered (layout setup) (pass (area_of t) (next_pass t.run) reading) (source t) c x y) (sample_of (layout setup) (target t) c x y) ≡ staged first t (suc t.run.pass) c x y
      go true e = given_is c x y h i
      go false e = keeps.done j (sym (marked_other t.run k j (λ (z : j ≡ k). false≢true (sym e ∙ (rw z at b)))) ∙ d) c x y h i b

  pub sound-band : Sound first (band_accepted t k)
  unfolding marked reads_first
  sound-band =
      let e : Bool = eqb (t.run.pass % 2) 0 in
      let src : source (band_accepted t k) ≡ source t = kept-source e t.first t.second (banded t k) in
      let dst : target (band_accepted t k) ≡ banded t k = new-target e t.first t.second (banded t k) in
      record {
        run = marked-fits t.run k keeps.run free;
        flags = marked-flags t.run k ∙ keeps.flags;
        first-length = cond-length e t.first (banded t k) (set_length setup) keeps.first-length (length-banded t k);
        second-length = cond-length e (banded t k) t.second (set_length setup) (length-banded t k) keeps.second-length;
        sigma-length = keeps.sigma-length;
        reads = λ c x y h i. rw src (keeps.reads c x y h i);
        done = λ j d c x y h i b. rw dst (done-after j d c x y h i b);
      }

-- ---- an advance exchanges the sets

turned : (p : ℕ) → eqb (suc p % 2) 0 ≡ not (eqb (p % 2) 0)
turned p = go (ℕ_discrete (p % 2) 0)
  where
    go : Dec (p % 2 ≡ 0) → eqb (suc p % 2) 0 ≡ not (eqb (p % 2) 0)
    go (yes e) = rw (eq-eqb (p % 2) 0 e) (ne_eqb (suc p % 2) 0 (λ (z : suc p % 2 ≡ 0). omega arith))
    go (no e) = rw (ne_eqb (p % 2) 0 e) (eq-eqb (suc p % 2) 0 (omega arith))

cond-not : (e : Bool) (a b : List Float) → cond (not e) a b ≡ cond e b a
cond-not true a b = refl
cond-not false a b = refl

-- an accepted advance changes only the record
abbrev pub turned_over : State → State
turned_over t = record { run = advanced t.run; sigmas = t.sigmas; first = t.first; second = t.second }

module _ (first : List Float) (t : State) (keeps : Sound first t) (over : Over t.run) where
  -- every row of the result region lies in a band that is done
  all_done : (c x y : ℕ) → c < t.run.setup.planes → InResult (layout t.run.setup) x y → sample_of (layout t.run.setup) (target t) c x y ≡ staged first t (suc t.run.pass) c x y
  all_done c x y h i =
      let s : Setup = t.run.setup in
      let fits = setup-fits s keeps.run.setup in
      let row : ℕ = y - result_top (layout s) in
      let b = band-of s fits row (omega (arith, i.top, i.bottom)) in
      keeps.done (row / s.band_height) (over.done (row / s.band_height) b.0) c x y h i (written_at (layout s) (setup-layout s fits).fits x y i _ _ b.1.from b.1.to)

  pub sound-advance : Sound first (turned_over t)
  unfolding advanced reads_first
  sound-advance =
      let src : source (turned_over t) ≡ target t = rw (turned t.run.pass) (cond-not (eqb (t.run.pass % 2) 0) t.first t.second) in
      record {
        run = advanced-fits t.run keeps.run over;
        flags = advanced-flags t.run;
        first-length = keeps.first-length;
        second-length = keeps.second-length;
        sigma-length = keeps.sigma-length;
        reads = λ c x y h i. rw src (all_done c x y h i);
        done = λ k d. absurd (false≢true (sym (advanced-none t.run k) ∙ d));
      }
