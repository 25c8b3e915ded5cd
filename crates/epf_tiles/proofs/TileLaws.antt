-- A tile computed from its windows, or from the planes, equals the step over the filter region if no block of it is copied. Assumes nothing.
use mathlib.Core.Path.{◌≡◌, refl, ◌∙◌}
use mathlib.Core.Bool.{true, false, and-false}
use mathlib.Core.List.{List}
use Prim.Native.Nat.{ℕ, ◌+◌, ◌-◌, ◌*◌, ◌/◌, ◌<◌, ◌≤◌}
use native.Mathlib.Decide.{ℕ_discrete}
use native.Mathlib.Omega.{arith}
use lib.ListN.{length}
use lib.Ieee.{Float}
use Rattle.planes.specs.declared.Layout.{Layout}
use Rattle.planes.specs.Samples.{◌⊘◌}
use Rattle.planes.specs.Picture.{Picture, around, Around}
use Rattle.planes.specs.Rect.{planes_fill}
use Rattle.planes.proofs.Join.{planes-cong}
use Rattle.planes.specs.Band.{inner}
use Rattle.frame.specs.Sizes.{blocks_along}
use Rattle.epf_rects.specs.declared.Rect.{Rect}
use Rattle.epf_rects.specs.Rects.{rect_filled, rect_fits, RectFits}
use Rattle.epf_slopes.specs.Slopes.{first_slope, slopes_of, Sloped}
use Rattle.epf_slopes.proofs.Slopes.{sloped, slope-of, multiplier-same}
use Rattle.epf_window.specs.Window.{loaded, WindowFits}
use Rattle.epf_window.proofs.Window.{window-loaded}
use Rattle.epf_step.specs.Steps.{kernel, dists, reach, scaled, copied, blend, divisor, epf, multiplier, epf_pass}
use Rattle.epf_step.proofs.Local.{Alike, epf-same, steps-near, scaled-below}
use Rattle.epf_distances.specs.declared.View.{View}
use Rattle.epf_distances.specs.Taps.{half}
use Rattle.epf_distances.specs.Fields.{fields_fill, distances_of, ViewFits}
use Rattle.epf_distances.proofs.Seen.{seen}
use Rattle.epf_distances.proofs.Fields.{distances-done, neighbour-at}
use Rattle.epf_lanes.specs.Lanes.{lane_of, tile_of, lanes_stored}
use Rattle.epf_lanes.proofs.Lanes.{lanes-done}
use Rattle.epf_lanes.proofs.Meaning.{lane-means}
use Rattle.epf_tiles.specs.declared.Pass.{Pass}
use Rattle.epf_tiles.specs.declared.Step.{Step}
use Rattle.epf_tiles.specs.Blocks.{block_columns, sigma_of}
use Rattle.epf_tiles.specs.Tile.{step_over, TileFits, TileInPass, sigma_start, sigma_first, sigma_in, NoneCopied, tile_stepped}
use Rattle.epf_tiles.specs.Views.{lies_inside, window_view, planes_view}
use Rattle.epf_tiles.proofs.ViewLaws.{windows-alike, planes-alike, inside-facts, planes-fit, window-fits}

-- ---- a lane is the sample of the definition
module _ (l : Layout) (n : ℕ) (s : Step) (top : ℕ) (sigmas src : List Float) (q : Rect) (fits : TileFits l n q) where
  abbrev x : ℕ
  x = q.x

  abbrev y : ℕ
  y = q.y

  -- the multiplier of a sample
  abbrev factor : ℕ → ℕ → Float
  factor r i = multiplier s.scale s.edge (top + y + r) i

  -- the sigma of column i
  sigma-is : (r i : ℕ) → r < q.rows → i < q.cols → sigma_in l q sigmas i ≡ sigma_of (block_columns l) sigmas ((x + i) / 8) ((y + r) / 8)
  sigma-is r i R I =
      let a : (y + r) / 8 ≡ y / 8 = omega (arith, fits.rows-le) in
      let b : (x + i) / 8 ≡ x / 8 + i / 8 = omega (arith, fits.x-aligned) in
      let c : sigma_start l x y + i / 8 ≡ y / 8 * block_columns l + (x / 8 + i / 8) = omega arith in
      rw (a, b, c)

  -- a filtered sample, through a reader that agrees with the definition's
  pub reader-is : (v : Around) (c r i : ℕ) → s.step < 3 → c < n → r < q.rows → i < q.cols → copied (sigma_in l q sigmas i) s.limit ≡ false
      → Alike n (reach s.step) v (around l.width l.height (inner l src) (x + i) (y + r))
      → blend (scaled n s.scales) (kernel s.step) (dists s.step) (sigma_in l q sigmas i) (factor r i) v c ⊘ divisor (scaled n s.scales) (kernel s.step) (dists s.step) (sigma_in l q sigmas i) (factor r i) v
      ≡ step_over n l s top sigmas src c (x + i) (y + r)
  unfolding step_over epf_pass
  reader-is v c r i low C R I uncopied alike =
      let st = s.step in
      let same = epf-same n (reach st) _ _ alike (scaled n s.scales) (kernel st) (dists st) (sigma_in l q sigmas i) (factor r i) (scaled-below n s.scales) (steps-near st low) s.limit c C in
      let row : top + y + r ≡ top + (y + r) = omega arith in
      let by : factor r i ≡ multiplier s.scale s.edge (top + (y + r)) (x + i) = rw row (multiplier-same s.scale s.edge (top + (y + r)) (top + (y + r)) i (x + i) refl (omega (arith, fits.x-aligned))) in
      divided s.limit uncopied ∙ same ∙ rw (sigma-is r i R I, by)
    where
      divided : (limit : Float) → copied (sigma_in l q sigmas i) limit ≡ false
          → blend (scaled n s.scales) (kernel s.step) (dists s.step) (sigma_in l q sigmas i) (factor r i) v c ⊘ divisor (scaled n s.scales) (kernel s.step) (dists s.step) (sigma_in l q sigmas i) (factor r i) v
          ≡ epf (scaled n s.scales) (kernel s.step) (dists s.step) (sigma_in l q sigmas i) (factor r i) limit v c
      divided limit h = unfold epf in rw h

  module _ (slopes : List Float) (steep : Sloped sigmas (sigma_first l q) (blocks_along q.cols) s.scale s.edge slopes) where
    -- a lane, through a view that shows the definition's samples
    pub lane-is : (e e₀ samples : List Float) (v : View) → s.step < 3 → 4320 ≤ length e₀ → ViewFits v n q.rows q.cols (length samples)
        → e ≡ fields_fill s.step (scaled n s.scales) samples v q.rows q.cols e₀ (half s.step)
        → ((r i : ℕ) → r < q.rows → i < q.cols → Alike n (reach s.step) (seen samples v (v.corner + r * v.stride + i)) (around l.width l.height (inner l src) (x + i) (y + r)))
        → (c r i : ℕ) → c < n → r < q.rows → i < q.cols → copied (sigma_in l q sigmas i) s.limit ≡ false
        → lane_of s.step e slopes samples v (first_slope (top + y + r)) c i r ≡ step_over n l s top sigmas src c (x + i) (y + r)
    lane-is e e₀ samples v low le fit ee alike c r i C R I uncopied =
        let st = s.step in
        let cs = scaled n s.scales in
        lane-means st cs e slopes samples v (first_slope (top + y + r)) c r i (sigma_in l q sigmas i) (factor r i)
        (λ k h. rw ee (neighbour-at st cs samples v n q.rows q.cols e₀ fit le k r i h R I))
        (slope-of sigmas slopes (sigma_first l q) (blocks_along q.cols) s.scale s.edge (top + y + r) i steep (omega arith))
        ∙ reader-is (seen samples v (v.corner + r * v.stride + i)) c r i low C R I uncopied (alike r i R I)

-- ---- how a tile is computed

-- a tile computed with these slopes holds the step's samples, for any sigmas that have these slopes and copy no block of it
abbrev pub FilteredBy : Pass → List Float → List Float → Rect → List Float → List Float → Type 0
FilteredBy p slopes src q d a = (sigmas : List Float) → Sloped sigmas (sigma_first p.layout q) (blocks_along q.cols) p.settings.scale p.settings.edge slopes → NoneCopied p sigmas q → a ≡ tile_stepped p q sigmas src d

module _ (p : Pass) (src : List Float) (q : Rect) (d : List Float) (fit : TileInPass p q (length src) (length d)) where
  abbrev l : Layout
  l = p.layout

  abbrev n : ℕ
  n = p.planes

  abbrev s : Step
  s = p.settings

  abbrev top : ℕ
  top = p.top

  abbrev fits : TileFits l n q
  fits = fit.tile

  abbrev room : RectFits l n q (length d)
  room = fit.room

  windows-fit : WindowFits l n (length src) q.x q.y s.step (q.rows + 6 - 2 * s.step) (q.cols + 8)
  windows-fit = record {
    layout = room.layout;
    planes-le = room.planes-le;
    source = fit.same ∙ room.set;
    x_lt = omega (arith, fits.across, fits.cols-pos);
    y-lt = omega (arith, fits.down, fits.rows-pos);
    rows-le = omega (arith, fits.rows-le, fit.step-lt);
    cols-ge = omega arith;
    cols-le = omega (arith, fits.cols-le);
  }

  small : q.rows ≤ 8
  small = omega (arith, fits.rows-le)

  -- no sigma copies, so a picture that is the step's where none does is the step's
  filled : (sigmas : List Float) → NoneCopied p sigmas q → (o : Picture) (a : List Float) → a ≡ rect_filled l n q o d
      → ((c r i : ℕ) → c < n → r < q.rows → i < q.cols → copied (sigma_in l q sigmas i) s.limit ≡ false → o c i r ≡ step_over n l s top sigmas src c (q.x + i) (q.y + r)) → a ≡ tile_stepped p q sigmas src d
  filled sigmas none o a stored agrees = stored ∙ planes-cong _ _ _ _ _ _ _ _ d n (λ c i r C I R. agrees c r i C R I (none (i / 8) (omega arith)))

  module _ (samples : List Float) (v : View) (e₀ slopes : List Float) where
    abbrev fields : List Float
    fields = distances_of s.step n s.scales samples v q.rows q.cols e₀

    -- what `filter_view` leaves
    abbrev Stored : List Float → Type 0
    Stored a = a ≡ lanes_stored s.step fields slopes samples v l n (top + q.y) q d

    -- no plane
    none-filtered : (a : List Float) → n ≡ 0 → Stored a → FilteredBy p slopes src q d a
    unfolding lanes_stored planes_fill
    none-filtered a z ea sigmas steep none = rw (z, and-false (rect_fits l 0 q (length d))) at ea ∙ rw z

    viewed : (a : List Float) → length e₀ ≡ 4320 → ViewFits v n q.rows q.cols (length samples) → (s.step ≡ 0 → (v.plane ≡ 1008) × (v.stride ≡ 72))
        → ((r i : ℕ) → r < q.rows → i < q.cols → Alike n (reach s.step) (seen samples v (v.corner + r * v.stride + i)) (around l.width l.height (inner l src) (q.x + i) (q.y + r)))
        → Stored a → FilteredBy p slopes src q d a
    viewed a le reads windows alike ea sigmas steep none =
        filled sigmas none (tile_of s.step fields slopes samples v (top + q.y)) a (ea ∙ lanes-done s.step fields slopes samples v l n (top + q.y) q d room reads windows)
        (lane-is l n s top sigmas src q fits slopes steep fields e₀ samples v fit.step-lt (omega (arith, le)) reads (distances-done s.step n s.scales samples v q.rows q.cols e₀ reads) alike)

  -- from its windows
  pub window-filtered : (v : View) (w₀ win e₀ slopes a : List Float) → v ≡ window_view → length w₀ ≡ 3032 → length win ≡ 3032 → length e₀ ≡ 4320 → win ≡ loaded l n src q.x q.y s.step (q.rows + 6 - 2 * s.step) (q.cols + 8) w₀
      → Stored win v e₀ slopes a → FilteredBy p slopes src q d a
  window-filtered v w₀ win e₀ slopes a z lw lv le ew stored = go (ℕ_discrete n 0)
    where
      ea : Stored win window_view e₀ slopes a
      ea = rw z at stored

      go : Dec (n ≡ 0) → FilteredBy p slopes src q d a
      go (yes z) = none-filtered win window_view e₀ slopes a z ea
      go (no k) =
          viewed win window_view e₀ slopes a le (window-fits n q.rows q.cols (length win) (omega (arith, k)) fits.planes-le fits.rows-pos small fits.cols-le lv) (λ z. (refl, refl))
          (windows-alike l src win w₀ n s.step q.x q.y q.rows q.cols fits.planes-le fit.step-lt small fits.cols-le lw (ew ∙ window-loaded l n src q.x q.y s.step (q.rows + 6 - 2 * s.step) (q.cols + 8) w₀ windows-fit)) ea

  -- from the planes
  pub planes-filtered : (v : View) (e₀ slopes a : List Float) → v ≡ planes_view l q → length e₀ ≡ 4320 → (s.step ≡ 0 → ⊥) → lies_inside l q ≡ true → Stored src v e₀ slopes a → FilteredBy p slopes src q d a
  planes-filtered v e₀ slopes a z le later f stored = go (ℕ_discrete n 0)
    where
      ea : Stored src (planes_view l q) e₀ slopes a
      ea = rw z at stored

      go : Dec (n ≡ 0) → FilteredBy p slopes src q d a
      go (yes z) = none-filtered src (planes_view l q) e₀ slopes a z ea
      go (no k) =
          let i = inside-facts l q f in
          viewed src (planes_view l q) e₀ slopes a le (rw (← fit.same) at (planes-fit l q n (length d) (omega (arith, k)) i room small fits.cols-le)) (λ z. absurd (later z)) (planes-alike l src n s.step q i) ea

  -- the slopes of its columns
  pub tile-sloped : (sigmas e slopes : List Float) → sigma_first l q + blocks_along q.cols ≤ length sigmas → length e ≡ 128 → slopes ≡ slopes_of sigmas (sigma_first l q) (blocks_along q.cols) s.scale s.edge e
      → Sloped sigmas (sigma_first l q) (blocks_along q.cols) s.scale s.edge slopes
  tile-sloped sigmas e slopes h k m = sloped sigmas e slopes (sigma_first l q) (blocks_along q.cols) s.scale s.edge (omega (arith, fits.cols-le)) h k m
