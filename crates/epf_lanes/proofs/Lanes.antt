-- A lane computed by four neighbours at a time is the lane of the definition; vectors make rows, and rows a tile. Assumes nothing.
use mathlib.Core.Path.{◌≡◌, refl, sym, ap, ◌∙◌}
use mathlib.Core.Bool.{true, not, ◌&&◌, ◌||◌}
use mathlib.Core.List.{List}
use Prim.Native.Nat.{ℕ, zero, suc, ◌+◌, ◌-◌, ◌*◌, ◌%◌, ◌<◌, ◌≤◌, min}
use native.Mathlib.Omega.{arith}
use borrow.Author.Tests.{eq-eqb, ne_eqb}
use lib.Dec.{eqb}
use lib.ListN.{length, get_or}
use lib.Ieee.{Float, nan}
use Rattle.planes.specs.declared.Layout.{Layout}
use Rattle.planes.specs.Samples.{◌⊕◌, ◌⊗◌, ◌⊘◌, b1}
use Rattle.planes.specs.Rect.{planes_fill}
use Rattle.planes.proofs.Join.{rect-below, rect-beside}
use Rattle.epf_rects.specs.declared.Rect.{Rect}
use Rattle.epf_rects.specs.Rects.{rect_filled, RectFits}
use Rattle.epf_rects.proofs.Rects.{rect-true}
use Rattle.epf_step.specs.Steps.{kernel}
use Rattle.epf_slopes.specs.Slopes.{first_slope}
use Rattle.epf_slopes.proofs.Slopes.{first-same}
use Rattle.epf_distances.specs.declared.View.{View}
use Rattle.epf_distances.specs.Taps.{tap_of}
use Rattle.epf_distances.specs.Fields.{ViewFits}
use Rattle.epf_lanes.specs.declared.Four.{Four}
use Rattle.epf_lanes.specs.declared.LaneWeights.{LaneWeights}
use Rattle.epf_vectors.specs.Lanes.{lanes_of}
use Rattle.epf_vectors.proofs.Rows.{lane-is}
use Rattle.epf_lanes.specs.Lanes.{weights_to, samples_to, weight_in, weight_of, neighbour_of, lane_of, ◌⊞◌, field_weight, weights_in, four_of, no_four, sums_of, weights_of, mix_of, row_of, tile_of, lanes_stored}
use Rattle.epf_lanes.specs.Divisors.{LaneBounded}
use Rattle.epf_lanes.proofs.Divisors.{lane-bounded}
use Rattle.epf_distances.proofs.Fields.{view-true}
use Rattle.epf_lanes.proofs.Vectors.{each-lane}

twelve-neighbours : length (kernel 0) ≡ 12
unfolding kernel
twelve-neighbours = refl

four-neighbours : (s : ℕ) → length (kernel (suc s)) ≡ 4
unfolding kernel
four-neighbours s = refl

pub twelve : (step : ℕ) → step ≡ 0 → length (kernel step) ≡ 12
twelve step h = rw h twelve-neighbours

pub four : (step : ℕ) → (step ≡ 0 → ⊥) → length (kernel step) ≡ 4
four zero h = absurd (h refl)
four (suc s) h = four-neighbours s

pub four-at-least : (step : ℕ) → 4 ≤ length (kernel step)
four-at-least zero = omega (arith, twelve-neighbours)
four-at-least (suc s) = omega (arith, four-neighbours s)

pub ruleset kernel_lengths = (twelve, four-at-least)

-- ---- four neighbours at a time

weights-four : (f : ℕ → Float) (v : Float) (q : ℕ) → v ≡ weights_to f q → v ⊕ f q ⊕ f (q + 1) ⊕ f (q + 2) ⊕ f (q + 3) ≡ weights_to f (q + 4)
unfolding weights_to
weights-four f v q e =
    let a : q + 1 ≡ suc q = omega arith in
    let b : q + 2 ≡ suc (suc q) = omega arith in
    let c : q + 3 ≡ suc (suc (suc q)) = omega arith in
    let d : q + 4 ≡ suc (suc (suc (suc q))) = omega arith in
    rw (e, a, b, c, d)

-- the weighted samples of neighbours q to q + 3 added to v
abbrev plus_four : (ℕ → Float) → (ℕ → Float) → Float → ℕ → Float
plus_four f s v q = v ⊕ f q ⊗ s q ⊕ f (q + 1) ⊗ s (q + 1) ⊕ f (q + 2) ⊗ s (q + 2) ⊕ f (q + 3) ⊗ s (q + 3)

samples-four : (f s : ℕ → Float) (x v : Float) (q : ℕ) → v ≡ samples_to f s x q → plus_four f s v q ≡ samples_to f s x (q + 4)
unfolding samples_to
samples-four f s x v q e =
    let a : q + 1 ≡ suc q = omega arith in
    let b : q + 2 ≡ suc (suc q) = omega arith in
    let c : q + 3 ≡ suc (suc (suc q)) = omega arith in
    let d : q + 4 ≡ suc (suc (suc (suc q))) = omega arith in
    rw (e, a, b, c, d)

samples-same : (f s t : ℕ → Float) (x y : Float) (n : ℕ) → x ≡ y → ((q : ℕ) → s q ≡ t q) → samples_to f s x n ≡ samples_to f t y n
unfolding samples_to
samples-same f s t x y zero e h = e
samples-same f s t x y (suc n) e h = rw (samples-same f s t x y n e h, h n)

-- ---- `weights`

-- four weights of each lane after index j of a field
pub four-in : (step : ℕ) (e slopes : List Float) (r i j q : ℕ) (w : Four) → j ≡ r * 72 + i → w ≡ four_of (field_weight step e slopes j) q → w ≡ four_of (weights_in step e slopes r i) q
four-in step e slopes r i j q w ej ew = ew ∙ rw (same q, same (q + 1), same (q + 2), same (q + 3))
  where
    same : (n : ℕ) → lanes_of (field_weight step e slopes j n) ≡ lanes_of (weights_in step e slopes r i n)
    same n = each-lane (field_weight step e slopes j n) (weights_in step e slopes r i n) (λ k. let z : (tap_of step n).start + j + k ≡ (tap_of step n).start + r * 72 + (i + k) = omega arith in rw z)

-- four more weights are added
summed : (f : ℕ → ℕ → Float) (q : ℕ) (w : Four) (x y : List Float) → w ≡ four_of f q → x ≡ sums_of f q → y ≡ x ⊞ w.a ⊞ w.b ⊞ w.c ⊞ w.d → y ≡ sums_of f (q + 4)
summed f q w x y ew ex ey =
    ey ∙ rw (ew, ex)
    (each-lane (λ k. weights_to (λ n. f n k) q ⊕ f q k ⊕ f (q + 1) k ⊕ f (q + 2) k ⊕ f (q + 3) k) (λ k. weights_to (λ n. f n k) (q + 4)) (λ k. weights-four (λ n. f n k) (weights_to (λ n. f n k) q) q refl))

none-summed : (f : ℕ → ℕ → Float) → lanes_of (λ k. b1) ≡ sums_of f 0
unfolding weights_to
none-summed f = refl

module _ (step : ℕ) (e slopes : List Float) (r i : ℕ) where
  abbrev each : ℕ → ℕ → Float
  each = weights_in step e slopes r i

  abbrev Bounded : List Float → Type 0
  Bounded sums = (k : ℕ) → k < 4 → LaneBounded step e (get_or slopes k nan) r (i + k) (get_or sums k nan)

  bounded : (n : ℕ) → n ≡ length (kernel step) → Bounded (sums_of each n)
  bounded n en k l =
      let lane : get_or (sums_of each n) k nan ≡ weights_to (weight_in step e (get_or slopes k nan) r (i + k)) n = lane-is (λ k. weights_to (λ q. each q k) n) k l in
      rw (lane, en) (lane-bounded step e (get_or slopes k nan) r (i + k))

  abbrev Weighed : LaneWeights → Type 0
  Weighed w = (w ≡ weights_of step each) × Bounded w.sum

  pub four-weighed : (step ≡ 0 → ⊥) → (u : Four) (x : List Float) → u ≡ four_of each 0 → x ≡ lanes_of (λ k. b1) ⊞ u.a ⊞ u.b ⊞ u.c ⊞ u.d → Weighed (record { u = u; v = no_four; w = no_four; sum = x })
  four-weighed h u x eu ex =
      let sum : x ≡ sums_of each 4 = summed each 0 u (lanes_of (λ k. b1)) x eu (none-summed each) ex in
      (rw (ne_eqb step 0 h, eu, sum), rw sum (bounded 4 (sym (four step h))))

  pub twelve-weighed : step ≡ 0 → (u v w : Four) (x y z : List Float) → u ≡ four_of each 0 → v ≡ four_of each 4 → w ≡ four_of each 8
      → x ≡ lanes_of (λ k. b1) ⊞ u.a ⊞ u.b ⊞ u.c ⊞ u.d → y ≡ x ⊞ v.a ⊞ v.b ⊞ v.c ⊞ v.d → z ≡ y ⊞ w.a ⊞ w.b ⊞ w.c ⊞ w.d → Weighed (record { u = u; v = v; w = w; sum = z })
  twelve-weighed h u v w x y z eu ev ew ex ey ez =
      let sum : z ≡ sums_of each 12 = summed each 8 w y z ew (summed each 4 v x y ev (summed each 0 u (lanes_of (λ k. b1)) x eu (none-summed each) ex) ey) ez in
      (rw (eq-eqb step 0 h, eu, ev, ew, sum), rw sum (bounded 12 (sym (twelve step h))))

-- ---- four lanes

none-added : (f s : ℕ → Float) (x : Float) → x ≡ samples_to f s x 0
unfolding samples_to
none-added f s x = refl

-- lane k of the samples whose corners start at index p, with the weights f
module _ (step : ℕ) (f : ℕ → ℕ → Float) (src : List Float) (across p k : ℕ) where
  abbrev weight : ℕ → Float
  weight q = f q k

  abbrev sample : ℕ → Float
  sample q = get_or src (p + ((tap_of step q).row * across + (tap_of step q).col) + k) nan

  abbrev centre : Float
  centre = get_or src (p + (3 * across + 4) + k) nan

  abbrev mixed_lane : Float
  mixed_lane = samples_to weight sample centre (length (kernel step)) ⊘ weights_to weight (length (kernel step))

  abbrev added : Float
  added = plus_four weight sample centre 0

  four-mixed : length (kernel step) ≡ 4 → added ⊘ weights_to weight 4 ≡ mixed_lane
  four-mixed e = rw e (ap (λ (y : Float). y ⊘ weights_to weight 4) (samples-four weight sample centre centre 0 (none-added weight sample centre)))

  twelve-mixed : length (kernel step) ≡ 12 → plus_four weight sample (plus_four weight sample added 4) 8 ⊘ weights_to weight 12 ≡ mixed_lane
  twelve-mixed e =
      rw e
      (ap (λ (y : Float). y ⊘ weights_to weight 12) (samples-four weight sample centre _ 8 (samples-four weight sample centre _ 4 (samples-four weight sample centre centre 0 (none-added weight sample centre)))))

mixed : (step : ℕ) (f : ℕ → ℕ → Float) (src : List Float) (across p : ℕ) → mix_of step src across p (weights_of step f) ≡ lanes_of (mixed_lane step f src across p)
mixed zero f src across p =
    rw (twelve-mixed 0 f src across p 0 twelve-neighbours, twelve-mixed 0 f src across p 1 twelve-neighbours, twelve-mixed 0 f src across p 2 twelve-neighbours, twelve-mixed 0 f src across p 3 twelve-neighbours)
mixed (suc n) f src across p =
    rw (ne_eqb (suc n) 0 (λ z. omega (arith, z)))
    (rw (four-mixed (suc n) f src across p 0 (four-neighbours n), four-mixed (suc n) f src across p 1 (four-neighbours n), four-mixed (suc n) f src across p 2 (four-neighbours n), four-mixed (suc n) f src across p 3 (four-neighbours n)))

module _ (step : ℕ) (e slopes src : List Float) (v : View) (first c i r : ℕ) where
  abbrev of_lanes : ℕ → ℕ → Float
  of_lanes q k = weight_of step e slopes first r (i + k) q

  abbrev corner_at : ℕ
  corner_at = c * v.plane + (v.corner + r * v.stride + i)

  -- the samples after the first lane's corner are those of the lanes
  seen_same : (k : ℕ) → mixed_lane step of_lanes src v.stride corner_at k ≡ row_of step e slopes src v first r c (i + k) 0
  unfolding lane_of neighbour_of
  seen_same k =
      let n = length (kernel step) in
      ap (λ (y : Float). y ⊘ weights_to (λ q. of_lanes q k) n)
      (samples-same (λ q. of_lanes q k) _ _ _ _ n (ap (λ (j : ℕ). get_or src j nan) (omega arith)) (λ q. ap (λ (j : ℕ). get_or src j nan) (omega arith)))

  -- the weights by the slopes that start at `first`
  steep : weights_of step (weights_in step e (lanes_of (λ k. get_or slopes (first + (i + k)) nan)) r i) ≡ weights_of step of_lanes
  unfolding weight_of
  steep = refl

  pub lanes-mixed : (s x : List Float) (w : LaneWeights) → s ≡ lanes_of (λ k. get_or slopes (first + (i + k)) nan) → w ≡ weights_of step (weights_in step e s r i) → x ≡ mix_of step src v.stride corner_at w
      → x ≡ lanes_of (λ k. row_of step e slopes src v first r c (i + k) 0)
  lanes-mixed s x w es ew ex =
      ex ∙ rw (ew, es, steep) (mixed step of_lanes src v.stride corner_at ∙ each-lane (mixed_lane step of_lanes src v.stride corner_at) (λ k. row_of step e slopes src v first r c (i + k) 0) seen_same)

-- ---- a tile in any step

-- steps 1 and 2 have the same lanes
lanes-same : (s : ℕ) (e slopes src : List Float) (v : View) (top : ℕ) → tile_of 1 e slopes src v top ≡ tile_of (suc s) e slopes src v top
unfolding lane_of weight_of neighbour_of tap_of kernel
lanes-same s e slopes src v top = refl

pub tile-later : (step : ℕ) (e slopes src : List Float) (v : View) (top : ℕ) → (step ≡ 0 → ⊥) → tile_of 1 e slopes src v top ≡ tile_of step e slopes src v top
tile-later zero e slopes src v top h = absurd (h refl)
tile-later (suc s) e slopes src v top h = lanes-same s e slopes src v top

-- ---- the loops: one more vector, and one more row

module _ (step : ℕ) (e slopes src : List Float) (v : View) (l : Layout) (n : ℕ) (q : Rect) (d a b : List Float) (g : RectFits l n q (length d)) where
  pub vector-beside : (first r k : ℕ) → r < q.rows → 4 * k < q.cols
      → a ≡ planes_fill l.image.width l.image.height (l.left + q.x) (min (4 * k) q.cols) (l.top + q.y + r) 1 (row_of step e slopes src v first r) d n
      → b ≡ planes_fill l.image.width l.image.height (l.left + q.x + 4 * k) (min (q.cols - 4 * k) 4) (l.top + q.y + r) 1 (λ c x y. row_of step e slopes src v first r c (4 * k + x) y) a n
      → b ≡ planes_fill l.image.width l.image.height (l.left + q.x) (min (4 * (k + 1)) q.cols) (l.top + q.y + r) 1 (row_of step e slopes src v first r) d n
  vector-beside first r k R h ea eb =
      let before : min (4 * k) q.cols ≡ 4 * k = omega (arith, h) in
      let after : min (4 * (k + 1)) q.cols ≡ 4 * k + min (q.cols - 4 * k) 4 = omega (arith, h) in
      let row = row_of step e slopes src v first r in
      rw after (rect-beside n l.image.width l.image.height n (omega arith) (l.left + q.x) (4 * k) (min (q.cols - 4 * k) 4) (l.top + q.y + r) 1 row (λ c x y. row c (4 * k + x) y) row d a b
      g.set (omega (arith, h, g.layout.across, g.across)) (omega (arith, R, g.layout.down, g.down)) (rw before at ea) eb (λ c x y _ _ _. refl) (λ c x y _ _ _. refl))

  pub row-below : (top first r : ℕ) → r < q.rows → first ≡ first_slope (top % 8 + r)
      → a ≡ planes_fill l.image.width l.image.height (l.left + q.x) q.cols (l.top + q.y) r (tile_of step e slopes src v top) d n
      → b ≡ planes_fill l.image.width l.image.height (l.left + q.x) q.cols (l.top + q.y + r) 1 (row_of step e slopes src v first r) a n
      → b ≡ planes_fill l.image.width l.image.height (l.left + q.x) q.cols (l.top + q.y) (r + 1) (tile_of step e slopes src v top) d n
  row-below top first r R ef ea eb =
      let tile = tile_of step e slopes src v top in
      rect-below n l.image.width l.image.height n (omega arith) (l.left + q.x) q.cols (l.top + q.y) r 1 tile (row_of step e slopes src v first r) tile d a b
      g.set (omega (arith, g.layout.across, g.across)) (omega (arith, R, g.layout.down, g.down)) ea eb (λ c x y _ _ _. refl) same
    where
      same : (c x y : ℕ) → c < n → x < q.cols → y < 1 → row_of step e slopes src v first r c x y ≡ tile_of step e slopes src v top c x (r + y)
      same c x y _ _ h = let z : r + y ≡ r = omega (arith, h) in rw (z, first-same first top r ef)

-- ---- a tile that fits
module _ (step : ℕ) (e slopes src : List Float) (v : View) (l : Layout) (n top : ℕ) (q : Rect) (d : List Float) where
  pub lanes-done : RectFits l n q (length d) → ViewFits v n q.rows q.cols (length src) → (step ≡ 0 → (v.plane ≡ 1008) × (v.stride ≡ 72))
      → lanes_stored step e slopes src v l n top q d ≡ rect_filled l n q (tile_of step e slopes src v top) d
  unfolding lanes_stored
  lanes-done f g w = rw (rect-true l n q (length d) f, view-true v n q.rows q.cols (length src) g, windows step w)
    where
      windows : (s : ℕ) → (s ≡ 0 → (v.plane ≡ 1008) × (v.stride ≡ 72)) → (not (eqb s 0) || (eqb v.plane 1008 && eqb v.stride 72)) ≡ true
      windows zero h = rw (eq-eqb v.plane 1008 (h refl).0, eq-eqb v.stride 72 (h refl).1)
      windows (suc s) h = rw (ne_eqb (suc s) 0 (λ z. omega (arith, z)))
