-- When a tile fits, and where its vectors and their samples lie. Assumes nothing.
use mathlib.Core.Path.{◌≡◌}
use mathlib.Core.Bool.{true, ◌&&◌, ◌||◌, not}
use Prim.Native.Nat.{ℕ, zero, suc, ◌+◌, ◌-◌, ◌*◌, ◌<◌, ◌≤◌, min}
use native.Mathlib.Nat.{add-mul, mul_assoc, mul-le-mul_right}
use native.Mathlib.Omega.{arith}
use borrow.Author.Tests.{eqb-true}
use lib.Dec.{eqb}
use lib.ListN.{length}
use Rattle.planes.specs.declared.Layout.{Layout}
use Rattle.planes.proofs.Stored.{and_first, and_second}
use Rattle.epf_rects.specs.declared.Rect.{Rect}
use Rattle.epf_rects.specs.Rects.{rect_fits}
use Rattle.epf_rects.proofs.Rects.{rect-facts}
use Rattle.epf_distances.specs.declared.View.{View}
use Rattle.epf_step.specs.Steps.{kernel}
use Rattle.epf_distances.specs.Taps.{tap_of}
use Rattle.epf_distances.proofs.TapLaws.{row-le}
use Rattle.epf_distances.specs.Fields.{view_fits, ViewFits}
use Rattle.epf_distances.proofs.Fields.{view-fits}
use Rattle.epf_lanes.specs.Lanes.{reads_windows, LanesFit}

-- the rows from a corner down to a neighbour's sample
pub rows-across : (step q across : ℕ) → q < length (kernel step) → (tap_of step q).row * across ≤ 5 * across
rows-across step q across h = mul-le-mul_right across (row-le step q h)

pub ruleset tap_across = (rows-across)

-- ---- the code's test of a tile

windows-facts : (step : ℕ) (v : View) → (not (eqb step 0) || reads_windows v) ≡ true → step ≡ 0 → (v.plane ≡ 1008) × (v.stride ≡ 72)
windows-facts zero v e h = (eqb-true _ _ (and_first (eqb v.plane 1008) (eqb v.stride 72) e), eqb-true _ _ (and_second (eqb v.plane 1008) (eqb v.stride 72) e))
windows-facts (suc s) v e h = absurd (omega (arith, h))

-- what `serves` tests
pub served : (step : ℕ) (v : View) (n rows cols len : ℕ) → (view_fits v n rows cols len && (not (eqb step 0) || reads_windows v)) ≡ true
    → ViewFits v n rows cols len × (step ≡ 0 → (v.plane ≡ 1008) × (v.stride ≡ 72))
served step v n rows cols len e =
    let view = view_fits v n rows cols len in
    let windows = not (eqb step 0) || reads_windows v in
    (view-fits v n rows cols len (and_first view windows e), windows-facts step v (and_second view windows e))

-- `filter_tile` has the number of planes as k
pub lanes-fit : (step : ℕ) (l : Layout) (n k : ℕ) (q : Rect) (v : View) (dst src : ℕ) → rect_fits l n q dst ≡ true → ViewFits v n q.rows q.cols src × (step ≡ 0 → (v.plane ≡ 1008) × (v.stride ≡ 72)) → n ≡ k
    → LanesFit step l k q v dst src
lanes-fit step l n k q v dst src e f z = rw (← z) (record { room = rect-facts l n q dst e; view = f.0; windows = f.1 })

-- ---- a vector: it ends in its plane of the set
pub vector-end : (step : ℕ) (l : Layout) (n : ℕ) (q : Rect) (v : View) (r i c dst src : ℕ) → LanesFit step l n q v dst src → r < q.rows → i < q.cols → c < n
    → c * (l.image.height * l.image.width) + ((l.top + q.y + r) * l.image.width + (l.left + q.x + i)) + min (q.cols - i) 4 ≤ dst
vector-end step l n q v r i c dst src f R I C =
    let t = l.top + q.y + r in
    let w = l.image.width in
    let h = l.image.height in
    let high : t + 1 ≤ h = omega (arith, R, f.room.down, f.room.layout.down) in
    let next : c + 1 ≤ n = omega (arith, C) in
    let rows : (t + 1) * w ≤ h * w = mul-le-mul_right w high in
    let planes : (c + 1) * (h * w) ≤ n * (h * w) = mul-le-mul_right (h * w) next in
    omega (arith, I, f.room.across, f.room.layout.across, rows, add-mul t 1 w, planes, add-mul c 1 (h * w), f.room.set, mul_assoc n h w)
