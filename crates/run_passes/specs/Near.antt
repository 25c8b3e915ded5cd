-- Pictures that agree within a pass's reach of a position. Definitions only.
use Rattle.std.specs.Prelude.{◌≡◌, ℕ, ◌+◌, ◌<◌, ◌≤◌, T}
use Rattle.planes.specs.Picture.{Picture}
use Rattle.epf_step.specs.Channels.{channels_below}
use Rattle.run_passes.specs.Pass.{Area, Pass, gabor_like, edge_preserving}

-- a valid step, on channels of the n planes
unfoldable pub IsSound : ℕ → Pass → Type 0
IsSound n (gabor_like ws) = Unit {0}
IsSound n (edge_preserving e) = (e.step < 3) × T (channels_below n e.scales)

-- whether a pass is a step
unfoldable pub IsStep : Pass → Type 0
IsStep (gabor_like ws) = ⊥
IsStep (edge_preserving e) = Unit {0}

-- at most r apart
pub record Within (r x y : ℕ) : Type 0 where
  pub below : x ≤ y + r
  pub above : y ≤ x + r

-- two pictures agree in n planes of the area within r columns and r rows of a position
abbrev pub AgreeNear : ℕ → ℕ → Area → ℕ → ℕ → Picture → Picture → Type 0
AgreeNear n r a x y g G = (c i j : ℕ) → c < n → i < a.width → j < a.height → Within r x i → Within r y j → g c i j ≡ G c i j
