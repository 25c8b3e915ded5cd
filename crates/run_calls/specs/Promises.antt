-- All promises besides the contracts (Specification 13), each by its name. proofs/Promises.antt proves them.
use Rattle.mirror.specs.Statements.{MirrorInside, MirrorPeriodic, MirrorLow, MirrorHigh, MirrorCut}
use Rattle.region_arithmetic.specs.Laws.{IntersectionInside, IntersectionGreatest, AlignedContains, AlignedLeast, ShrunkHas, ShrunkTouched}
use Rattle.header_fields.specs.Order.{TooLong, RunsOut}
use Rattle.frame.specs.Statements.{DividedUpCovers, DividedUpLeast, SplitWhole, InnerBelow, GroupBelow}
use Rattle.gabor_kernel.specs.Mirrored.{FoldMirrors, KernelMirrored, AloneCopied}
use Rattle.gabor_kernel.specs.Exact.{ExpansionSums, CoefficientsWeigh, FormulasMirrored, IntegersExact}
use Rattle.epf_step.specs.Offsets.{KernelOffsets, DistanceOffsets}
use Rattle.epf_step.specs.Bounds.{DistanceNotNegative, SlopeNotPositive, WeightBounds, DivisorBounds, MultiplierNotNegative, PassBounds}
use Rattle.epf_offsets.specs.Offsets.{KernelPacked, DistancesPacked}
use Rattle.epf_lanes.specs.Divisors.{LaneDivisorBounds}
use Rattle.run_passes.specs.Statements.{PassNear, CutSame, PlanReach, PlanReads}
use Rattle.run_passes.specs.Bounds.{StepBounds, SettingsBounds, BoundsReached}
use Rattle.run_calls.specs.Calls.{Calls, Effects}
use Rattle.run_calls.specs.Theorem.{SourcesGiveSigmas, RectangleTheorem, SourcesTheorem, LibraryTheorem, LibrarySourcesTheorem}
use Rattle.run_calls.specs.States.{EndReached, ResultAt, RectangleTheoremAt}
use Rattle.run_calls.specs.Rules.{StartTied, CallsTied, RefusedUntouched, CanFinish, CountRule, LibraryCountRule, LeftCounts, EndFits, ReachedFits, FitsReached, EachReached}
use Rattle.run_calls.specs.Corollaries.{WholePicture, TwoCutsAgree, OutsideKept, BandsAlike}
use Rattle.run_calls.specs.Example.{PremisesMet, UnlikeSourcesMet, PlaceClear}
use Rattle.run_calls.specs.EdgeExample.{EdgePremisesMet, EdgePlaceClear}
use Rattle.run_calls.specs.FourEdges.{FourEdgesMet, FourEdgesSources, FourEdgesClear, FourEdgesDelivered}
use Rattle.run_calls.specs.Needed.{PremisesSay, EachNeeded, UnrefusedNeeded, GaborMarginNeeded, StepMarginNeeded, InputsNeeded, SigmasNeeded, UnalteredNeeded, SourcesSay, EachSourceNeeded}

pub record Promises : Type 1 where
  -- the theorem on rectangles (Specification 13.6): for the calls of 13.7, and for any kind of calls
  pub library-theorem : LibraryTheorem
  pub rectangle-theorem : (K : Calls) → Effects K → RectangleTheorem K
  -- the same from equal sources of block sigmas, which give equal block sigmas
  pub library-sources-theorem : LibrarySourcesTheorem
  pub sources-theorem : (K : Calls) → Effects K → SourcesTheorem K
  pub sources-give-sigmas : SourcesGiveSigmas
  -- the theorem for a state, however it was reached, and that lists of calls reach such states
  pub rectangle-theorem-at : RectangleTheoremAt
  pub result-at-state : ResultAt
  pub end-reached : (K : Calls) → Effects K → EndReached K
  -- examples meet the premises, one of them with four cut edges
  pub premises-met : PremisesMet
  pub unlike-sources-met : UnlikeSourcesMet
  pub place-clear : PlaceClear
  pub edge-premises-met : EdgePremisesMet
  pub edge-place-clear : EdgePlaceClear
  pub four-edges-met : FourEdgesMet
  pub four-edges-sources : FourEdgesSources
  pub four-edges-clear : FourEdgesClear
  pub four-edges-delivered : FourEdgesDelivered
  -- the theorem is false without any one premise, or with a smaller margin
  pub premises-say : PremisesSay
  pub each_needed : EachNeeded
  pub unrefused-needed : UnrefusedNeeded
  pub gabor-margin-needed : GaborMarginNeeded
  pub step-margin-needed : StepMarginNeeded
  pub inputs-needed : InputsNeeded
  pub sigmas-needed : SigmasNeeded
  pub unaltered-needed : UnalteredNeeded
  -- and with any one source of block sigmas left out
  pub sources-say : SourcesSay
  pub each-source-needed : EachSourceNeeded
  -- corollaries
  pub whole-picture : (K : Calls) → Effects K → WholePicture K
  pub two-cuts-agree : (K : Calls) → Effects K → TwoCutsAgree K
  pub outside_kept : (K : Calls) → Effects K → OutsideKept K
  pub bands-alike : (K : Calls) → Effects K → BandsAlike K
  -- the calls of a run, and how many finish it
  pub start-tied : StartTied
  pub calls-tied : CallsTied
  pub refused-untouched : RefusedUntouched
  pub library-count-rule : LibraryCountRule
  pub count-rule : (K : Calls) → Effects K → CountRule K
  pub can-finish : CanFinish
  -- how many bands are left
  pub left-counts : (K : Calls) → Effects K → LeftCounts K
  -- the records of runs: which are valid, which are reached
  pub end_fits : (K : Calls) → Effects K → EndFits K
  pub reached-fits : ReachedFits
  pub fits-reached : FitsReached
  pub each-reached : EachReached
  -- passes: how far they read, and that a cut agrees with the larger picture
  pub pass-near : PassNear
  pub cut-same : CutSame
  pub plan-reach : PlanReach
  pub plan-reads : PlanReads
  -- bounds of weights and divisors
  pub weight-bounds : WeightBounds
  pub divisor-bounds : DivisorBounds
  pub multiplier-not-negative : MultiplierNotNegative
  pub pass-bounds : PassBounds
  pub distance-not-negative : DistanceNotNegative
  pub slope-not-positive : SlopeNotPositive
  pub lane-divisor-bounds : LaneDivisorBounds
  -- the same at the standard copying limit, for the steps of the settings
  pub step-bounds : StepBounds
  pub settings-bounds : SettingsBounds
  pub bounds-reached : BoundsReached
  -- the EPF's offsets follow the standard's rule
  pub kernel-offsets : KernelOffsets
  pub distance-offsets : DistanceOffsets
  -- the bytes from which code takes them are these lists
  pub kernel-packed : KernelPacked
  pub distances-packed : DistancesPacked
  -- the Gabor-like filter's formulas have the coefficients of the standard's mirrored kernel, which copies a single sample
  pub fold-mirrors : FoldMirrors
  pub kernel-mirrored : KernelMirrored
  pub alone-copied : AloneCopied
  -- without rounding they are the sums of these coefficients times the samples
  pub expansion-sums : ExpansionSums
  pub coefficients-weigh : CoefficientsWeigh
  pub formulas-mirrored : FormulasMirrored
  pub integers-exact : IntegersExact
  -- the mirrored index: in range, periodic in twice the length, symmetric about both edges; away from cut edges that of the larger picture
  pub mirror-inside : MirrorInside
  pub mirror-periodic : MirrorPeriodic
  pub mirror-low : MirrorLow
  pub mirror-high : MirrorHigh
  pub mirror-cut : MirrorCut
  -- regions
  pub intersection-inside : IntersectionInside
  pub intersection-greatest : IntersectionGreatest
  pub aligned-contains : AlignedContains
  pub aligned-least : AlignedLeast
  pub shrunk-has : ShrunkHas
  pub shrunk-touched : ShrunkTouched
  -- headers: which refusal comes first
  pub too_long : TooLong
  pub runs-out : RunsOut
  -- frames: division rounded up, and a block's group and cell
  pub divided-up-covers : DividedUpCovers
  pub divided-up-least : DividedUpLeast
  pub split-whole : SplitWhole
  pub inner_below : InnerBelow
  pub group-below : GroupBelow
