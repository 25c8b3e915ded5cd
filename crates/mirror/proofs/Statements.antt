-- Proves specs/Statements.antt. Assumes nothing.
use Rattle.mirror.proofs.Laws.{mirror-lt, mirror-periodic as periodic, mirror-low as low, mirror-high as high}
use Rattle.mirror.proofs.Cut.{mirror-cut as cut}
use Rattle.mirror.specs.Statements.{MirrorInside, MirrorPeriodic, MirrorLow, MirrorHigh, MirrorCut}

pub mirror-inside : MirrorInside
mirror-inside = mirror-lt

pub mirror-periodic : MirrorPeriodic
mirror-periodic = periodic

pub mirror-low : MirrorLow
mirror-low = low

pub mirror-high : MirrorHigh
mirror-high = high

pub mirror-cut : MirrorCut
mirror-cut = cut
