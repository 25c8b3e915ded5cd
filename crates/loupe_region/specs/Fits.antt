-- A wanted rectangle inside a whole filter region, both within the limits. Definitions only.
use Rattle.std.specs.Prelude.{T}
use Rattle.region.specs.declared.Region.{Region}
use Rattle.region.specs.Measures.{picture_fits}
use Rattle.region.specs.Regions.{inside}

pub record WantedFits (whole wanted : Region) : Type 0 where
  pub whole-fits : T (picture_fits whole)
  pub wanted-fits : T (picture_fits wanted)
  pub wanted-inside : T (inside whole wanted)
