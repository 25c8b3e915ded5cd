-- Regions downsampled and aligned, computed. Assumes nothing.
use Rattle.std.specs.Prelude.{◌≡◌, refl, pos, negsuc}
use Rattle.region.specs.Regions.{region_of}
use Rattle.region.specs.declared.Region.{Region}
use Rattle.region_arithmetic.specs.Arithmetic.{shrunk_by, downsampled, aligned_to}

-- ---- Specification 14.5: left −3, width 5

abbrev instance : Region
instance = record { left = negsuc 2; top = negsuc 2; width = 5; height = 5 }

instance-downsampled : downsampled 1 instance ≡ record { left = negsuc 1; top = negsuc 1; width = 3; height = 3 }
unfolding shrunk_by region_of
instance-downsampled = refl

instance-aligned : aligned_to 8 instance ≡ record { left = negsuc 7; top = negsuc 7; width = 16; height = 16 }
unfolding aligned_to region_of
instance-aligned = refl

-- an empty region may become nonempty: left −3, width 0, aligned to 8
empty-aligned : aligned_to 8 (record { left = negsuc 2; top = pos 0; width = 0; height = 8 }) ≡ record { left = negsuc 7; top = pos 0; width = 8; height = 8 }
unfolding aligned_to region_of
empty-aligned = refl
