-- The instances of the mirror (Specification 14.1) and its limits (Specification 4.1), computed. Assumes nothing.
use Rattle.std.specs.Prelude.{◌≡◌, refl, pos, negsuc}
use Rattle.mirror.specs.Mirror.{mirror}
use Rattle.mirror.specs.Outcome.{mirror_outcome}

-- ★ -1 among 1 is 0; -3 among 2 is 1; 5 among 4 is 2; 7 among 3 is 1
pub instances : (mirror (negsuc 0) 1 ≡ 0) × (mirror (negsuc 2) 2 ≡ 1) × (mirror (pos 5) 4 ≡ 2) × (mirror (pos 7) 3 ≡ 1)
unfolding mirror
instances = (refl, refl, refl, refl)

-- several reflections: -11 among 3, by way of 10, -5 and 4; 1048576 among 5; -1048576 among 7
bounces : (mirror (negsuc 10) 3 ≡ 1) × (mirror (pos 1048576) 5 ≡ 3) × (mirror (negsuc 1048575) 7 ≡ 3)
unfolding mirror
bounces = (refl, refl, refl)

-- the longest row and the largest offset are accepted; one more of either is refused
limits : ((mirror_outcome (negsuc 1048575) 16384).number ≡ 0) × ((mirror_outcome (pos 1048577) 16384).number ≡ 9) × ((mirror_outcome (negsuc 1048576) 16384).number ≡ 9) × ((mirror_outcome (pos 0) 16385).number ≡ 9) × ((mirror_outcome (pos 0) 0).number ≡ 9)
limits = (refl, refl, refl, refl, refl)
