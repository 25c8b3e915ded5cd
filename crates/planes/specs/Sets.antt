-- A set of planes as a list, plane by plane and row by row without gaps (Specification 9.1), and as a picture. Definitions only.
use Rattle.std.specs.Prelude.{List, [], ◌∷◌, ℕ, zero, suc, ◌+◌, ◌*◌, ◌/◌, ◌%◌, get_or, Float}
use Rattle.std.specs.Float.{nan}
use Rattle.planes.specs.Picture.{Picture}

-- the sample of channel c at column x and row y, in planes of w columns and h rows
unfoldable pub of : ℕ → ℕ → List Float → Picture
of w h s = λ c x y. get_or s ((c * h + y) * w + x) nan

-- f 0 to f (n - 1)
unfoldable pub tab : ℕ → (ℕ → Float) → List Float
tab zero f = []
tab (suc n) f = f 0 ∷ tab n (λ i. f (suc i))

-- the set of n planes of a picture
unfoldable pub set_of : ℕ → ℕ → ℕ → Picture → List Float
set_of n w h g = tab (n * h * w) (λ i. g (i / w / h) (i % w) (i / w % h))
