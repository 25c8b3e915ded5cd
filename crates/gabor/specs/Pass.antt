-- Rows of a Gabor pass in a set of planes. Definitions only.
use Rattle.std.specs.Prelude.{List, ℕ, ◌+◌, Float}
use Rattle.planes.specs.declared.Layout.{Layout}
use Rattle.planes.specs.Picture.{Picture}
use Rattle.planes.specs.Band.{inner}
use Rattle.gabor_kernel.specs.Gabor.{gabor_pass}

-- the pass over the filter region of a set, with rows counted from row `from`
unfoldable pub pass_rows : List (List Float) → Layout → List Float → ℕ → Picture
pass_rows ws l s from = λ c x i. gabor_pass ws l.width l.height (inner l s) c x (from + i)
