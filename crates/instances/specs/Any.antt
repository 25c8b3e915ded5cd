-- The two instances that hold for any picture (Specification 14.8: sigma 0.25 copies; sigma NaN, finite samples, centre 5: 5). They hold
-- for each step, whatever its scales, and for a picture of any size. Definitions only.
use Rattle.std.specs.Prelude.{◌≡◌, ℕ, ◌<◌, Float}
use Rattle.std.specs.Float.{nan, inf, fin}
use Rattle.planes.specs.Samples.{bits}
use Rattle.planes.specs.Picture.{Picture}
use Rattle.epf_step.specs.Steps.{epf_pass}
use Rattle.epf.specs.declared.EpfStep.{EpfStep}
use Rattle.epf.specs.Outcome.{settings_of}

abbrev pub Finite : Float → Type 0
Finite nan = ⊥
Finite (inf s) = ⊥
Finite (fin s m e) = Unit

-- 0.25 and 5.0
abbrev pub one_quarter : Float
one_quarter = bits 0x3e80_0000

abbrev pub b5 : Float
b5 = bits 0x40a0_0000

abbrev pub CopiedBelow : Type 0
CopiedBelow = (n w h top c x y : ℕ) (s : EpfStep) (g : Picture) → x < w → y < h → epf_pass (settings_of n s) w h top (λ _ _. one_quarter) g c x y ≡ g c x y

abbrev pub NanSigma : Type 0
NanSigma = (n w h top c x y : ℕ) (s : EpfStep) (g : Picture) → x < w → y < h
    → ((a b : ℕ) → a < w → b < h → Finite (g c a b)) → g c x y ≡ b5
    → epf_pass (settings_of n s) w h top (λ _ _. nan) g c x y ≡ b5
