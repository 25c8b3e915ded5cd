-- From a boolean that a branch tests to the fact that it stands for. Assumes nothing.
use mathlib.Core.Path.{◌≡◌, refl}
use mathlib.Core.Bool.{Bool, true, false}
use lib.Dec.{T}

pub yes : {x : Bool} → x ≡ true → T x
yes e = rw e tt

pub true_of : (x : Bool) → T x → x ≡ true
true_of true t = refl
true_of false t = absurd t
