-- The invariant of a loop along a row: the first i of its n samples are written. Assumes nothing.
use mathlib.Core.Path.{◌≡◌, refl}
use mathlib.Core.List.{List}
use Prim.Native.Nat.{ℕ, ◌+◌, ◌<◌, ◌≤◌}
use native.Mathlib.Omega.{arith}
use lib.ListN.{length, set, length-set}
use lib.Ieee.{Float}
use Rattle.planes.specs.Fill.{fill}
use Rattle.planes.proofs.Fill.{fill-turn, fill_end}

-- of the n samples f, from index `at` on, the first i are written over d
pub record Written (d : List Float) (at n : ℕ) (f : ℕ → Float) (dst : List Float) (i : ℕ) : Type 0 where
  pub count-le : i ≤ n
  pub size : length dst ≡ length d
  pub held : dst ≡ fill d at i f

pub written_none : (d : List Float) (at n : ℕ) (f : ℕ → Float) → Written d at n f d 0
unfolding fill
written_none d at n f = record { count-le = omega arith; size = refl; held = refl }

pub written-more : {d dst : List Float} {at n i : ℕ} {f : ℕ → Float} {v : Float} → Written d at n f dst i → i < n → v ≡ f i → Written d at n f (set dst (at + i) v) (i + 1)
written-more w l e = record { count-le = omega arith; size = simp length-set w.size; held = fill-turn _ _ _ _ _ _ w.held e }

pub written_all : {d dst : List Float} {at n i : ℕ} {f : ℕ → Float} → Written d at n f dst i → n ≤ i → dst ≡ fill d at n f
written_all w l = fill_end _ _ _ _ _ _ w.held w.count-le l
