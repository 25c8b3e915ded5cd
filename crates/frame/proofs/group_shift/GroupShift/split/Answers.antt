-- `frame::group_shift::GroupShift::split` meets its contract: the shift divides by the group dimension, the mask keeps the remainder. Assumes nothing.
use mathlib.Core.Path.{◌≡◌, sym}
use Prim.Native.Nat.{ℕ, ◌-◌, ◌/◌, ◌%◌, ◌^◌}
use lib.Bits.{and_mask, bit_and}
use Rattle.frame.specs.declared.Split.{Split}
use Rattle.frame.specs.Sizes.{group_dim_of, group_shift_of}
use Rattle.frame.proofs.Laws.{group-shift-power}
use Rattle.frame.proofs.group_shift.GroupShift.split.Goals as goal

-- a shift by k and a mask of k bits, for d = 2 ^ k
split-is : (b k d : ℕ) → 2 ^ k ≡ d → ◌≡◌ {A = Split} (record { group = b / 2 ^ k; inner = bit_and b (d - 1) }) (record { group = b / d; inner = b % d })
split-is b k d e = rw (sym e, and_mask b k)

pub returns : goal.returns
returns c =
    let s = c.args.self in
    rw c.dim-dim.ensures.dim (split-is c.args.block (group_shift_of s.value) (group_dim_of s.value) (group-shift-power s.value s.in_range))
