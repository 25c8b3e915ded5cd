-- `Run::done_count` meets its contract. The invariant: no flag before band k is bad, and `count` of these bands are done. Assumes nothing.
use mathlib.Core.Path.{◌≡◌}
use mathlib.Core.Bool.{false}
use Prim.Native.Nat.{ℕ}
use lib.ListN.{get_or}
use Rattle.sigma_grids.specs.Table.{some_below}
use Rattle.run_record.specs.Record.{is_done, bad_flag, count_below, open_bands}
use Rattle.run_record.proofs.Run.done_count.Given as goal

abbrev pub invariant-loop-k : goal.invariant-loop-k
invariant-loop-k l =
    (l.count ≡ count_below l.k (is_done l.fn.self))
    × (some_below l.k (λ (k : ℕ). bad_flag (open_bands l.fn.self) k (get_or l.fn.self.done k 0)) ≡ false)
