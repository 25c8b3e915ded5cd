-- Which bands are done after a start, a band and an advance, and the number of flags. Assumes nothing.
use mathlib.Core.Path.{◌≡◌}
use mathlib.Core.Bool.{true, false}
use Prim.Native.Nat.{ℕ, ◌<◌}
use lib.ListN.{length, length-set, length-replicate}
use lib.Seq.{get_or-set_same, get_or-set_other}
use Rattle.run_setup.specs.declared.Setup.{Setup}
use Rattle.run_record.specs.declared.Run.{Run}
use Rattle.run_setup.specs.Setup.{max_bands}
use Rattle.run_record.specs.Record.{is_done, started, marked, advanced}
use Rattle.run_record.proofs.Laws.{none_done_lem}

pub started_none : (s : Setup) (k : ℕ) → is_done (started s) k ≡ false
unfolding started is_done
started_none s k = rw (none_done_lem k)

pub started-flags : (s : Setup) → length (started s).done ≡ max_bands
unfolding started
started-flags s = length-replicate {A = ℕ} max_bands 0

pub marked-same : (r : Run) (k : ℕ) → k < length r.done → is_done (marked r k) k ≡ true
unfolding marked is_done
marked-same r k h = rw (get_or-set_same r.done k 1 0 h)

pub marked_other : (r : Run) (k j : ℕ) → (j ≡ k → ⊥) → is_done (marked r k) j ≡ is_done r j
unfolding marked is_done
marked_other r k j e = rw (get_or-set_other r.done k j 1 0 e)

pub marked-flags : (r : Run) (k : ℕ) → length (marked r k).done ≡ length r.done
unfolding marked
marked-flags r k = length-set r.done k 1

pub advanced-none : (r : Run) (k : ℕ) → is_done (advanced r) k ≡ false
unfolding advanced is_done
advanced-none r k = rw (none_done_lem k)

pub advanced-flags : (r : Run) → length (advanced r).done ≡ max_bands
unfolding advanced
advanced-flags r = length-replicate {A = ℕ} max_bands 0
