-- `Run::done_count` meets its contract. Assumes nothing.
use mathlib.Core.Path.{◌≡◌, refl, sym, ◌∙◌}
use mathlib.Core.Bool.{true, false}
use Prim.Native.Nat.{ℕ, ◌≤◌}
use native.Mathlib.Omega.{arith}
use lib.ListN.{get_or}
use Rattle.sigma_grids.specs.Table.{some_below}
use Rattle.sigma_grids.proofs.Laws.{some-found}
use Rattle.run_record.specs.Record.{is_done, bad_flag, bad_done, count_below, open_bands}
use Rattle.run_record.proofs.Laws.{flag-most}
use Rattle.run_record.proofs.Counts.{count-most, some-next, flag-counted}
use Rattle.run_record.proofs.Run.done_count.Goals as goal

pub loop-k-init : goal.loop-k-init
unfolding count_below some_below
loop-k-init c = (refl, refl)

pub returns-then-bad_flag : goal.returns-then-bad_flag
unfolding bad_done
returns-then-bad_flag c =
    let r = c.args.self.now in
    let bad : bad_flag (open_bands r) c.loop-k.k (get_or r.done c.loop-k.k 0) ≡ true = rw (← c.open_bands-bands.ensures) (sym c.bad_flag.ensures ∙ c.if-bad_flag.true) in
    some-found 256 c.loop-k.k (λ (k : ℕ). bad_flag (open_bands r) k (get_or r.done k 0)) c.loop-k-test.true bad

pub overflow_add-count : goal.overflow_add-count
overflow_add-count c =
    let r = c.args.self.now in
    let k = c.loop-k.k in
    let most : get_or r.done k 0 ≤ 1 = flag-most c.open_bands-bands.result k (get_or r.done k 0) (sym c.bad_flag.ensures ∙ c.if-bad_flag.false) in
    omega (arith, c.loop-k.invariant.0, count-most k (is_done r), c.loop-k-test.true, c.from-count.ensures, most)

pub loop-k-preserved : goal.loop-k-preserved
loop-k-preserved c =
    let r = c.args.self.now in
    let k = c.loop-k.k in
    let good : bad_flag (open_bands r) k (get_or r.done k 0) ≡ false = rw (← c.open_bands-bands.ensures) (sym c.bad_flag.ensures ∙ c.if-bad_flag.false) in (
      rw c.from-count.ensures (flag-counted r (open_bands r) k c.loop-k.count c.loop-k.invariant.0 good),
      some-next k (λ (j : ℕ). bad_flag (open_bands r) j (get_or r.done j 0)) c.loop-k.invariant.1 good,
    )

pub returns : goal.returns
unfolding bad_done
returns c = let e : c.loop-k.k ≡ 256 = omega (arith, c.loop-k.auto.k-end) in (rw e at c.loop-k.invariant.1, rw e at c.loop-k.invariant.0)
