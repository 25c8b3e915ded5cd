-- What `loupe_smooth` returns and writes at each of its ends is the outcome of the call. Assumes nothing.
use mathlib.Core.Path.{◌≡◌, sym, ap, ◌∙◌}
use Prim.Native.Nat.{ℕ}
use Rattle.region.specs.declared.Region.{Region}
use Rattle.run_setup.specs.declared.Setup.{Setup}
use Rattle.run_setup.specs.Makers.{setup_with}
use Rattle.run_outcomes.specs.Start.{StartOutcome, start_outcome}
use Rattle.run_calls.specs.Calls.{left_by_start}
use Rattle.loupe_region.specs.Outcome.{widened_region}
use Rattle.loupe.specs.Outcome.{LoupeHanded, LoupeOutcome, all_rows, run_setup_of, as_run, loupe_refused, loupe_outcome}
use Rattle.loupe.specs.Pieces.{passed_outcome}
use Rattle.loupe.specs.Whole.{WholeEqual}
use Rattle.loupe.proofs.Numbers.{early}
use Rattle.loupe.proofs.Theorem.{accepted-outcome, refused-early, refused-start, answer-whole}
use Rattle.run_setup.specs.Setup.{pass_count}

-- an answer that is the outcome has both parts of the contract
abbrev pub Answered : LoupeHanded → LoupeOutcome → Type 0
Answered h o = (o ≡ loupe_outcome h) × WholeEqual h o.number o.out

answered : (h : LoupeHanded) (o : LoupeOutcome) → o ≡ loupe_outcome h → Answered h o
answered h o e = (e, answer-whole h o e)

module _ (h : LoupeHanded) where
  pub answered-early : (number : ℕ) → number ≡ early h → (number ≡ 0 → ⊥) → Answered h (loupe_refused number h)
  answered-early number e f = answered h (loupe_refused number h) (rw e (refused-early h (λ z. f (e ∙ z))))

  module _ (known : early h ≡ 0) (widened : Region) (region-is : widened ≡ widened_region h.setup) where
    module _ (setup : Setup) (is-setup : setup ≡ setup_with widened widened h.setup.planes 0 h.setup.settings all_rows) (start : StartOutcome)
        (is-start : start ≡ start_outcome (record { setup = setup; frame = h.frame; table = h.table; grids = h.grids; first = h.first; second = h.second; sigmas = h.sigmas })) where
      setup-is : setup ≡ run_setup_of h.setup
      setup-is = is-setup ∙ ap (λ (r : Region). setup_with r r h.setup.planes 0 h.setup.settings all_rows) region-is

      started-is : start ≡ start_outcome (as_run h)
      started-is = is-start ∙ ap (λ (s : Setup). start_outcome (record { setup = s; frame = h.frame; table = h.table; grids = h.grids; first = h.first; second = h.second; sigmas = h.sigmas })) setup-is

      number_is : start.answer.number ≡ (start_outcome (as_run h)).answer.number
      number_is = ap (λ (o : StartOutcome). o.answer.number) started-is

      pub answered-start : (start.answer.number ≡ 0 → ⊥)
          → Answered h (record { number = start.answer.number; first = start.first; second = h.second; sigmas = start.sigmas; out = h.out })
      answered-start f = answered h _ (rw started-is (refused-start h known (λ z. f (number_is ∙ z))))

      pub answered-accepted : start.answer.number ≡ 0 → (passes : ℕ) → passes ≡ pass_count setup → (end : LoupeOutcome)
          → end ≡ passed_outcome passes (left_by_start start h.second) widened h.setup.wanted h.out → Answered h end
      answered-accepted z passes is-passes end is-end =
          answered h end (is-end ∙ rw (is-passes, setup-is, region-is, started-is) (accepted-outcome h known (sym number_is ∙ z)))
