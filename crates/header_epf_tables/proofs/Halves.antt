-- A sequence of halves, as the loop of `read_halves` reads it. Assumes nothing.
use Prim.Native.Nat.{ℕ, zero, suc, ◌+◌, ◌-◌, ◌<◌, ◌≤◌}
use mathlib.Core.List.{List}
use mathlib.Core.Path.{◌≡◌, refl, sym, ap, ◌∙◌}
use native.Mathlib.Nat.{suc-add, zero-add}
use native.Mathlib.Numerals.{add-one}
use native.Mathlib.Omega.{arith}
use lib.ListN.{length, take, set}
use lib.Seq.{take-suc-set, take_all}
use lib.Ieee.{Float}
use Rattle.header_bits.specs.Outcome.{accepted, refused}
use Rattle.header_half.specs.Half.{f16}
use Rattle.header_fields.specs.Fields.{f16s}

module _ (s : List ℕ) (p : ℕ) where
  pub halves_none : (l : List Float) → f16s 0 s p ≡ accepted (take 0 l) p
  unfolding f16s
  halves_none l = refl

  -- one iteration of the loop
  pub halves_more : (l : List Float) (i q r : ℕ) (v : Float) → i < length l → f16s i s p ≡ accepted (take i l) q → accepted v r ≡ f16 s q
      → f16s (i + 1) s p ≡ accepted (take (i + 1) (set l i v)) r
  unfolding f16s
  halves_more l i q r v h e f = rw (add-one, e, ← f, take-suc-set l i v)

  -- a refusal ends the sequence
  stays : (k i n : ℕ) → f16s i s p ≡ refused n → f16s (k + i) s p ≡ refused n
  unfolding f16s
  stays zero i n e = rw (zero-add i) e
  stays (suc k) i n e = rw (suc-add k i, stays k i n e)

  pub halves_stop : (m i q n : ℕ) (vs : List Float) → i < m → f16s i s p ≡ accepted vs q → refused n ≡ f16 s q → refused n ≡ f16s m s p
  unfolding f16s
  halves_stop m i q n vs h e f =
      let g : f16s (suc i) s p ≡ refused n = rw (e, ← f) in
      let k : m - suc i + suc i ≡ m = omega arith in
      sym (stays (m - suc i) (suc i) n g) ∙ ap (λ (j : ℕ). f16s j s p) k

  pub halves_all : (l : List Float) (m i q : ℕ) → length l ≡ m → i ≤ m → m ≤ i → f16s i s p ≡ accepted (take i l) q → accepted l q ≡ f16s m s p
  halves_all l m i q h a b e =
      let k : i ≡ m = omega arith in
      ap (λ (vs : List Float). accepted vs q) (sym (take_all i l (omega arith))) ∙ sym e ∙ ap (λ (j : ℕ). f16s j s p) k
