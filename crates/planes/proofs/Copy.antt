-- The conditions under which a run of samples is copied. Assumes nothing.
use mathlib.Core.Path.{◌≡◌, sym, ◌∙◌}
use mathlib.Core.Bool.{false, and-false}
use mathlib.Core.List.{List}
use native.Mathlib.Decide.{dec_lt}
use native.Mathlib.Omega.{arith}
use Prim.Native.Nat.{ℕ, ◌+◌, ◌-◌, ◌<◌, ◌≤◌}
use borrow.Author.Tests.{le-leb}
use lib.Dec.{leb}
use lib.ListN.{length, get_or, take}
use lib.Seq.{ext_get_or}
use borrow.Rule.Slice.PartMut.{put_mid}
use Rattle.std.specs.List.{between}
use Rattle.std.proofs.Common.{rules, length-append, length-drop}
use Rattle.std.proofs.lemmas.List.{places, length-take-le}
use Rattle.std.proofs.lemmas.List.Edits.{length-between, get_or-between}
use lib.Ieee.{Float, nan}
use Rattle.planes.specs.Fill.{fill}
use Rattle.planes.specs.Copy.{copied_run}
use Rattle.planes.proofs.Fill.{length-fill, fill-before, fill-after, fill-at}

module _ (d : List Float) (at : ℕ) (s : List Float) (from n : ℕ) where
  pub copied-run : at + n ≤ length d → from + n ≤ length s → copied_run d at s from n ≡ fill d at n (λ i. get_or s (from + i) nan)
  unfolding copied_run
  copied-run p q = rw (le-leb (at + n) (length d) p, le-leb (from + n) (length s) q)

  pub no_room : leb (at + n) (length d) ≡ false → d ≡ copied_run d at s from n
  unfolding copied_run
  no_room e = rw e

  pub no_source : leb (from + n) (length s) ≡ false → d ≡ copied_run d at s from n
  unfolding copied_run
  no_source e = simp (e, and-false)

  -- the part of d from index `at` replaced by that of s from index `from`
  pub part-copied : at + n ≤ length d → from + n ≤ length s → put_mid at (at + n - at) d (between from (from + n) s) ≡ copied_run d at s from n
  part-copied p q =
      let size : at + n - at ≡ n = omega arith in
      rw size (ext_get_or nan _ _ (length-put ∙ sym (length-fill d at n read)) each) ∙ sym (copied-run p q)
    where
      read : ℕ → Float
      read i = get_or s (from + i) nan

      part : List Float
      part = between from (from + n) s

      length-part : length part ≡ n
      length-part = omega (arith, length-between s from (from + n) q)

      length-before : length (take at d) ≡ at
      length-before = length-take-le at d (omega arith)

      length-put : length (put_mid at n d part) ≡ length d
      length-put = simp (length-append, length-part, length-before, length-drop) (omega arith)

      each : (k : ℕ) → k < length (put_mid at n d part) → get_or (put_mid at n d part) k nan ≡ get_or (fill d at n read) k nan
      each k l = go (dec_lt k at) (dec_lt k (at + n))
        where
          go : Dec (k < at) → Dec (k < at + n) → get_or (put_mid at n d part) k nan ≡ get_or (fill d at n read) k nan
          go (yes a) b =
              let here : get_or (put_mid at n d part) k nan ≡ get_or d k nan = search (rules, places) in
              here ∙ sym (fill-before d at n read k a)
          go (no a) (no b) =
              let here : get_or (put_mid at n d part) k nan ≡ get_or d k nan = search (rules, places) in
              here ∙ sym (fill-after d at n read k (omega arith))
          go (no a) (yes b) =
              let e : at + (k - at) ≡ k = omega arith in
              let here : get_or (put_mid at n d part) k nan ≡ get_or part (k - at) nan = search (rules, places) in
              here ∙ get_or-between s from (from + n) (k - at) nan (omega arith) ∙ sym (rw e at (fill-at d at n read (k - at) p (omega arith)))

-- a whole list is overwritten by the first samples of another
pub copied-whole : (d s : List Float) (n : ℕ) → length d ≡ n → n ≤ length s → copied_run d 0 s 0 n ≡ take n s
copied-whole d s n e l =
    copied-run d 0 s 0 n (omega (arith, e)) (omega (arith, l))
    ∙ ext_get_or nan _ _ (length-fill d 0 n read ∙ e ∙ sym (length-take-le n s l)) each
  where
    read : ℕ → Float
    read i = get_or s (0 + i) nan

    each : (k : ℕ) → k < length (fill d 0 n read) → get_or (fill d 0 n read) k nan ≡ get_or (take n s) k nan
    each k m =
        let p : k < n = omega (arith, m, e, length-fill d 0 n read) in
        let z : 0 + k ≡ k = omega arith in
        let there : get_or (take n s) k nan ≡ get_or s k nan = search (rules, places) in
        rw z at (fill-at d 0 n read k (omega (arith, e)) p) ∙ sym there
