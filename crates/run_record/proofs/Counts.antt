-- How many numbers have a property, and the number of bands left that the flags of a record give. Assumes nothing.
use mathlib.Core.Path.{◌≡◌, refl, sym, ◌∙◌}
use mathlib.Core.Bool.{Bool, true, false, cond, not, ◌||◌}
use mathlib.Core.Logic.{⊎_elim}
use Prim.Native.Nat.{ℕ, zero, suc, ◌+◌, ◌-◌, ◌<◌, ◌≤◌}
use native.Mathlib.Nat.{eq-or-lt_of_le, le_of_suc-le-suc}
use native.Mathlib.Decide.{dec_lt}
use native.Mathlib.Omega.{arith}
use borrow.Author.Tests.{lt-ltb, le-ltb}
use lib.Dec.{ltb}
use lib.ListN.{length, get_or}
use Rattle.refusals.specs.Flags.{flag_set}
use Rattle.sigma_grids.specs.Table.{some_below}
use Rattle.run_passes.specs.Plan.{one_if}
use Rattle.run_setup.specs.declared.Setup.{Setup}
use Rattle.run_record.specs.declared.Run.{Run}
use Rattle.run_setup.specs.Setup.{max_bands, band_count}
use Rattle.run_setup.proofs.Laws.{setup-fits}
use Rattle.run_record.specs.Record.{is_done, none_done, count_below, bad_flag, open_in, bands_left_in, left_by_flags, marked, finished, band_missing, not_over, run_fits}
use Rattle.run_record.specs.RunFits.{RunFits}
use Rattle.refusals.proofs.Tables.{of-true}
use Rattle.run_record.proofs.Laws.{Open, none_done_lem, flag-most, run_fits_lem, marked-fits}
use Rattle.run_record.proofs.Done.{marked-same, marked_other}

-- ---- how many of the first m numbers have a property

count-same : (m : ℕ) (f g : ℕ → Bool) → ((j : ℕ) → j < m → g j ≡ f j) → count_below m g ≡ count_below m f
unfolding count_below
count-same zero f g h = refl
count-same (suc m) f g h = rw (h m (omega arith), count-same m f g (λ j l. h j (omega arith)))

-- at most m have it
pub count-most : (m : ℕ) (f : ℕ → Bool) → count_below m f ≤ m
unfolding count_below
count-most zero f = omega arith
count-most (suc m) f = go (f m) (count-most m f)
  where
    go : (b : Bool) → count_below m f ≤ m → count_below m f + one_if b ≤ suc m
    go true h = omega arith
    go false h = omega arith

-- g holds where f does, and at k
pub count-more : (m k : ℕ) (f g : ℕ → Bool) → k < m → f k ≡ false → g k ≡ true → ((j : ℕ) → (j ≡ k → ⊥) → g j ≡ f j) → count_below m g ≡ suc (count_below m f)
unfolding count_below
count-more zero k f g h a b o = absurd (omega arith)
count-more (suc m) k f g h a b o =
    ⊎_elim
    (λ (e : k ≡ m). rw (← e, a, b, count-same k f g (λ j l. o j (λ (z : j ≡ k). omega arith))) (omega arith))
    (λ (p : k < m). let r : count_below m g ≡ suc (count_below m f) = count-more m k f g p a b o in
    rw (o m (λ (e : m ≡ k). omega arith)) (omega arith))
    (eq-or-lt_of_le (le_of_suc-le-suc h))

-- no number from b on has it
count-within : (b m : ℕ) (f : ℕ → Bool) → b ≤ m → ((k : ℕ) → k < m → b ≤ k → f k ≡ false) → count_below m f ≡ count_below b f
unfolding count_below
count-within b zero f h o = let z : b ≡ 0 = omega arith in rw z
count-within b (suc m) f h o =
    ⊎_elim
    (λ (e : b ≡ suc m). rw e)
    (λ (p : b < suc m). let r : count_below m f ≡ count_below b f = count-within b m f (le_of_suc-le-suc p) (λ k q z. o k (omega arith) z) in
    rw (o m (omega arith) (le_of_suc-le-suc p)) (omega arith))
    (eq-or-lt_of_le h)

-- all numbers below m have it
count-full : (m : ℕ) (f : ℕ → Bool) → ((k : ℕ) → k < m → f k ≡ true) → count_below m f ≡ m
unfolding count_below
count-full zero f t = refl
count-full (suc m) f t = rw (t m (omega arith), count-full m f (λ k l. t k (omega arith))) (omega arith)

-- it holds for all numbers below b and for none from b on
pub count-all : (b m : ℕ) (f : ℕ → Bool) → b ≤ m → ((k : ℕ) → k < b → f k ≡ true) → ((k : ℕ) → k < m → b ≤ k → f k ≡ false) → count_below m f ≡ b
count-all b m f h t o = count-within b m f h o ∙ count-full b f t

pub count-none : (m : ℕ) (f : ℕ → Bool) → ((k : ℕ) → k < m → f k ≡ false) → count_below m f ≡ 0
count-none m f o = count-all 0 m f (omega arith) (λ k l. absurd (omega arith)) (λ k l z. o k l)

both-more : (a b : ℕ) → ltb a b ≡ ltb (suc a) (suc b)
both-more a b = go (dec_lt a b)
  where
    go : Dec (a < b) → ltb a b ≡ ltb (suc a) (suc b)
    go (yes p) = rw (lt-ltb a b p, lt-ltb (suc a) (suc b) (omega arith)) refl
    go (no p) = rw (le-ltb a b (omega arith), le-ltb (suc a) (suc b) (omega arith)) refl

-- some number below n lacks it: fewer than n have it
lacks-count : (n : ℕ) (f : ℕ → Bool) → some_below n (λ k. not (f k)) ≡ ltb (count_below n f) n
unfolding some_below count_below
lacks-count zero f = refl
lacks-count (suc n) f = go (f n) (lacks-count n f)
  where
    or-true : (a : Bool) → (a || true) ≡ true
    or-true true = refl
    or-true false = refl

    or-false : (a : Bool) → (a || false) ≡ a
    or-false true = refl
    or-false false = refl

    go : (b : Bool) → some_below n (λ k. not (f k)) ≡ ltb (count_below n f) n → (some_below n (λ k. not (f k)) || not b) ≡ ltb (count_below n f + one_if b) (suc n)
    go true h =
        let e : count_below n f + 1 ≡ suc (count_below n f) = omega arith in
        or-false (some_below n (λ k. not (f k))) ∙ h ∙ both-more (count_below n f) n ∙ rw e refl
    go false h = or-true (some_below n (λ k. not (f k))) ∙ rw (lt-ltb (count_below n f + 0) (suc n) (omega (arith, count-most n f)))

-- ---- one number more

count-next : (n : ℕ) (f : ℕ → Bool) → count_below (n + 1) f ≡ count_below n f + one_if (f n)
unfolding count_below
count-next n f = let e : n + 1 ≡ suc n = omega arith in rw e refl

pub some-next : (n : ℕ) (f : ℕ → Bool) → some_below n f ≡ false → f n ≡ false → some_below (n + 1) f ≡ false
unfolding some_below
some-next n f h e = let z : n + 1 ≡ suc n = omega arith in rw (z, h, e) refl

-- the flag of one band more, which accepted calls give
pub flag-counted : (r : Run) (bands k c : ℕ) → c ≡ count_below k (is_done r) → bad_flag bands k (get_or r.done k 0) ≡ false → c + get_or r.done k 0 ≡ count_below (k + 1) (is_done r)
unfolding is_done
flag-counted r bands k c e b =
    let f = get_or r.done k 0 in
    let next : count_below (k + 1) (is_done r) ≡ count_below k (is_done r) + one_if (flag_set f) = count-next k (is_done r) in
    omega (arith, next, e, one f (flag-most bands k f b))
  where
    one : (f : ℕ) → f ≤ 1 → one_if (flag_set f) ≡ f
    one zero h = refl
    one (suc zero) h = refl
    one (suc (suc f)) h = absurd (omega arith)

-- ---- the number of bands left

-- before any band of a pass: all that may be done
pub left-before : (s : Setup) (p : ℕ) → bands_left_in s p none_done ≡ open_in s p
unfolding bands_left_in
left-before s p =
    let none : count_below max_bands (λ k. flag_set (get_or none_done k 0)) ≡ 0 = count-none max_bands (λ k. flag_set (get_or none_done k 0)) (λ k l. rw (none_done_lem k)) in
    omega (arith, none)

-- the band count less the bands done, and 0 in a finished run
pub left-counted : (r : Run) → RunFits r → r.bands_left ≡ cond (finished r) 0 (band_count r.setup - count_below max_bands (is_done r))
unfolding bands_left_in is_done
left-counted r f = f.left ∙ go (finished r)
  where
    go : (b : Bool) → cond b 0 (band_count r.setup) - count_below max_bands (λ k. flag_set (get_or r.done k 0)) ≡ cond b 0 (band_count r.setup - count_below max_bands (λ k. flag_set (get_or r.done k 0)))
    go true = omega arith
    go false = refl

-- by the flags of an unfinished run
left-unfinished : (r : Run) → finished r ≡ false → left_by_flags r ≡ band_count r.setup - count_below max_bands (is_done r)
unfolding bands_left_in is_done
left-unfinished r e = rw e

-- in a valid record the bands done are among the open ones
within : (r : Run) → RunFits r → finished r ≡ false → count_below max_bands (is_done r) ≡ count_below (band_count r.setup) (is_done r)
within r f e = count-within (band_count r.setup) max_bands (is_done r) (setup-fits r.setup f.setup).count (λ k l o. f.none-past-count k l (rw e o))

-- an unfinished run has bands left if and only if a band is missing
pub left-missing : (r : Run) → RunFits r → finished r ≡ false → ltb 0 r.bands_left ≡ band_missing r
unfolding band_missing is_done
left-missing r f e =
    let b = band_count r.setup in
    let c = count_below b (is_done r) in
    let left : r.bands_left ≡ b - c = f.left ∙ left-unfinished r e ∙ rw (within r f e) in
    rw left (sub-test c b) ∙ sym (lacks-count b (is_done r))
  where
    sub-test : (c b : ℕ) → ltb 0 (b - c) ≡ ltb c b
    sub-test c b = go (dec_lt c b)
      where
        go : Dec (c < b) → ltb 0 (b - c) ≡ ltb c b
        go (yes p) = rw (lt-ltb 0 (b - c) (omega arith), lt-ltb c b p)
        go (no p) = rw (le-ltb 0 (b - c) (omega arith), le-ltb c b (omega arith))

-- so an advance is refused with 11 while bands are left,
pub left-not-over : (r : Run) → run_fits r ≡ true → 0 < r.bands_left → not_over r ≡ true
left-not-over r t h = go (finished r) refl
  where
    go : (b : Bool) → finished r ≡ b → (b || band_missing r) ≡ true
    go true e = refl
    go false e = rw (← left-missing r (run_fits_lem r (of-true (run_fits r) t)) e) (lt-ltb 0 r.bands_left h)

-- and accepted where none is
pub none-left-over : (r : Run) → run_fits r ≡ true → finished r ≡ false → r.bands_left ≤ 0 → not_over r ≡ false
none-left-over r t e h = rw (e, ← left-missing r (run_fits_lem r (of-true (run_fits r) t)) e) (le-ltb 0 r.bands_left h)

-- a band that may run is one of those left, and one fewer is left after it
pub marked-left : (r : Run) (k : ℕ) → length r.done ≡ max_bands → RunFits r → Open r k → r.bands_left ≡ suc (marked r k).bands_left
unfolding marked
marked-left r k l f o =
    let b = band_count r.setup in
    let q = marked r k in
    let at : k < max_bands = omega (arith, o.below, (setup-fits r.setup f.setup).count) in
    let more : count_below max_bands (is_done q) ≡ suc (count_below max_bands (is_done r)) = count-more max_bands k (is_done r) (is_done q) at o.fresh (marked-same r k (omega (arith, l))) (λ j z. marked_other r k j z) in
    let most : count_below max_bands (is_done q) ≤ b = rw (within q (marked-fits r k f o) o.unfinished) (count-most b (is_done q)) in
    omega (arith, f.left, left-unfinished r o.unfinished, left-unfinished q o.unfinished, more, most)

-- for the answers of `check_advance`
pub ruleset left_rules = (left-not-over, none-left-over)
