-- Laws of the group table: searches over its entries, the cells of a grid, and where grids start and end. Assumes nothing.
use mathlib.Core.Path.{◌≡◌, refl, sym, ap, ◌∙◌}
use mathlib.Core.Bool.{Bool, true, false, false≢true, cond, ◌||◌}
use mathlib.Core.List.{List}
use mathlib.Core.Logic.{⊎_elim}
use Prim.Native.Nat.{ℕ, zero, suc, ◌+◌, ◌*◌, ◌<◌, ◌≤◌}
use native.Mathlib.Nat.{suc-mul, mul-le-mul, eq-or-lt_of_le, le_of_suc-le-suc}
use native.Mathlib.Numerals.{add-one}
use native.Mathlib.Decide.{ℕ_discrete}
use native.Mathlib.Omega.{arith}
use borrow.Author.Tests.{le-ltb, ltb-false, leb-false, eq-eqb, ne_eqb}
use denote.Param.Members.{Mut}
use lib.Dec.{ltb, leb}
use lib.ListN.{length, get_or}
use Rattle.std.specs.Prelude.{Option}
use Rattle.std.specs.Bool.{MatchBool}
use Rattle.std.specs.Fn.{Called}
use Rattle.std.specs.Iterator.{YieldsThen}
use Rattle.std.specs.List.{range_with_len, HoldsAt, AllWithin, FoldsTo}
use Rattle.std.specs.Option.{MatchOption}
use Rattle.std.proofs.iter.Yields.{nat_range_steps}
use Rattle.std.proofs.lemmas.Iterator.{cases_from_any, YieldsList-from_range}
use Rattle.std.proofs.lemmas.List.FromFn.{length-range_with_len, get_or-range_with_len}
use Rattle.refusals.specs.Numbers.{accepted, out_of_limits}
use Rattle.sigma_grids.specs.Table.{presence, grid_width, grid_height, bad_grid_side, bad_grid, cells, grid_lacks_block, grid_start, some_below}
use Rattle.sigma_grids.specs.Start.{no_entries, start_outcome}

-- ---- from a test that fails

pub neither : (a b : Bool) → (a || b) ≡ false → (a ≡ false) × (b ≡ false)
neither false b h = (refl, h)
neither true b h = absurd (false≢true (sym h))

-- a side that is within 1 to max
pub side-range : (side max : ℕ) → (ltb side 1 || ltb max side) ≡ false → (1 ≤ side) × (side ≤ max)
side-range side max h =
    let n = neither (ltb side 1) (ltb max side) h in
    (ltb-false side 1 n.0, ltb-false max side n.1)

-- ---- whether some number below n has a property

-- it does if one of them has it;
pub some-found : (n k : ℕ) (has : ℕ → Bool) → k < n → has k ≡ true → some_below n has ≡ true
unfolding some_below
some-found zero k has l h = absurd (omega arith)
some-found (suc n) k has l h =
    ⊎_elim
    (λ (e : k ≡ n). let z : has n ≡ true = ap has (sym e) ∙ h in rw z (or-true (some_below n has)))
    (λ (m : k < n). rw (some-found n k has m h))
    (eq-or-lt_of_le (le_of_suc-le-suc l))
  where
    or-true : (a : Bool) → (a || true) ≡ true
    or-true true = refl
    or-true false = refl

-- it does not if none of them has it;
pub none-found : (n : ℕ) (has : ℕ → Bool) → ((k : ℕ) → k < n → has k ≡ false) → some_below n has ≡ false
unfolding some_below
none-found zero has h = refl
none-found (suc n) has h = rw (none-found n has (λ k l. h k (omega arith)), h n (omega arith))

-- if none has it so far: an iteration of the loop, and its end;
pub some_turn : (n : ℕ) (has : ℕ → Bool) → some_below n has ≡ false → has n ≡ false → some_below (n + 1) has ≡ false
unfolding some_below
some_turn n has e h = rw (add-one n, e, h)

pub some_end : (i n : ℕ) (has : ℕ → Bool) → some_below i has ≡ false → i ≤ n → n ≤ i → some_below n has ≡ false
some_end i n has e p q = let z : i ≡ n = omega arith in rw (← z) e

pub some-fewer : (n k : ℕ) (has : ℕ → Bool) → some_below n has ≡ false → k ≤ n → some_below k has ≡ false
unfolding some_below
some-fewer zero k has e l = let z : k ≡ 0 = omega arith in rw z
some-fewer (suc n) k has e l =
    ⊎_elim (λ (z : k ≡ suc n). rw z e) (λ (m : k < suc n). some-fewer n k has (neither (some_below n has) (has n) e).0 (le_of_suc-le-suc m)) (eq-or-lt_of_le l)

-- if the search finds none, each of them lacks it
pub none_below : (n k : ℕ) (has : ℕ → Bool) → some_below n has ≡ false → k < n → has k ≡ false
unfolding some_below
none_below zero k has e l = absurd (omega arith)
none_below (suc n) k has e l =
    let b = neither (some_below n has) (has n) e in
    ⊎_elim (λ (z : k ≡ n). rw z b.1) (λ (m : k < n). none_below n k has b.0 m) (eq-or-lt_of_le (le_of_suc-le-suc l))

-- what `any` over them answers, where the closure answers `has`
pub any_below : {F : Type 0} {g : Mut F (ℕ × Unit {0}) Bool} (u : _) (f : F) (n : ℕ) (has : ℕ → Bool) (r : Bool)
    → (xs : List ℕ) × (o : Option ℕ) × (j : F) × YieldsThen nat_range_steps (record { start = 0; end = n }) xs o u × FoldsTo (λ p x q. Called g p (x, tt) false q) f xs j
    × MatchOption o (r ≡ false) (λ x. (r ≡ true) × ((h : F) × Called g j (x, tt) true h))
    → ((x : ℕ) (q : F) → Called g f (x, tt) true q → has x ≡ true)
    → ((x : ℕ) (q : F) → Called g f (x, tt) false q → (q ≡ f) × (has x ≡ false))
    → r ≡ some_below n has
any_below u f n has r ran pass fail =
    answered r (cases_from_any u f r (λ k. has k ≡ true) (λ k. has k ≡ false) ran (YieldsList-from_range 0 n n refl (omega arith)) pass fail)
  where
    numbers : List ℕ
    numbers = range_with_len 0 n

    counted : (k : ℕ) → k < n → get_or numbers k 0 ≡ k
    counted k l = omega (arith, get_or-range_with_len 0 n k 0 l)

    answered : (b : Bool)
        → MatchBool b ((k : ℕ) × (k < length numbers) × HoldsAt (λ x. has x ≡ true) numbers k) (AllWithin (λ x. has x ≡ false) numbers 0 (length numbers))
        → b ≡ some_below n has
    answered true h =
        let l : h.0 < n = omega (arith, h.1, length-range_with_len 0 n) in
        sym (some-found n h.0 has l (rw (counted h.0 l) at (h.2 0)))
    answered false h = sym (none-found n has (λ k l. rw (counted k l) at (h k 0 (omega arith) (omega (arith, length-range_with_len 0 n)))))

-- ---- grids

-- the sides of a present grid
pub grid-sides : (t : List ℕ) (g : ℕ) → bad_grid t g ≡ false → presence t g ≡ 1 → ((1 ≤ grid_width t g) × (grid_width t g ≤ 1024)) × ((1 ≤ grid_height t g) × (grid_height t g ≤ 1024))
unfolding bad_grid
grid-sides t g h p =
    let e : (bad_grid_side (grid_width t g) || bad_grid_side (grid_height t g)) ≡ false = rw (eq-eqb (presence t g) 1 p) at h in
    let n = neither (bad_grid_side (grid_width t g)) (bad_grid_side (grid_height t g)) e in
    (side-range (grid_width t g) 1024 n.0, side-range (grid_height t g) 1024 n.1)

-- a cell of a present grid
pub grid-has-block : (t : List ℕ) (g column row : ℕ) → grid_lacks_block t g column row ≡ false → presence t g ≡ 1 → (column < grid_width t g) × (row < grid_height t g)
unfolding grid_lacks_block
grid-has-block t g column row h p =
    let e : (leb (grid_width t g) column || leb (grid_height t g) row) ≡ false = rw (eq-eqb (presence t g) 1 p) at h in
    let n = neither (leb (grid_width t g) column) (leb (grid_height t g) row) e in
    (leb-false (grid_width t g) column n.0, leb-false (grid_height t g) row n.1)

pub cells-present : (t : List ℕ) (g : ℕ) → presence t g ≡ 1 → cells t g ≡ grid_width t g * grid_height t g
unfolding cells
cells-present t g p = rw (eq-eqb (presence t g) 1 p)

pub cells-missing : (t : List ℕ) (g : ℕ) → (presence t g ≡ 1 → ⊥) → cells t g ≡ 0
unfolding cells
cells-missing t g p = rw (ne_eqb (presence t g) 1 p)

-- a grid has at most 1,024 × 1,024 cells
pub cells-le : (t : List ℕ) (g : ℕ) → bad_grid t g ≡ false → cells t g ≤ 1048576
cells-le t g h = go (ℕ_discrete (presence t g) 1)
  where
    go : Dec (presence t g ≡ 1) → cells t g ≤ 1048576
    go (yes p) =
        let s = grid-sides t g h p in
        omega (arith, cells-present t g p, mul-le-mul s.0.1 s.1.1)
    go (no p) = omega (arith, cells-missing t g p)

-- an iteration of the loop
pub start-more : (t : List ℕ) (g : ℕ) → grid_start t g + cells t g ≡ grid_start t (g + 1)
unfolding grid_start
start-more t g = rw (add-one g)

pub start-le : (t : List ℕ) (n g : ℕ) → some_below n (bad_grid t) ≡ false → g ≤ n → grid_start t g ≤ g * 1048576
unfolding grid_start
start-le t n zero h l = omega arith
start-le t n (suc g) h l =
    omega (arith, start-le t n g h (omega arith), cells-le t g (none_below n g (bad_grid t) h l), suc-mul g 1048576)

-- each grid ends before the next starts
pub start-ends : (t : List ℕ) (g n : ℕ) → g < n → grid_start t g + cells t g ≤ grid_start t n
unfolding grid_start
start-ends t g zero l = absurd (omega arith)
start-ends t g (suc n) l =
    ⊎_elim
    (λ (e : g ≡ n). rw e (omega arith))
    (λ (m : g < n). omega (arith, start-ends t g n m))
    (eq-or-lt_of_le (le_of_suc-le-suc l))

-- a table that has the entries before a group, and no more than a frame has groups
pub entries-fit : (t : List ℕ) (g : ℕ) → no_entries t g ≡ false → (length t ≤ 768) × (3 * g ≤ length t)
unfolding no_entries
entries-fit t g h = let n = neither (ltb 768 (length t)) (ltb (length t) (3 * g)) h in (ltb-false 768 (length t) n.0, ltb-false (length t) (3 * g) n.1)

-- for such a table the number of `grid_start` says whether a grid before the group has a side out of range
module _ (t : List ℕ) (g : ℕ) (l : length t ≤ 768) (m : 3 * g ≤ length t) where
  pub start-number : (start_outcome t g).number ≡ cond (some_below g (bad_grid t)) out_of_limits accepted
  unfolding no_entries
  start-number = rw (le-ltb 768 (length t) l, le-ltb (length t) (3 * g) m)

  pub start-passed : 0 ≡ (start_outcome t g).number → some_below g (bad_grid t) ≡ false
  start-passed z = go (some_below g (bad_grid t)) (z ∙ start-number)
    where
      go : (b : Bool) → 0 ≡ cond b out_of_limits accepted → b ≡ false
      go true e = absurd (omega arith)
      go false e = refl

  pub start-refused : (n : ℕ) → 0 < n → n ≡ (start_outcome t g).number → (some_below g (bad_grid t) ≡ true) × (n ≡ out_of_limits)
  start-refused n p z = go (some_below g (bad_grid t)) (z ∙ start-number)
    where
      go : (b : Bool) → n ≡ cond b out_of_limits accepted → (b ≡ true) × (n ≡ out_of_limits)
      go true e = (refl, e)
      go false e = absurd (omega arith)
