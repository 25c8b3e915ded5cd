-- A list with a run of its samples overwritten: the result of a loop along a row. Assumes nothing.
use mathlib.Core.Path.{◌≡◌, refl, ap, ◌∙◌}
use mathlib.Core.List.{List}
use mathlib.Core.Logic.{⊎_elim}
use Prim.Native.Nat.{ℕ, zero, suc, ◌+◌, ◌-◌, ◌<◌, ◌≤◌}
use native.Mathlib.Nat.{eq-or-lt_of_le, le_of_suc-le-suc}
use native.Mathlib.Numerals.{add-one}
use native.Mathlib.Decide.{dec_lt}
use native.Mathlib.Omega.{arith}
use lib.ListN.{length, set, get_or, length-set}
use lib.Seq.{get_or-set_same, get_or-set_other, ext_get_or}
use lib.Ieee.{Float, nan}
use Rattle.planes.specs.Fill.{fill}

pub length-fill : (d : List Float) (at n : ℕ) (f : ℕ → Float) → length (fill d at n f) ≡ length d
unfolding fill
length-fill d at zero f = refl
length-fill d at (suc n) f = length-set (fill d at n f) (at + n) (f n) ∙ length-fill d at n f

-- ---- the sample at each index

pub fill-before : (d : List Float) (at n : ℕ) (f : ℕ → Float) (k : ℕ) → k < at → get_or (fill d at n f) k nan ≡ get_or d k nan
unfolding fill
fill-before d at zero f k p = refl
fill-before d at (suc n) f k p =
    get_or-set_other (fill d at n f) (at + n) k (f n) nan (λ (q : k ≡ at + n). omega arith) ∙ fill-before d at n f k p

pub fill-after : (d : List Float) (at n : ℕ) (f : ℕ → Float) (k : ℕ) → at + n ≤ k → get_or (fill d at n f) k nan ≡ get_or d k nan
unfolding fill
fill-after d at zero f k p = refl
fill-after d at (suc n) f k p =
    get_or-set_other (fill d at n f) (at + n) k (f n) nan (λ (q : k ≡ at + n). omega arith) ∙ fill-after d at n f k (omega arith)

pub fill-at : (d : List Float) (at n : ℕ) (f : ℕ → Float) (i : ℕ) → at + n ≤ length d → i < n → get_or (fill d at n f) (at + i) nan ≡ f i
unfolding fill
fill-at d at zero f i r p = absurd (omega arith)
fill-at d at (suc n) f i r p =
    ⊎_elim
    (λ (e : i ≡ n). rw e (get_or-set_same (fill d at n f) (at + n) (f n) nan (omega (arith, length-fill d at n f))))
    (λ (l : i < n). get_or-set_other (fill d at n f) (at + n) (at + i) (f n) nan (λ (q : at + i ≡ at + n). omega arith) ∙ fill-at d at n f i (omega arith) l)
    (eq-or-lt_of_le (le_of_suc-le-suc p))

-- ---- an iteration of the loop, and its end

pub fill-turn : (d dst : List Float) (at n : ℕ) (f : ℕ → Float) (v : Float) → dst ≡ fill d at n f → v ≡ f n → set dst (at + n) v ≡ fill d at (n + 1) f
unfolding fill
fill-turn d dst at n f v e h = rw (e, h, add-one n)

pub fill_end : (d dst : List Float) (at j n : ℕ) (f : ℕ → Float) → dst ≡ fill d at j f → j ≤ n → n ≤ j → dst ≡ fill d at n f
fill_end d dst at j n f e p q = let z : j ≡ n = omega arith in rw (← z) e

-- ---- runs one after another

-- only f below n matters
pub fill-cong : (d : List Float) (at n : ℕ) (f g : ℕ → Float) → ((i : ℕ) → i < n → f i ≡ g i) → fill d at n f ≡ fill d at n g
unfolding fill
fill-cong d at zero f g h = refl
fill-cong d at (suc n) f g h =
    let here : f n ≡ g n = h n (omega arith) in
    let rest : fill d at n f ≡ fill d at n g = fill-cong d at n f g (λ i l. h i (omega arith)) in
    rw (here, rest)

-- a run of m after a run of n
pub fill-then : (d : List Float) (at n m : ℕ) (f g k : ℕ → Float) → ((i : ℕ) → i < n → f i ≡ k i) → ((i : ℕ) → i < m → g i ≡ k (n + i))
    → fill (fill d at n f) (at + n) m g ≡ fill d at (n + m) k
unfolding fill
fill-then d at n zero f g k p q = fill-cong d at n f k p ∙ let e : n + 0 ≡ n = omega arith in rw e
fill-then d at n (suc m) f g k p q =
    let e : n + suc m ≡ suc (n + m) = omega arith in
    let i : at + n + m ≡ at + (n + m) = omega arith in
    let rest : fill (fill d at n f) (at + n) m g ≡ fill d at (n + m) k = fill-then d at n m f g k p (λ i l. q i (omega arith)) in
    rw (e, i, rest, q m (omega arith))

-- one sample
pub fill_one : (d : List Float) (at : ℕ) (v : Float) (f : ℕ → Float) → v ≡ f 0 → set d at v ≡ fill d at 1 f
unfolding fill
fill_one d at v f e = let z : at + 0 ≡ at = omega arith in rw (z, e)

-- writing the samples that are already there changes nothing
pub fill-same : (d : List Float) (at n : ℕ) (f : ℕ → Float) → at + n ≤ length d → ((i : ℕ) → i < n → f i ≡ get_or d (at + i) nan) → fill d at n f ≡ d
fill-same d at n f r h = ext_get_or nan (fill d at n f) d (length-fill d at n f) each
  where
    each : (k : ℕ) → k < length (fill d at n f) → get_or (fill d at n f) k nan ≡ get_or d k nan
    each k l = go (dec_lt k at) (dec_lt k (at + n))
      where
        go : Dec (k < at) → Dec (k < at + n) → get_or (fill d at n f) k nan ≡ get_or d k nan
        go (yes p) q = fill-before d at n f k p
        go (no p) (no q) = fill-after d at n f k (omega arith)
        go (no p) (yes q) =
            let e : at + (k - at) ≡ k = omega arith in
            let i : k - at < n = omega arith in
            rw e at (fill-at d at n f (k - at) r i ∙ h (k - at) i)

-- ---- a row of w columns whose first and last sample are written separately

pub row-of-one : (d : List Float) (o w : ℕ) (f : ℕ → Float) (v : Float) → w ≡ 1 → v ≡ f 0 → set d o v ≡ fill d o w f
row-of-one d o w f v p q = rw p (fill_one d o v f q)

pub row-of-more : (d : List Float) (o w : ℕ) (f m : ℕ → Float) (v u : Float) (t : List Float) → 2 ≤ w → v ≡ f 0
    → t ≡ fill (set d o v) (o + 1) (w - 2) m → ((j : ℕ) → j < w - 2 → m j ≡ f (j + 1)) → u ≡ f (w - 1) → set t (o + (w - 1)) u ≡ fill d o w f
row-of-more d o w f m v u t p first mid each last =
    let k : ℕ = w - 1 in
    let e : 1 + (w - 2) ≡ k = omega arith in
    let s : k + 1 ≡ w = omega arith in
    let head : fill (fill d o 1 f) (o + 1) (w - 2) m ≡ fill d o (1 + (w - 2)) f = fill-then d o 1 (w - 2) f m f (λ i l. refl) (λ i l. each i l ∙ ap f (omega arith)) in
    let body : t ≡ fill d o k f = mid ∙ rw (fill_one d o v f first) (head ∙ rw e) in
    fill-turn d t o k f u body last ∙ rw s
