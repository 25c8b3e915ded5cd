-- The row functions compute the samples of the pass. Assumes nothing.
use mathlib.Core.Path.{◌≡◌, refl, sym, ◌∙◌}
use mathlib.Core.List.{List}
use Prim.Native.Nat.{ℕ, zero, suc, ◌+◌, ◌-◌, ◌*◌, ◌<◌, ◌≤◌}
use native.Mathlib.Nat.{suc-mul, mul-le-mul_right}
use native.Mathlib.Omega.{arith}
use lib.ListN.{set}
use lib.IntN.{ℤ, pos, negsuc, ◌+ℤ◌, nat_abs}
use lib.Ieee.{Float}
use Rattle.mirror.specs.Mirror.{mirror}
use Rattle.planes.specs.Picture.{around}
use Rattle.planes.specs.Fill.{fill}
use Rattle.planes.proofs.Fill.{row-of-one, row-of-more}
use Rattle.gabor_kernel.specs.declared.Kernel.{Kernel}
use Rattle.gabor_kernel.specs.Ends.{End, only, first, last, inner, stands}
use Rattle.gabor_kernel.proofs.EndLaws.{stands-only, stands-first, stands-last, stands-inner, before-first, before-other, after_last, after-other, itself}
use Rattle.gabor_kernel.specs.Formula.{evaluate, formula}
use Rattle.gabor_kernel.specs.Gabor.{alone, gabor_by}
use Rattle.gabor_kernel.specs.Nine.{pick, nine}
use Rattle.gabor_kernel.proofs.Local.{gabor_by-same}
use Rattle.gabor_plane.specs.declared.PlaneRegion.{PlaneRegion}
use Rattle.gabor_plane.specs.Rows.{taps, column, inner_sample, row_sample, region, region_sample, RegionFits}

module _ (s : List Float) (t c b w : ℕ) (k : Kernel) (row : End) where
  pub at_only : w ≡ 1 → row_sample s t c b w k row 0 ≡ gabor_by k (column s t c b) only row
  unfolding row_sample
  at_only p =
      let z : (i : ℕ) → i + 0 ≡ i = λ i. omega arith in
      rw (stands-only w 0 p, before-first w (omega arith), after_last w 0 (omega arith), z t, z c, z b)

  pub at_first : 2 ≤ w → row_sample s t c b w k row 0 ≡ gabor_by k (taps s t c b 0 0 1) first row
  unfolding row_sample
  at_first p = rw (stands-first w p, before-first w (omega arith), after-other w 0 (omega arith))

  pub at_inner : (j : ℕ) → j < w - 2 → row_sample s t c b w k row (j + 1) ≡ inner_sample s t c b k row j
  unfolding row_sample inner_sample
  at_inner j p =
      let d : j + 1 - 1 ≡ j = omega arith in
      let e : j + 1 + 1 ≡ j + 2 = omega arith in
      rw (stands-inner w (j + 1) (omega arith) (omega arith), before-other w (j + 1) (omega arith) (omega arith), after-other w (j + 1) (omega arith), d, e)

  pub at_last : 2 ≤ w → row_sample s t c b w k row (w - 1) ≡ gabor_by k (taps s t c b (w - 2) (w - 1) (w - 1)) last row
  unfolding row_sample
  at_last p =
      let d : w - 1 - 1 ≡ w - 2 = omega arith in
      rw (stands-last w (w - 1) p (omega arith), before-other w (w - 1) (omega arith) (omega arith), after_last w (w - 1) (omega arith), d)

  -- the samples of a row whose ends are written separately
  pub row_one : (d : List Float) (o : ℕ) (v : Float) → w ≡ 1 → v ≡ gabor_by k (column s t c b) only row → set d o v ≡ fill d o w (row_sample s t c b w k row)
  row_one d o v p e = row-of-one d o w (row_sample s t c b w k row) v p (e ∙ sym (at_only p))

  pub row_more : (d : List Float) (o : ℕ) (v u : Float) (n : List Float) → 2 ≤ w → v ≡ gabor_by k (taps s t c b 0 0 1) first row
      → n ≡ fill (set d o v) (o + 1) (w - 2) (inner_sample s t c b k row) → u ≡ gabor_by k (taps s t c b (w - 2) (w - 1) (w - 1)) last row
      → set n (o + (w - 1)) u ≡ fill d o w (row_sample s t c b w k row)
  row_more d o v u n p e f h =
      row-of-more d o w (row_sample s t c b w k row) (inner_sample s t c b k row) v u n p (e ∙ sym (at_first p)) f (λ j l. sym (at_inner j l)) (h ∙ sym (at_last p))

-- the adjacent rows are the mirrored ones
pub region-row : (s : List Float) (r : PlaneRegion) (k : Kernel) (y x : ℕ) → x < r.width → y < r.height
    → row_sample s (r.at + mirror (pos y +ℤ negsuc 0) r.height * r.stride) (r.at + y * r.stride) (r.at + mirror (pos y +ℤ pos 1) r.height * r.stride)
    r.width k (stands r.height y) x
    ≡ region_sample s r k y x
unfolding row_sample region_sample nine region around pick
region-row s r k y x p q = gabor_by-same k _ _ each (stands r.width x) (stands r.height y)
  where
    reads : ℤ → ℤ → Float
    reads =
        taps s (r.at + mirror (pos y +ℤ negsuc 0) r.height * r.stride) (r.at + y * r.stride) (r.at + mirror (pos y +ℤ pos 1) r.height * r.stride)
        (mirror (pos x +ℤ negsuc 0) r.width) x (mirror (pos x +ℤ pos 1) r.width)

    each : (dx dy : ℤ) → nat_abs dx ≤ 1 → nat_abs dy ≤ 1 → reads dx dy ≡ around r.width r.height (region s r) x y 0 dx dy
    each (pos zero) (pos zero) i j = rw (itself r.width x p, itself r.height y q)
    each (pos zero) (pos (suc zero)) i j = rw (itself r.width x p)
    each (pos zero) (negsuc zero) i j = rw (itself r.width x p)
    each (pos (suc zero)) (pos zero) i j = rw (itself r.height y q)
    each (pos (suc zero)) (pos (suc zero)) i j = refl
    each (pos (suc zero)) (negsuc zero) i j = refl
    each (negsuc zero) (pos zero) i j = rw (itself r.height y q)
    each (negsuc zero) (pos (suc zero)) i j = refl
    each (negsuc zero) (negsuc zero) i j = refl
    each (pos (suc (suc m))) dy i j = absurd (omega arith)
    each (negsuc (suc m)) dy i j = absurd (omega arith)
    each (pos zero) (pos (suc (suc n))) i j = absurd (omega arith)
    each (pos zero) (negsuc (suc n)) i j = absurd (omega arith)
    each (pos (suc zero)) (pos (suc (suc n))) i j = absurd (omega arith)
    each (pos (suc zero)) (negsuc (suc n)) i j = absurd (omega arith)
    each (negsuc zero) (pos (suc (suc n))) i j = absurd (omega arith)
    each (negsuc zero) (negsuc (suc n)) i j = absurd (omega arith)

-- ---- the four cases of a row, and the rows that its formula reads
module _ (s : List Float) (t u c b w : ℕ) (k : Kernel) (x : ℕ) where
  -- the last row reads the row above it in the same way as the first row reads the one below
  last-reads : row_sample s t c b w k first x ≡ row_sample s b c u w k last x
  unfolding row_sample gabor_by alone evaluate formula nine pick
  last-reads = go (stands w x)
    where
      go : (col : End) → gabor_by k (taps s t c b (mirror (pos x +ℤ negsuc 0) w) x (mirror (pos x +ℤ pos 1) w)) col first
          ≡ gabor_by k (taps s b c u (mirror (pos x +ℤ negsuc 0) w) x (mirror (pos x +ℤ pos 1) w)) col last
      go only = refl
      go first = refl
      go last = refl
      go inner = refl

-- the first row reads no row above it
first_reads : (s : List Float) (t u c b w : ℕ) (k : Kernel) (x : ℕ) → row_sample s t c b w k first x ≡ row_sample s u c b w k first x
first_reads s t u c b w k x = last-reads s t u c b w k x ∙ sym (last-reads s u u c b w k x)

-- row y ends within the list
pub row_room : (r : PlaneRegion) (len y : ℕ) → RegionFits r len → y < r.height → r.at + y * r.stride + r.width ≤ len
row_room r len y f p =
    let q : y ≤ r.height - 1 = omega arith in
    omega (arith, f.end-le, mul-le-mul_right r.stride q)

pub row_above : (y stride : ℕ) → 0 < y → y * stride ≡ (y - 1) * stride + stride
row_above zero stride p = absurd (omega arith)
row_above (suc y) stride p = let e : suc y - 1 ≡ y = omega arith in rw e (suc-mul y stride)

pub row_below : (y stride : ℕ) → (y + 1) * stride ≡ y * stride + stride
row_below y stride = let e : y + 1 ≡ suc y = omega arith in rw e (suc-mul y stride)

-- ---- each row function writes the row of the region
module _ (s : List Float) (r : PlaneRegion) (k : Kernel) (y x o : ℕ) (p : x < r.width) (q : y < r.height) (e : o ≡ r.at + y * r.stride) where
  pub region-only : r.height ≡ 1 → row_sample s o o o r.width k only x ≡ region_sample s r k y x
  region-only z =
      let n : y ≡ 0 = omega arith in
      let l : y + 1 ≡ r.height = omega arith in
      let m : mirror (pos y +ℤ negsuc 0) r.height ≡ y = rw n (before-first r.height (omega arith)) in
      rw (m, after_last r.height y l, stands-only r.height y z, ← e) at (region-row s r k y x p q)

  pub region-first : (a : ℕ) → 2 ≤ r.height → y ≡ 0 → a ≡ o + r.stride → row_sample s a o a r.width k first x ≡ region_sample s r k y x
  region-first a z n d =
      let m : mirror (pos y +ℤ negsuc 0) r.height ≡ y = rw n (before-first r.height (omega arith)) in
      let f : stands r.height y ≡ first = rw n (stands-first r.height z) in
      let i : r.at + (y + 1) * r.stride ≡ a = omega (arith, row_below y r.stride) in
      first_reads s a o o a r.width k x ∙ rw (m, after-other r.height y (omega arith), f, i, ← e) at (region-row s r k y x p q)

  pub region-last : (a : ℕ) → 2 ≤ r.height → y + 1 ≡ r.height → a + r.stride ≡ o → row_sample s a o a r.width k first x ≡ region_sample s r k y x
  region-last a z l d =
      let i : r.at + (y - 1) * r.stride ≡ a = omega (arith, row_above y r.stride (omega arith)) in
      last-reads s a o o a r.width k x
      ∙ rw (before-other r.height y (omega arith) q, after_last r.height y l, stands-last r.height y z l, i, ← e) at (region-row s r k y x p q)

  pub region-inner : (t b : ℕ) → 0 < y → y + 1 < r.height → t + r.stride ≡ o → b ≡ o + r.stride
      → row_sample s t o b r.width k inner x ≡ region_sample s r k y x
  region-inner t b z l d f =
      let i : r.at + (y - 1) * r.stride ≡ t = omega (arith, row_above y r.stride z) in
      let n : r.at + (y + 1) * r.stride ≡ b = omega (arith, row_below y r.stride) in
      rw (before-other r.height y z q, after-other r.height y l, stands-inner r.height y z l, i, n, ← e) at (region-row s r k y x p q)
