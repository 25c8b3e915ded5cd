-- Two rows that are written together hold what they hold when written one after the other. Assumes nothing.
use mathlib.Core.Path.{◌≡◌, refl, sym, ◌∙◌}
use mathlib.Core.List.{List}
use Prim.Native.Nat.{ℕ, zero, suc, ◌+◌, ◌-◌, ◌*◌, ◌<◌, ◌≤◌}
use native.Mathlib.Nat.{add-mul}
use native.Mathlib.Omega.{arith}
use lib.ListN.{length, set, length-set}
use lib.Seq.{set_comm}
use lib.Ieee.{Float}
use Rattle.planes.specs.Fill.{fill}
use Rattle.planes.specs.Rect.{rows_fill}
use Rattle.planes.proofs.Fill.{fill-turn, fill-cong}
use Rattle.planes.proofs.Rect.{rows-turn}
use Rattle.gabor_kernel.specs.declared.Kernel.{Kernel}
use Rattle.gabor_kernel.specs.Ends.{End, first, last, inner}
use Rattle.gabor_kernel.specs.Gabor.{gabor_by}
use Rattle.gabor_plane.specs.declared.PlaneRegion.{PlaneRegion}
use Rattle.gabor_plane.specs.Rows.{taps, inner_sample, row_sample, region_sample}
use Rattle.gabor_plane.specs.Plane.{region_rows}
use Rattle.gabor_plane.proofs.RowLaws.{row_more, row_below, region-inner}

-- a sample stored outside a run may be stored before it
pub set-fill : (d : List Float) (at n : ℕ) (f : ℕ → Float) (i : ℕ) (v : Float) → ((j : ℕ) → j < n → at + j ≡ i → ⊥) → set (fill d at n f) i v ≡ fill (set d i v) at n f
unfolding fill
set-fill d at zero f i v h = refl
set-fill d at (suc n) f i v h =
    set_comm (fill d at n f) (at + n) i (f n) v (h n (omega arith)) ∙ rw (set-fill d at n f i v (λ j l. h j (omega arith)))

-- ---- the invariant of a loop along two rows

-- of the n samples f from index o on, and g from index p on, the first i of each are written over d
pub record BothWritten (d : List Float) (o p n : ℕ) (f g : ℕ → Float) (dst : List Float) (i : ℕ) : Type 0 where
  pub count-le : i ≤ n
  pub size : length dst ≡ length d
  pub held : dst ≡ fill (fill d o i f) p i g

pub both_none : (d : List Float) (o p n : ℕ) (f g : ℕ → Float) → BothWritten d o p n f g d 0
unfolding fill
both_none d o p n f g = record { count-le = omega arith; size = refl; held = refl }

pub both_more : {d dst : List Float} {o p n i : ℕ} {f g : ℕ → Float} {v u : Float} → BothWritten d o p n f g dst i → o + n ≤ p → i < n → v ≡ f i → u ≡ g i
    → BothWritten d o p n f g (set (set dst (o + i) v) (p + i) u) (i + 1)
both_more {d} {dst} {o} {p} {n} {i} {f} {g} {v} {u} w apart l a b =
    let one : set dst (o + i) v ≡ fill (set (fill d o i f) (o + i) v) p i g = rw w.held (set-fill (fill d o i f) p i g (o + i) v (λ j q (e : p + j ≡ o + i). omega arith)) in
    let first : set dst (o + i) v ≡ fill (fill d o (i + 1) f) p i g = one ∙ rw (fill-turn d (fill d o i f) o i f v refl a) in
    record { count-le = omega arith; size = simp length-set w.size; held = fill-turn _ _ p i g u first b }

pub both_all : {d dst : List Float} {o p n i : ℕ} {f g : ℕ → Float} → BothWritten d o p n f g dst i → n ≤ i → dst ≡ fill (fill d o n f) p n g
both_all {d} {dst} {o} {p} {n} {i} {f} {g} w l = let z : i ≡ n = omega (arith, w.count-le) in rw (← z) w.held

-- ---- two rows of w columns, one below the other, whose ends are written separately: v and u are those of the first row, v' and u' those of the second
module _ (s : List Float) (t c b t' c' b' w : ℕ) (k : Kernel) (row : End) (d : List Float) (o p : ℕ) (two : 2 ≤ w) (apart : o + w ≤ p) where
  pub pair_more : (v v' u u' : Float) (n : List Float)
      → v ≡ gabor_by k (taps s t c b 0 0 1) first row → v' ≡ gabor_by k (taps s t' c' b' 0 0 1) first row
      → n ≡ fill (fill (set (set d o v) p v') (o + 1) (w - 2) (inner_sample s t c b k row)) (p + 1) (w - 2) (inner_sample s t' c' b' k row)
      → u ≡ gabor_by k (taps s t c b (w - 2) (w - 1) (w - 1)) last row → u' ≡ gabor_by k (taps s t' c' b' (w - 2) (w - 1) (w - 1)) last row
      → set (set n (o + (w - 1)) u) (p + (w - 1)) u' ≡ fill (fill d o w (row_sample s t c b w k row)) p w (row_sample s t' c' b' w k row)
  pair_more v v' u u' n a a' h z z' =
      let f = inner_sample s t c b k row in
      let g = inner_sample s t' c' b' k row in
      let run : List Float = fill (set d o v) (o + 1) (w - 2) f in
      let upper : List Float = fill d o w (row_sample s t c b w k row) in
      -- the first row's run, then the second row's first sample
      let begun : n ≡ fill (set run p v') (p + 1) (w - 2) g = h ∙ rw (set-fill (set d o v) (o + 1) (w - 2) f p v' (λ j l (q : o + 1 + j ≡ p). omega arith)) in
      -- the first row's last sample, then the second row's run
      let ended : set n (o + (w - 1)) u ≡ fill (set (set run p v') (o + (w - 1)) u) (p + 1) (w - 2) g = rw begun (set-fill (set run p v') (p + 1) (w - 2) g (o + (w - 1)) u (λ j l (q : p + 1 + j ≡ o + (w - 1)). omega arith)) in
      let apart-ends : set (set run p v') (o + (w - 1)) u ≡ set (set run (o + (w - 1)) u) p v' = set_comm run p (o + (w - 1)) v' u (λ (q : p ≡ o + (w - 1)). omega arith) in
      let done : set run (o + (w - 1)) u ≡ upper = row_more s t c b w k row d o v u run two a refl z in
      row_more s t' c' b' w k row upper p v' u' (set n (o + (w - 1)) u) two a' (ended ∙ rw (apart-ends, done)) z'

-- ---- rows y and y + 1 of a region
module _ (s : List Float) (r : PlaneRegion) (k : Kernel) (y o : ℕ) (d a : List Float) where
  pub region_pair : (t b e : ℕ) → 0 < y → y + 2 < r.height → o ≡ r.at + y * r.stride → t + r.stride ≡ o → b ≡ o + r.stride → e ≡ b + r.stride
      → a ≡ fill (fill d o r.width (row_sample s t o b r.width k inner)) b r.width (row_sample s o b e r.width k inner)
      → a ≡ fill (fill d o r.width (region_sample s r k y)) (o + r.stride) r.width (region_sample s r k (y + 1))
  region_pair t b e z l start above between below h =
      let next : b ≡ r.at + (y + 1) * r.stride = omega (arith, row_below y r.stride) in
      let first : fill d o r.width (row_sample s t o b r.width k inner) ≡ fill d o r.width (region_sample s r k y) =
      fill-cong d o r.width _ _ (λ x p. region-inner s r k y x o p (omega arith) start t b z (omega arith) above between) in
      h ∙ rw (first, ← between) (fill-cong _ b r.width _ _ (λ x p. region-inner s r k (y + 1) x b p (omega arith) next o e (omega arith) (omega arith) (sym between) below))

  -- one row, as rows from row y
  pub region_one : a ≡ fill d o r.width (region_sample s r k y) → a ≡ rows_fill d o r.stride r.width 1 (region_rows s r k y)
  unfolding rows_fill region_rows
  region_one h =
      let z : y + 0 ≡ y = omega arith in
      rows-turn d d a o r.stride r.width 0 o (region_rows s r k y) refl (omega arith) (h ∙ fill-cong d o r.width _ _ (λ x p. rw z))

-- two rows, as rows from row y
pub region_two : (s : List Float) (r : PlaneRegion) (k : Kernel) (y o : ℕ) (d a : List Float)
    → a ≡ fill (fill d o r.width (region_sample s r k y)) (o + r.stride) r.width (region_sample s r k (y + 1))
    → a ≡ rows_fill d o r.stride r.width 2 (region_rows s r k y)
unfolding region_rows
region_two s r k y o d a h =
    rows-turn d _ a o r.stride r.width 1 (o + r.stride) (region_rows s r k y) (region_one s r k y o d _ refl) (omega arith) (h ∙ fill-cong _ _ r.width _ _ (λ x p. refl))

-- m rows after i rows
pub rows_then : (d a b : List Float) (at stride n i m o : ℕ) (u v : ℕ → ℕ → Float) → a ≡ rows_fill d at stride n i v → o ≡ at + i * stride
    → ((j x : ℕ) → u j x ≡ v (i + j) x) → b ≡ rows_fill a o stride n m u → b ≡ rows_fill d at stride n (i + m) v
unfolding rows_fill
rows_then d a b at stride n i m o u v p e h q = q ∙ go m
  where
    go : (m : ℕ) → rows_fill a o stride n m u ≡ rows_fill d at stride n (i + m) v
    go zero = p ∙ let z : i + 0 ≡ i = omega arith in rw z
    go (suc m) =
        let z : i + suc m ≡ suc (i + m) = omega arith in
        let l : o + m * stride ≡ at + (i + m) * stride = omega (arith, add-mul i m stride) in
        rw (z, go m, l) (fill-cong _ _ n _ _ (λ x p. h m x))
