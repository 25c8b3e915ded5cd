-- Laws of a frame's sizes. Assumes nothing.
use mathlib.Core.Path.{◌≡◌, refl, sym, ap, ◌∙◌}
use mathlib.Core.Bool.{Bool, true, false, false≢true, ◌||◌}
use mathlib.Core.List.{[], ◌∷◌}
use Prim.Native.Nat.{ℕ, zero, suc, ◌+◌, ◌-◌, ◌*◌, ◌/◌, ◌^◌, ◌<◌, ◌≤◌}
use native.Mathlib.Nat.{mod-lt, div-add-mod', div-lt_iff_lt-mul, le-div_iff_mul-le, div-div-eq-div-mul, lt-div-mul-add, suc-mul, mul-le-mul, le-mul_of_pos_right, one-le-pow}
use native.Mathlib.Decide.{dec_le}
use native.Mathlib.Omega.{arith}
use borrow.Author.Tests.{ltb-false, ne_eqb}
use lib.Dec.{ltb}
use lib.Pow.{pow_pos, pow-add, pow_mono}
use lib.Count.{count_trailing_zeros}
use Rattle.std.specs.Int.{div_ceil}
use Rattle.std.proofs.lemmas.Grind.{div_ceil_times}
use Rattle.refusals.specs.Numbers.{out_of_limits, out_of_range}
use Rattle.refusals.specs.Checks.{always, first_of}
use Rattle.frame.specs.declared.Frame.{Frame}
use Rattle.frame.specs.declared.GroupSizes.{GroupSizes}
use Rattle.frame.specs.Sizes.{divided_up, sample_side, group_dim_of, group_shift_of, groups_along, group_of, inner_of, width_of, height_of, sizes_of}
use Rattle.frame.specs.Outcome.{frame_checks, bad_side, bad_sides, bad_upsampling, bad_settings}
use Rattle.frame.specs.Sound.{Sound}

-- ---- division rounded up: the smallest q with a ≤ q × b

-- a ≤ q × b,
pub divided-up-covers : (a b : ℕ) → 0 < b → a ≤ divided_up a b * b
divided-up-covers a b p = omega (arith, lt-div-mul-add {a = a + (b - 1)} {b = b} p)

-- and no smaller q has that.
pub divided-up-least : (a b q : ℕ) → 0 < b → a ≤ q * b → divided_up a b ≤ q
divided-up-least a b q p h =
    let l : a + (b - 1) < suc q * b = omega (arith, suc-mul q b) in
    omega (arith, (div-lt_iff_lt-mul {k = b} {x = a + (b - 1)} {y = suc q} p).1 l)

-- The library's `div_ceil` is that q.
pub div-ceil-is : (a b : ℕ) → 0 < b → div_ceil a b ≡ divided_up a b
div-ceil-is a b p =
    let t = div_ceil_times a b p in
    omega (arith, divided-up-least a b (div_ceil a b) p t.0, (le-div_iff_mul-le {k = b} {x = div_ceil a b} {y = a + (b - 1)} p).1 (omega (arith, t.1)))

-- It is at least 1 if a is,
pub divided-up-pos : (a b : ℕ) → 0 < b → 1 ≤ a → 1 ≤ divided_up a b
divided-up-pos a b p h = (le-div_iff_mul-le {k = b} {x = 1} {y = a + (b - 1)} p).1 (omega arith)

-- and at most a.
pub divided-up-le : (a b : ℕ) → 0 < b → divided_up a b ≤ a
divided-up-le a b p = divided-up-least a b a p (le-mul_of_pos_right a p)

-- ---- sample sides

-- A sample side is at least 1,
pub sample-side-pos : (side u level : ℕ) → 1 ≤ side → 1 ≤ u → 1 ≤ sample_side side u level
sample-side-pos side u level h p = divided-up-pos (divided_up side u) (8 ^ level) (one-le-pow level 8 (omega arith)) (divided-up-pos side u p h)

-- and at most the frame's side.
pub sample-side-le : (side u level : ℕ) → 1 ≤ u → sample_side side u level ≤ side
sample-side-le side u level p = omega (arith, divided-up-le (divided_up side u) (8 ^ level) (one-le-pow level 8 (omega arith)), divided-up-le side u p)

-- ---- groups

-- The group dimension is at least 128,
pub group-dim-ge : (s : ℕ) → 128 ≤ group_dim_of s
group-dim-ge s = omega (arith, pow_pos s)

-- and at most 1024.
pub group-dim-le : (s : ℕ) → s ≤ 3 → group_dim_of s ≤ 1024
group-dim-le s h = omega (arith, pow_mono {i = s} {j = 3} h)

-- The group shift is 7 more than the group size shift,
pub group-shift-is : (s : ℕ) → s ≤ 3 → group_shift_of s ≡ 7 + s
unfolding count_trailing_zeros
group-shift-is zero h = refl
group-shift-is (suc zero) h = refl
group-shift-is (suc (suc zero)) h = refl
group-shift-is (suc (suc (suc zero))) h = refl
group-shift-is (suc (suc (suc (suc n)))) h = absurd (no h)
  where
    no : suc (suc (suc (suc n))) ≤ 3 → ⊥
    no h = omega arith

-- and 2 to its power is the group dimension.
pub group-shift-power : (s : ℕ) → s ≤ 3 → 2 ^ group_shift_of s ≡ group_dim_of s
group-shift-power s h = ap (λ (k : ℕ). 2 ^ k) (group-shift-is s h) ∙ pow-add 2 7 s

-- There is at least one LF group along a side of at least 1,
pub groups-along-pos : (side s : ℕ) → 1 ≤ side → 1 ≤ groups_along side s
groups-along-pos side s h = divided-up-pos side (8 * group_dim_of s) (omega (arith, group-dim-ge s)) h

-- and at most 16.
pub groups-along-le : (side s : ℕ) → side ≤ 16384 → groups_along side s ≤ 16
groups-along-le side s h = divided-up-least side (8 * group_dim_of s) 16 (omega (arith, group-dim-ge s)) (omega (arith, group-dim-ge s))

-- ---- a block's group and inner cell

-- The group number and the inner cell determine the block.
pub split-whole : (block s : ℕ) → block ≡ group_of block s * group_dim_of s + inner_of block s
split-whole block s = sym (div-add-mod' block (group_dim_of s))

-- The inner cell is below the group dimension.
pub inner-lt : (block s : ℕ) → inner_of block s < group_dim_of s
inner-lt block s = mod-lt block (omega (arith, group-dim-ge s))

-- For a column or row inside the sample side, the group of its block is below the number of groups along the side.
pub group-below : (x side s : ℕ) → x < side → group_of (x / 8) s < groups_along side s
group-below x side s h =
    let p : 0 < 8 * group_dim_of s = omega (arith, group-dim-ge s) in
    let c : side ≤ groups_along side s * (8 * group_dim_of s) = divided-up-covers side (8 * group_dim_of s) p in
    rw (div-div-eq-div-mul x 8 (group_dim_of s)) ((div-lt_iff_lt-mul {k = 8 * group_dim_of s} {x = x} {y = groups_along side s} p).1 (omega arith))

neither : (a b : Bool) → (a || b) ≡ false → (a ≡ false) × (b ≡ false)
neither false false h = (refl, refl)
neither false true h = absurd (false≢true (sym h))
neither true b h = absurd (false≢true (sym h))

upsampling-range : (u : ℕ) → bad_upsampling u ≡ false → (1 ≤ u) × (u ≤ 8)
upsampling-range u h = (low (dec_le 1 u), high (dec_le u 8))
  where
    low : Dec (1 ≤ u) → 1 ≤ u
    low (yes l) = l
    low (no l) = let e : u ≡ 0 = omega arith in absurd (false≢true (sym (rw e at h)))

    high : Dec (u ≤ 8) → u ≤ 8
    high (yes l) = l
    high (no l) =
        absurd
        (false≢true
        (sym
        (rw (ne_eqb u 1 (λ e. omega arith), ne_eqb u 2 (λ e. omega arith), ne_eqb u 4 (λ e. omega arith), ne_eqb u 8 (λ e. omega arith)) at h)))

-- no check applies
none : (s t : Bool) → first_of (always out_of_limits s ∷ always out_of_range t ∷ []) ≡ 0 → (s ≡ false) × (t ≡ false)
none false false e = (refl, refl)
none false true e = absurd (omega arith)
none true t e = absurd (omega arith)

-- A frame whose sides and settings are in range satisfies `Sound`.
pub fitting-sound : (f : Frame) → bad_sides f ≡ false → bad_settings f ≡ false → Sound f
unfolding bad_sides bad_settings
fitting-sound f sides settings =
    let s = neither (bad_side f.width) (bad_side f.height) sides in
    let w = neither (ltb f.width 1) (ltb 16384 f.width) s.0 in
    let h = neither (ltb f.height 1) (ltb 16384 f.height) s.1 in
    let l = neither (bad_upsampling f.upsampling || ltb 4 f.lf_level) (ltb 3 f.group_size_shift) settings in
    let u = neither (bad_upsampling f.upsampling) (ltb 4 f.lf_level) l.0 in
    record {
      width-pos = ltb-false f.width 1 w.0;
      width-le = ltb-false 16384 f.width w.1;
      height-pos = ltb-false f.height 1 h.0;
      height-le = ltb-false 16384 f.height h.1;
      upsampling-pos = (upsampling-range f.upsampling u.0).0;
      upsampling-le = (upsampling-range f.upsampling u.0).1;
      level-le = ltb-false 4 f.lf_level u.1;
      shift_le = ltb-false 3 f.group_size_shift l.1;
    }

-- a frame to which no check applies
pub frame-fits : (f : Frame) → first_of (frame_checks f) ≡ 0 → (bad_sides f ≡ false) × (bad_settings f ≡ false)
frame-fits f e = none (bad_sides f) (bad_settings f) e

-- the bounds of a frame's sizes
pub record Bounded (g : GroupSizes) : Type 0 where
  pub width-pos : 1 ≤ g.sample_width
  pub width-le : g.sample_width ≤ 16384
  pub height-pos : 1 ≤ g.sample_height
  pub height-le : g.sample_height ≤ 16384
  pub dim-ge : 128 ≤ g.group_dim
  pub dim-le : g.group_dim ≤ 1024
  pub row-pos : 1 ≤ g.groups_per_row
  pub row-le : g.groups_per_row ≤ 16
  pub column-pos : 1 ≤ g.groups_per_column
  pub column-le : g.groups_per_column ≤ 16
  pub groups : g.num_groups ≡ g.groups_per_row * g.groups_per_column
  pub groups-le : g.num_groups ≤ 256

-- The sizes of a frame whose numbers are in range satisfy those bounds.
pub sizes-bounded : (f : Frame) → Sound f → Bounded (sizes_of f)
unfolding sizes_of
sizes-bounded f s =
    let u = f.upsampling in
    let l = f.lf_level in
    let k = f.group_size_shift in
    let w : width_of f ≤ 16384 = omega (arith, sample-side-le f.width u l s.upsampling-pos) in
    let h : height_of f ≤ 16384 = omega (arith, sample-side-le f.height u l s.upsampling-pos) in
    record {
      width-pos = sample-side-pos f.width u l s.width-pos s.upsampling-pos;
      width-le = w;
      height-pos = sample-side-pos f.height u l s.height-pos s.upsampling-pos;
      height-le = h;
      dim-ge = group-dim-ge k;
      dim-le = group-dim-le k s.shift_le;
      row-pos = groups-along-pos (width_of f) k (sample-side-pos f.width u l s.width-pos s.upsampling-pos);
      row-le = groups-along-le (width_of f) k w;
      column-pos = groups-along-pos (height_of f) k (sample-side-pos f.height u l s.height-pos s.upsampling-pos);
      column-le = groups-along-le (height_of f) k h;
      groups = refl;
      groups-le = mul-le-mul (groups-along-le (width_of f) k w) (groups-along-le (height_of f) k h);
    }
