-- Two adjacent rectangles of a set, one below or beside the other, written in sequence: together they are one rectangle. Assumes nothing.
use mathlib.Core.Path.{◌≡◌, refl, sym, ◌∙◌}
use mathlib.Core.Bool.{cond, and-false}
use mathlib.Core.List.{List}
use mathlib.Core.Logic.{inl, inr, ⊎_elim}
use Prim.Native.Nat.{ℕ, zero, suc, ◌+◌, ◌-◌, ◌*◌, ◌<◌, ◌≤◌}
use native.Mathlib.Nat.{mul-le-mul_right}
use native.Mathlib.Decide.{dec_lt}
use native.Mathlib.Omega.{arith}
use borrow.Author.Tests.{le-leb, lt-ltb}
use lib.ListN.{length}
use lib.Ieee.{Float}
use Rattle.planes.specs.Picture.{Picture, in_rect}
use Rattle.planes.specs.Sets.{of}
use Rattle.planes.proofs.SetLaws.{sets-ext}
use Rattle.planes.specs.Rect.{planes_fill}
use Rattle.planes.proofs.Rect.{rows-cong, Between, between, planes-at, planes-later, length-planes_fill}

-- only the samples of the rectangle matter
pub planes-cong : (w h left n top m : ℕ) (u v : Picture) (d : List Float) (k : ℕ) → ((c x i : ℕ) → c < k → x < n → i < m → u c x i ≡ v c x i)
    → planes_fill w h left n top m u d k ≡ planes_fill w h left n top m v d k
unfolding planes_fill
planes-cong w h left n top m u v d zero e = refl
planes-cong w h left n top m u v d (suc k) e =
    rw (planes-cong w h left n top m u v d k (λ c x i p q r. e c x i (omega arith) q r)) (rows-cong _ ((k * h + top) * w + left) w n m _ _ (λ i x r q. e k x i (omega arith) q r))

-- a sample of the rectangle
pub rect-at : (w h left n top m : ℕ) (v : Picture) (d : List Float) (k c x i : ℕ) → left + n ≤ w → top + m ≤ h → k * h * w ≤ length d → c < k → x < n → i < m
    → of w h (planes_fill w h left n top m v d k) c (left + x) (top + i) ≡ v c x i
unfolding in_rect
rect-at w h left n top m v d k c x i fits high room l p q =
    let a : left + x - left ≡ x = omega arith in
    let b : top + i - top ≡ i = omega arith in
    planes-at w h left n top m v fits high d k c (left + x) (top + i) l room (omega arith) (omega arith)
    ∙ rw (le-leb left (left + x) (omega arith), lt-ltb (left + x) (left + n) (omega arith), le-leb top (top + i) (omega arith), lt-ltb (top + i) (top + m) (omega arith), a, b)

-- the first k of N planes
module _ (N w h k : ℕ) (few : k ≤ N) where
  room : (d : List Float) → length d ≡ N * h * w → k * h * w ≤ length d
  room d e = omega (arith, mul-le-mul_right w (mul-le-mul_right h few))

  module _ (left n top m m' : ℕ) (u v t : Picture) (d a b : List Float) (len : length d ≡ N * h * w) (fits : left + n ≤ w) (high : top + (m + m') ≤ h)
      (ea : a ≡ planes_fill w h left n top m u d k) (eb : b ≡ planes_fill w h left n (top + m) m' v a k)
      (first : (c x i : ℕ) → c < k → x < n → i < m → u c x i ≡ t c x i) (second : (c x i : ℕ) → c < k → x < n → i < m' → v c x i ≡ t c x (m + i)) where
    long : length a ≡ N * h * w
    long = rw ea (length-planes_fill w h left n top m u fits (omega arith) d k ∙ len)

    -- m rows, then m' rows below them
    pub rect-below : b ≡ planes_fill w h left n top (m + m') t d k
    unfolding in_rect
    rect-below = sets-ext N w h b (planes_fill w h left n top (m + m') t d k)
        (rw eb (length-planes_fill w h left n (top + m) m' v fits (omega arith) a k ∙ long)) (length-planes_fill w h left n top (m + m') t fits high d k ∙ len) each
      where
        each : (c x y : ℕ) → c < N → x < w → y < h → of w h b c x y ≡ of w h (planes_fill w h left n top (m + m') t d k) c x y
        each c x y C X Y = go (dec_lt c k)
          where
            part : c < k → Between left n x → Between top m y → Between (top + m) m' y → Between top (m + m') y
                → cond (in_rect left n (top + m) m' x y) (v c (x - left) (y - (top + m))) (cond (in_rect left n top m x y) (u c (x - left) (y - top)) (of w h d c x y))
                ≡ cond (in_rect left n top (m + m') x y) (t c (x - left) (y - top)) (of w h d c x y)
            part l (inr p) q r s = rw p.1
            part l (inl p) (inl q) (inl r) s = absurd (omega arith)
            part l (inl p) (inl q) (inr r) (inl s) = rw (p.2, q.2, r.1, s.2) (first c (x - left) (y - top) l (omega arith) (omega arith))
            part l (inl p) (inl q) (inr r) (inr s) = absurd (⊎_elim (λ (e : y < top). omega arith) (λ (e : top + (m + m') ≤ y). omega arith) s.0)
            part l (inl p) (inr q) (inl r) (inl s) =
                let i : m + (y - (top + m)) ≡ y - top = omega arith in
                rw (p.2, q.1, r.2, s.2) (second c (x - left) (y - (top + m)) l (omega arith) (omega arith) ∙ rw i)
            part l (inl p) (inr q) (inl r) (inr s) = absurd (⊎_elim (λ (e : y < top). omega arith) (λ (e : top + (m + m') ≤ y). omega arith) s.0)
            part l (inl p) (inr q) (inr r) (inl s) =
                absurd (⊎_elim (λ (e : y < top). omega arith) (λ (e : top + m ≤ y). ⊎_elim (λ (f : y < top + m). omega arith) (λ (f : top + m + m' ≤ y). omega arith) r.0) q.0)
            part l (inl p) (inr q) (inr r) (inr s) = rw (p.2, q.1, r.1, s.1)

            go : Dec (c < k) → of w h b c x y ≡ of w h (planes_fill w h left n top (m + m') t d k) c x y
            go (yes l) =
                rw eb (planes-at w h left n (top + m) m' v fits (omega arith) a k c x y l (room a long) X Y
                ∙ rw ea (rw (planes-at w h left n top m u fits (omega arith) d k c x y l (room d len) X Y) (part l (between left n x) (between top m y) (between (top + m) m' y) (between top (m + m') y)))
                ∙ sym (planes-at w h left n top (m + m') t fits high d k c x y l (room d len) X Y))
            go (no l) =
                rw eb (planes-later w h left n (top + m) m' v fits (omega arith) a k c x y (omega arith) X Y
                ∙ rw ea (planes-later w h left n top m u fits (omega arith) d k c x y (omega arith) X Y)
                ∙ sym (planes-later w h left n top (m + m') t fits high d k c x y (omega arith) X Y))

  module _ (left n n' top m : ℕ) (u v t : Picture) (d a b : List Float) (len : length d ≡ N * h * w) (fits : left + (n + n') ≤ w) (high : top + m ≤ h)
      (ea : a ≡ planes_fill w h left n top m u d k) (eb : b ≡ planes_fill w h (left + n) n' top m v a k)
      (first : (c x i : ℕ) → c < k → x < n → i < m → u c x i ≡ t c x i) (second : (c x i : ℕ) → c < k → x < n' → i < m → v c x i ≡ t c (n + x) i) where
    held : length a ≡ N * h * w
    held = rw ea (length-planes_fill w h left n top m u (omega arith) high d k ∙ len)

    -- n columns, then n' columns right of them
    pub rect-beside : b ≡ planes_fill w h left (n + n') top m t d k
    unfolding in_rect
    rect-beside = sets-ext N w h b (planes_fill w h left (n + n') top m t d k)
        (rw eb (length-planes_fill w h (left + n) n' top m v (omega arith) high a k ∙ held)) (length-planes_fill w h left (n + n') top m t fits high d k ∙ len) each
      where
        each : (c x y : ℕ) → c < N → x < w → y < h → of w h b c x y ≡ of w h (planes_fill w h left (n + n') top m t d k) c x y
        each c x y C X Y = go (dec_lt c k)
          where
            part : c < k → Between top m y → Between left n x → Between (left + n) n' x → Between left (n + n') x
                → cond (in_rect (left + n) n' top m x y) (v c (x - (left + n)) (y - top)) (cond (in_rect left n top m x y) (u c (x - left) (y - top)) (of w h d c x y))
                ≡ cond (in_rect left (n + n') top m x y) (t c (x - left) (y - top)) (of w h d c x y)
            part l (inr p) q r s = simp (p.1, and-false)
            part l (inl p) (inl q) (inl r) s = absurd (omega arith)
            part l (inl p) (inl q) (inr r) (inl s) = rw (p.2, q.2, r.1, s.2) (first c (x - left) (y - top) l (omega arith) (omega arith))
            part l (inl p) (inl q) (inr r) (inr s) = absurd (⊎_elim (λ (e : x < left). omega arith) (λ (e : left + (n + n') ≤ x). omega arith) s.0)
            part l (inl p) (inr q) (inl r) (inl s) =
                let i : n + (x - (left + n)) ≡ x - left = omega arith in
                rw (p.2, q.1, r.2, s.2) (second c (x - (left + n)) (y - top) l (omega arith) (omega arith) ∙ rw i)
            part l (inl p) (inr q) (inl r) (inr s) = absurd (⊎_elim (λ (e : x < left). omega arith) (λ (e : left + (n + n') ≤ x). omega arith) s.0)
            part l (inl p) (inr q) (inr r) (inl s) =
                absurd (⊎_elim (λ (e : x < left). omega arith) (λ (e : left + n ≤ x). ⊎_elim (λ (f : x < left + n). omega arith) (λ (f : left + n + n' ≤ x). omega arith) r.0) q.0)
            part l (inl p) (inr q) (inr r) (inr s) = rw (q.1, r.1, s.1)

            go : Dec (c < k) → of w h b c x y ≡ of w h (planes_fill w h left (n + n') top m t d k) c x y
            go (yes l) =
                rw eb (planes-at w h (left + n) n' top m v (omega arith) high a k c x y l (room a held) X Y
                ∙ rw ea (rw (planes-at w h left n top m u (omega arith) high d k c x y l (room d len) X Y) (part l (between top m y) (between left n x) (between (left + n) n' x) (between left (n + n') x)))
                ∙ sym (planes-at w h left (n + n') top m t fits high d k c x y l (room d len) X Y))
            go (no l) =
                rw eb (planes-later w h (left + n) n' top m v (omega arith) high a k c x y (omega arith) X Y
                ∙ rw ea (planes-later w h left n top m u (omega arith) high d k c x y (omega arith) X Y)
                ∙ sym (planes-later w h left (n + n') top m t fits high d k c x y (omega arith) X Y))

  module _ (left n top m at n' : ℕ) (u v t : Picture) (d a b : List Float) (len : length d ≡ N * h * w) (fits : left + n ≤ w) (high : top + m ≤ h) (part_of : at + n' ≤ n)
      (ea : a ≡ planes_fill w h left n top m u d k) (eb : b ≡ planes_fill w h (left + at) n' top m v a k)
      (before : (c x i : ℕ) → c < k → x < at → i < m → u c x i ≡ t c x i) (inner : (c x i : ℕ) → c < k → x < n' → i < m → v c x i ≡ t c (at + x) i)
      (after : (c x i : ℕ) → c < k → at + n' ≤ x → x < n → i < m → u c x i ≡ t c x i) where
    stays : length a ≡ N * h * w
    stays = rw ea (length-planes_fill w h left n top m u fits high d k ∙ len)

    -- n' columns of a rectangle that is already written, written again
    pub rect-inside : b ≡ planes_fill w h left n top m t d k
    unfolding in_rect
    rect-inside = sets-ext N w h b (planes_fill w h left n top m t d k)
        (rw eb (length-planes_fill w h (left + at) n' top m v (omega arith) high a k ∙ stays)) (length-planes_fill w h left n top m t fits high d k ∙ len) each
      where
        each : (c x y : ℕ) → c < N → x < w → y < h → of w h b c x y ≡ of w h (planes_fill w h left n top m t d k) c x y
        each c x y C X Y = go (dec_lt c k)
          where
            part : c < k → Between top m y → Between left n x → Between (left + at) n' x
                → cond (in_rect (left + at) n' top m x y) (v c (x - (left + at)) (y - top)) (cond (in_rect left n top m x y) (u c (x - left) (y - top)) (of w h d c x y))
                ≡ cond (in_rect left n top m x y) (t c (x - left) (y - top)) (of w h d c x y)
            part l (inr p) q r = simp (p.1, and-false)
            part l (inl p) (inl q) (inl r) =
                let i : at + (x - (left + at)) ≡ x - left = omega arith in
                rw (p.2, q.2, r.2) (inner c (x - (left + at)) (y - top) l (omega arith) (omega arith) ∙ rw i)
            part l (inl p) (inl q) (inr r) =
                rw (p.2, q.2, r.1) (⊎_elim (λ (e : x < left + at). before c (x - left) (y - top) l (omega arith) (omega arith)) (λ (e : left + at + n' ≤ x). after c (x - left) (y - top) l (omega arith) (omega arith) (omega arith)) r.0)
            part l (inl p) (inr q) (inl r) = absurd (⊎_elim (λ (e : x < left). omega arith) (λ (e : left + n ≤ x). omega arith) q.0)
            part l (inl p) (inr q) (inr r) = rw (q.1, r.1)

            go : Dec (c < k) → of w h b c x y ≡ of w h (planes_fill w h left n top m t d k) c x y
            go (yes l) =
                rw eb (planes-at w h (left + at) n' top m v (omega arith) high a k c x y l (room a stays) X Y
                ∙ rw ea (rw (planes-at w h left n top m u fits high d k c x y l (room d len) X Y) (part l (between top m y) (between left n x) (between (left + at) n' x)))
                ∙ sym (planes-at w h left n top m t fits high d k c x y l (room d len) X Y))
            go (no l) =
                rw eb (planes-later w h (left + at) n' top m v (omega arith) high a k c x y (omega arith) X Y
                ∙ rw ea (planes-later w h left n top m u fits high d k c x y (omega arith) X Y)
                ∙ sym (planes-later w h left n top m t fits high d k c x y (omega arith) X Y))
