-- Laws of pictures and of sets of planes: lengths, samples, and when two sets are the same. Assumes nothing.
use mathlib.Core.Path.{◌≡◌, refl, sym, ap, ◌∙◌}
use mathlib.Core.List.{List}
use Prim.Native.Nat.{ℕ, zero, suc, ◌+◌, ◌*◌, ◌/◌, ◌%◌, ◌<◌}
use native.Mathlib.Nat.{le_of_suc-le-suc, mod-lt, div-lt_iff_lt-mul, div-add-mod'}
use native.Mathlib.Omega.{arith}
use lib.Arith.{digits_lt, digits_div, digits_mod}
use lib.ListN.{length, get_or}
use lib.Seq.{ext_get_or}
use lib.Ieee.{Float, nan}
use Rattle.planes.specs.Picture.{Picture, around}
use Rattle.planes.specs.Sets.{of, set_of, tab}
use lib.IntN.{ℤ, pos, ◌+ℤ◌}
use Rattle.mirror.proofs.Laws.{mirror-in}

pub length-tab : (n : ℕ) (f : ℕ → Float) → length (tab n f) ≡ n
unfolding tab
length-tab zero f = refl
length-tab (suc n) f = ap suc (length-tab n (λ i. f (suc i)))

pub get_d-tab : (n : ℕ) (f : ℕ → Float) (i : ℕ) → i < n → get_or (tab n f) i nan ≡ f i
unfolding tab
get_d-tab zero f i h = absurd (omega arith)
get_d-tab (suc n) f zero h = refl
get_d-tab (suc n) f (suc i) h = get_d-tab n (λ i. f (suc i)) i (le_of_suc-le-suc h)

pub length-set_of : (n w h : ℕ) (g : Picture) → length (set_of n w h g) ≡ n * h * w
unfolding set_of
length-set_of n w h g = length-tab (n * h * w) (λ i. g (i / w / h) (i % w) (i / w % h))

-- the index of each sample is below the length of the set
pub place-lt : (n w h c x y : ℕ) → c < n → x < w → y < h → (c * h + y) * w + x < n * h * w
place-lt n w h c x y p q r = digits_lt (digits_lt p r) q

pub of-set_of : (n w h : ℕ) (g : Picture) (c x y : ℕ) → c < n → x < w → y < h → of w h (set_of n w h g) c x y ≡ g c x y
unfolding of set_of
of-set_of n w h g c x y p q r =
    let i = (c * h + y) * w + x in
    let d : i / w ≡ c * h + y = digits_div (c * h + y) q in
    get_d-tab (n * h * w) (λ i. g (i / w / h) (i % w) (i / w % h)) i (place-lt n w h c x y p q r)
    ∙ rw (d, digits_mod (c * h + y) q, digits_div c r, digits_mod c r)

-- two sets of n planes are equal if all their samples are
pub sets-ext : (n w h : ℕ) (s t : List Float) → length s ≡ n * h * w → length t ≡ n * h * w
    → ((c x y : ℕ) → c < n → x < w → y < h → of w h s c x y ≡ of w h t c x y) → s ≡ t
unfolding of
sets-ext n w h s t ls lt e = ext_get_or nan s t (ls ∙ sym lt) each
  where
    pos-w : (m k i : ℕ) → i < m * k → 0 < k
    pos-w m zero i l = absurd (omega arith)
    pos-w m (suc k) i l = omega arith

    each : (i : ℕ) → i < length s → get_or s i nan ≡ get_or t i nan
    each i l =
        let l' : i < n * h * w = omega arith in
        let W : 0 < w = pos-w (n * h) w i l' in
        let row : i / w < n * h = (div-lt_iff_lt-mul W).1 l' in
        let H : 0 < h = pos-w n h (i / w) row in
        let at : (i / w / h * h + i / w % h) * w + i % w ≡ i = rw (div-add-mod' (i / w) h) (div-add-mod' i w) in
        rw at at (e (i / w / h) (i % w) (i / w % h) ((div-lt_iff_lt-mul H).1 row) (mod-lt i W) (mod-lt (i / w) H))

-- a position inside the picture is read without mirroring
pub around-inside : (w h : ℕ) (g : Picture) (x y c : ℕ) (dx dy : ℤ) (u v : ℕ) → pos x +ℤ dx ≡ pos u → pos y +ℤ dy ≡ pos v → u < w → v < h
    → around w h g x y c dx dy ≡ g c u v
unfolding around
around-inside w h g x y c dx dy u v p q i j = rw (p, q, mirror-in w u i, mirror-in h v j)
