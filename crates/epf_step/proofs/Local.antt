-- A step's sample depends only on samples within the step's reach, in its own channel and the channels that a distance compares. Assumes
-- nothing.
use mathlib.Core.Path.{◌≡◌, refl}
use mathlib.Core.Bool.{Bool, ◌&&◌}
use mathlib.Core.List.{List, [], ◌∷◌}
use Prim.Native.Nat.{ℕ, zero, suc, ◌+◌, ◌<◌, ◌≤◌}
use native.Mathlib.Omega.{arith}
use lib.Dec.{T, leb, ltb, leb→le, lt→ltb, ltb→lt}
use lib.Ieee.{Float}
use lib.Ieee.Fits.{and_l, and_r, and_i}
use lib.IntN.{ℤ, pos, ◌+ℤ◌, nat_abs}
use Rattle.planes.specs.Picture.{Around}
use Rattle.epf_step.specs.Steps.{Offset, Scaled, kernel, dists, reach, along, scaled_from, scaled, apart, distance, weight_at, blend, divisor, epf}
use Rattle.epf_step.specs.Channels.{all, channels_below}

-- two readers agree in channels below n at offsets of at most r
abbrev pub Alike : ℕ → ℕ → Around → Around → Type 0
Alike n r u v = (c : ℕ) (dx dy : ℤ) → c < n → nat_abs dx ≤ r → nat_abs dy ≤ r → u c dx dy ≡ v c dx dy

unfoldable pub near : ℕ → Offset → Bool
near r o = leb (nat_abs o.0) r && leb (nat_abs o.1) r

-- the offsets that a distance to k reads
unfoldable pub dists_near : ℕ → List Offset → Offset → Bool
unfolding near all
dists_near r ds k = all (λ (i : Offset). near r (k.0 +ℤ i.0, k.1 +ℤ i.1) && near r i) ds

-- the offsets that a step reads
unfoldable pub step_near : ℕ → List Offset → List Offset → Bool
unfolding near all dists_near
step_near r ks ds = all (λ (k : Offset). near r k && dists_near r ds k) ks

pub steps-near : (s : ℕ) → s < 3 → T (step_near (reach s) (kernel s) (dists s))
unfolding step_near kernel dists
steps-near zero h = tt
steps-near (suc zero) h = tt
steps-near (suc (suc zero)) h = tt
steps-near (suc (suc (suc s))) h = absurd (omega arith)

from-below : (m c n : ℕ) (ss : List Float) → c + n ≤ m → T (channels_below m (scaled_from c n ss))
unfolding scaled_from channels_below
from-below m c zero ss h = tt
from-below m c (suc n) ss h = and_i (ltb c m) (channels_below m (scaled_from (suc c) n ss)) (lt→ltb c m (omega arith)) (from-below m (suc c) n ss (omega arith))

pub scaled-below : (n : ℕ) (ss : List Float) → T (channels_below n (scaled n ss))
scaled-below n ss = from-below n 0 n ss (omega arith)

-- ---- the sample

along-cong : {A B : Type 0} (p : A → Bool) (f g : B → A → B) → ((b : B) (a : A) → T (p a) → f b a ≡ g b a) → (l : List A) → T (all p l) → (b : B) → along f b l ≡ along g b l
unfolding along all
along-cong p f g h [] t b = refl
along-cong p f g h (a ∷ l) t b = rw (h b a (and_l (p a) (all p l) t)) (along-cong p f g h l (and_r (p a) (all p l) t) (g b a))

module _ (n r : ℕ) (u v : Around) (same : Alike n r u v) where
  seen : (c : ℕ) (o : Offset) → c < n → T (near r o) → u c o.0 o.1 ≡ v c o.0 o.1
  unfolding near
  seen c o h t =
      let a = leb (nat_abs o.0) r in
      let b = leb (nat_abs o.1) r in
      same c o.0 o.1 h (leb→le (nat_abs o.0) r (and_l a b t)) (leb→le (nat_abs o.1) r (and_r a b t))

  apart-same : (ds : List Offset) (k : Offset) → T (dists_near r ds k) → (c : ℕ) → c < n → apart ds u c k ≡ apart ds v c k
  unfolding apart dists_near
  apart-same ds k t c h = along-cong (λ (i : Offset). near r (k.0 +ℤ i.0, k.1 +ℤ i.1) && near r i) _ _
      (λ b i q. rw (seen c (k.0 +ℤ i.0, k.1 +ℤ i.1) h (and_l (near r (k.0 +ℤ i.0, k.1 +ℤ i.1)) (near r i) q), seen c i h (and_r (near r (k.0 +ℤ i.0, k.1 +ℤ i.1)) (near r i) q))) ds t _

  distance-same : (cs : List Scaled) (ds : List Offset) (k : Offset) → T (channels_below n cs) → T (dists_near r ds k) → distance cs ds u k ≡ distance cs ds v k
  unfolding distance channels_below
  distance-same cs ds k m t = along-cong (λ (c : Scaled). ltb c.0 n) _ _ (λ b c q. rw (apart-same ds k t c.0 (ltb→lt c.0 n q))) cs m _

  centre : (c : ℕ) → c < n → u c (pos 0) (pos 0) ≡ v c (pos 0) (pos 0)
  centre c h = same c (pos 0) (pos 0) h (omega arith) (omega arith)

  module _ (cs : List Scaled) (ks ds : List Offset) (sigma m : Float) (q : T (channels_below n cs)) (t : T (step_near r ks ds)) where
    weight_at-same : (k : Offset) → T (dists_near r ds k) → weight_at cs ks ds sigma m u k ≡ weight_at cs ks ds sigma m v k
    unfolding weight_at
    weight_at-same k w = rw (distance-same cs ds k q w)

    blend-same : (c : ℕ) → c < n → blend cs ks ds sigma m u c ≡ blend cs ks ds sigma m v c
    unfolding blend step_near
    blend-same c h = rw (centre c h) (along-cong (λ (k : Offset). near r k && dists_near r ds k) _ _
        (λ b k p. rw (weight_at-same k (and_r (near r k) (dists_near r ds k) p), seen c k h (and_l (near r k) (dists_near r ds k) p))) ks t _)

    divisor-same : divisor cs ks ds sigma m u ≡ divisor cs ks ds sigma m v
    unfolding divisor step_near
    divisor-same = along-cong (λ (k : Offset). near r k && dists_near r ds k) _ _
        (λ b k p. rw (weight_at-same k (and_r (near r k) (dists_near r ds k) p))) ks t _

    -- readers that agree within the step's reach give the same sample
    pub epf-same : (limit : Float) (c : ℕ) → c < n → epf cs ks ds sigma m limit u c ≡ epf cs ks ds sigma m limit v c
    unfolding epf
    epf-same limit c h = rw (centre c h, blend-same c h, divisor-same)
