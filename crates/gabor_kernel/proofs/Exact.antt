-- A formula's exact value is the sum of its expansion. So in exact arithmetic each formula but that of a single sample has the value of the mirrored kernel: both
-- expansions have the same terms in a different order, which is checked by computation. Assumes nothing.
use mathlib.Core.Path.{◌≡◌, refl, sym, ◌∙◌, ap, subst}
use mathlib.Core.Bool.{Bool, true, false, cond, ◌&&◌}
use mathlib.Core.List.{List, [], ◌∷◌, ◌++◌, map}
use Prim.Native.Nat.{ℕ, zero, suc, ◌+◌}
use native.Mathlib.Nat.{zero-add, suc-add}
use lib.Dec.{T, eqb, eqb→eq}
use lib.Ieee.Fits.{and_l, and_r}
use lib.IntN.{ℤ, pos, negsuc, suc_ℤ, pred_ℤ, ◌+ℤ◌, ◌*ℤ◌, ◌-ℤ◌, neg_ℤ, ℤ_ind, +ℤ_idl, +ℤ_one, -ℤ_one, +ℤ_assoc, +ℤ_comm, +ℤ_invl, +ℤ-neg_ℤ_cancel, suc_ℤ-+ℤ, pred_ℤ-+ℤ, zero-*ℤ, *ℤ_comm, suc_ℤ-*ℤ, pred_ℤ-*ℤ}
use Rattle.gabor_kernel.specs.Ends.{End, only, first, last, inner}
use Rattle.gabor_kernel.specs.Gabor.{alone}
use Rattle.gabor_kernel.specs.Formula.{Formula, one, two, three, w0, w1, sample, ◌⊞◌, ◌⊠◌, formula}
use Rattle.gabor_kernel.specs.Mirrored.{Term, constant, times, products, expand, same, fold, mirrored_kernel, Coefficient, coefficient}
use Rattle.gabor_kernel.specs.Exact.{Arithmetic, Exact, exactly, power, multiple, nine_offsets, read_product, term_value, sum_of, weighted, weighted_sum, Weighs, AsMirrored, ExpansionSums, CoefficientsWeigh, FormulasMirrored, IntegersExact}

-- ---- the same terms in a different order

same_reads : List (ℤ × ℤ) → List (ℤ × ℤ) → Bool
same_reads [] [] = true
same_reads [] (p ∷ ps) = false
same_reads (o ∷ os) [] = false
same_reads (o ∷ os) (p ∷ ps) = (same o.0 p.0 && same o.1 p.1) && same_reads os ps

same_term : Term → Term → Bool
same_term s t = (eqb s.sides t.sides && eqb s.diagonals t.diagonals) && same_reads s.reads t.reads

among : Term → List Term → Bool
among s [] = false
among s (t ∷ ts) = cond (same_term s t) true (among s ts)

-- a list without the first term equal to s
without : Term → List Term → List Term
without s [] = []
without s (t ∷ ts) = cond (same_term s t) ts (t ∷ without s ts)

reordered : List Term → List Term → Bool
reordered [] [] = true
reordered [] (t ∷ ts) = false
reordered (s ∷ ss) ts = among s ts && reordered ss (without s ts)

-- the terms that coefficients represent

copies : ℕ → Term → List Term
copies zero t = []
copies (suc n) t = t ∷ copies n t

spread : Coefficient → ℤ × ℤ → List Term
spread c o =
    copies c.0 (record { sides = 0; diagonals = 0; reads = o ∷ [] })
    ++ (copies c.1 (record { sides = 1; diagonals = 0; reads = o ∷ [] }) ++ copies c.2 (record { sides = 0; diagonals = 1; reads = o ∷ [] }))

spread_all : Formula → List (ℤ × ℤ) → List Term
spread_all f [] = []
spread_all f (o ∷ os) = spread (coefficient f o.0 o.1) o ++ spread_all f os

same_number : (x y : ℤ) → T (same x y) → x ≡ y
same_number (pos m) (pos n) t = ap pos (eqb→eq m n t)
same_number (pos m) (negsuc n) t = absurd t
same_number (negsuc m) (pos n) t = absurd t
same_number (negsuc m) (negsuc n) t = ap negsuc (eqb→eq m n t)

both : {A : Type 0} (f : A → A → A) {p q r s : A} → p ≡ q → r ≡ s → f p r ≡ f q s
both f {p} {q} {r} {s} d e = ap (λ z. f z r) d ∙ ap (f q) e

module _ (R : Arithmetic) (x : Exact R) (a b : R.Number) (v : ℤ → ℤ → R.Number) where
  abbrev reading : List (ℤ × ℤ) → R.Number
  reading os = read_product R a b v os

  abbrev value : Term → R.Number
  value t = term_value R a b v t

  abbrev sum : List Term → R.Number
  sum ts = sum_of R a b v ts

  -- ---- sums and products

  -- (p q) (r s) = (p r) (q s)
  mul-mul : (p q r s : R.Number) → R.mul (R.mul p q) (R.mul r s) ≡ R.mul (R.mul p r) (R.mul q s)
  mul-mul p q r s =
      x.mul_assoc p q (R.mul r s) ∙ ap (R.mul p) (sym (x.mul_assoc q r s) ∙ ap (λ z. R.mul z s) (x.mul_comm q r) ∙ x.mul_assoc r q s)
      ∙ sym (x.mul_assoc p r (R.mul q s))

  -- p + (q + r) = q + (p + r)
  add-add : (p q r : R.Number) → R.add p (R.add q r) ≡ R.add q (R.add p r)
  add-add p q r = sym (x.add_assoc p q r) ∙ ap (λ z. R.add z r) (x.add_comm p q) ∙ x.add_assoc q p r

  -- p (q + r) = p q + p r
  mul-sum : (p q r : R.Number) → R.mul p (R.add q r) ≡ R.add (R.mul p q) (R.mul p r)
  mul-sum p q r = rw (x.mul_comm p (R.add q r), x.mul_comm p q, x.mul_comm p r) (x.mul-add q r p)

  mul-one : (p : R.Number) → R.mul p R.unit ≡ p
  mul-one p = x.mul_comm p R.unit ∙ x.mul-unit p

  plus-nought : (p : R.Number) → R.add p R.nought ≡ p
  plus-nought p = x.add_comm p R.nought ∙ x.add-nought p

  -- ---- products and sums of terms

  power-plus : (y : R.Number) (m n : ℕ) → power R y (m + n) ≡ R.mul (power R y m) (power R y n)
  unfolding power
  power-plus y zero n = rw (zero-add n) (sym (x.mul-unit (power R y n)))
  power-plus y (suc m) n = rw (suc-add m n) (ap (R.mul y) (power-plus y m n) ∙ sym (x.mul_assoc y (power R y m) (power R y n)))

  read_join : (os ps : List (ℤ × ℤ)) → reading (os ++ ps) ≡ R.mul (reading os) (reading ps)
  unfolding read_product
  read_join [] ps = sym (x.mul-unit (reading ps))
  read_join (o ∷ os) ps = rw (read_join os ps) (sym (x.mul_assoc (v o.0 o.1) (reading os) (reading ps)))

  term-times : (s t : Term) → value (times s t) ≡ R.mul (value s) (value t)
  term-times s t =
      both R.mul (both R.mul (power-plus a s.sides t.sides) (power-plus b s.diagonals t.diagonals) ∙ mul-mul _ _ _ _) (read_join s.reads t.reads)
      ∙ mul-mul _ _ _ _

  sum-join : (ss ts : List Term) → sum (ss ++ ts) ≡ R.add (sum ss) (sum ts)
  unfolding sum_of
  sum-join [] ts = sym (x.add-nought (sum ts))
  sum-join (s ∷ ss) ts = rw (sum-join ss ts) (sym (x.add_assoc (value s) (sum ss) (sum ts)))

  sum-times : (s : Term) (ts : List Term) → sum (map (times s) ts) ≡ R.mul (value s) (sum ts)
  unfolding sum_of
  sum-times s [] = sym (x.mul_comm (value s) R.nought ∙ x.mul-nought (value s))
  sum-times s (t ∷ ts) = both R.add (term-times s t) (sum-times s ts) ∙ sym (mul-sum (value s) (value t) (sum ts))

  sum-products : (ss ts : List Term) → sum (products ss ts) ≡ R.mul (sum ss) (sum ts)
  unfolding sum_of
  sum-products [] ts = sym (x.mul-nought (sum ts))
  sum-products (s ∷ ss) ts =
      sum-join (map (times s) ts) (products ss ts) ∙ both R.add (sum-times s ts) (sum-products ss ts) ∙ sym (x.mul-add (value s) (sum ss) (sum ts))

  -- ---- a formula and its expansion

  constant-value : value constant ≡ R.unit
  unfolding power read_product
  constant-value = mul-one _ ∙ x.mul-unit R.unit

  side-value : value (record { sides = 1; diagonals = 0; reads = [] }) ≡ a
  unfolding power read_product
  side-value = mul-one _ ∙ mul-one _ ∙ mul-one a

  diagonal-value : value (record { sides = 0; diagonals = 1; reads = [] }) ≡ b
  unfolding power read_product
  diagonal-value = mul-one _ ∙ x.mul-unit _ ∙ mul-one b

  sample-value : (dx dy : ℤ) → value (record { sides = 0; diagonals = 0; reads = (dx, dy) ∷ [] }) ≡ v dx dy
  unfolding power read_product
  sample-value dx dy = both R.mul (x.mul-unit R.unit) (mul-one (v dx dy)) ∙ x.mul-unit (v dx dy)

  pub expansion : (f : Formula) → exactly R a b v f ≡ sum (expand f)
  unfolding exactly expand sum_of
  expansion one = sym (plus-nought _ ∙ constant-value)
  expansion two = sym (both R.add constant-value (plus-nought _ ∙ constant-value))
  expansion three = sym (both R.add constant-value (both R.add constant-value (plus-nought _ ∙ constant-value)))
  expansion w0 = sym (plus-nought _ ∙ side-value)
  expansion w1 = sym (plus-nought _ ∙ diagonal-value)
  expansion (sample dx dy) = sym (plus-nought _ ∙ sample-value dx dy)
  expansion (f ⊞ g) = both R.add (expansion f) (expansion g) ∙ sym (sum-join (expand f) (expand g))
  expansion (f ⊠ g) = both R.mul (expansion f) (expansion g) ∙ sym (sum-products (expand f) (expand g))

  -- ---- the same terms in a different order have the same sum

  read_same : (os ps : List (ℤ × ℤ)) → T (same_reads os ps) → reading os ≡ reading ps
  unfolding same_reads read_product
  read_same [] [] t = refl
  read_same [] (p ∷ ps) t = absurd t
  read_same (o ∷ os) [] t = absurd t
  read_same (o ∷ os) (p ∷ ps) t =
      let here = and_l (same o.0 p.0 && same o.1 p.1) (same_reads os ps) t in
      let column = same_number o.0 p.0 (and_l (same o.0 p.0) (same o.1 p.1) here) in
      let row = same_number o.1 p.1 (and_r (same o.0 p.0) (same o.1 p.1) here) in
      both R.mul (ap (λ z. v z o.1) column ∙ ap (v p.0) row) (read_same os ps (and_r (same o.0 p.0 && same o.1 p.1) (same_reads os ps) t))

  term-same : (s t : Term) → T (same_term s t) → value t ≡ value s
  unfolding same_term
  term-same s t h =
      let powers = and_l (eqb s.sides t.sides && eqb s.diagonals t.diagonals) (same_reads s.reads t.reads) h in
      let sides = eqb→eq s.sides t.sides (and_l (eqb s.sides t.sides) (eqb s.diagonals t.diagonals) powers) in
      let diagonals = eqb→eq s.diagonals t.diagonals (and_r (eqb s.sides t.sides) (eqb s.diagonals t.diagonals) powers) in
      sym (both R.mul (both R.mul (ap (power R a) sides) (ap (power R b) diagonals))
      (read_same s.reads t.reads (and_r (eqb s.sides t.sides && eqb s.diagonals t.diagonals) (same_reads s.reads t.reads) h)))

  taken-by : (c m : Bool) (s t : Term) (ts ws : List Term) → (T c → value t ≡ value s) → (T m → sum ts ≡ R.add (value s) (sum ws))
      → T (cond c true m) → sum (t ∷ ts) ≡ R.add (value s) (sum (cond c ts (t ∷ ws)))
  unfolding sum_of
  taken-by true m s t ts ws e f h = ap (λ z. R.add z (sum ts)) (e tt)
  taken-by false m s t ts ws e f h = ap (R.add (value t)) (f h) ∙ add-add (value t) (value s) (sum ws)

  taken : (s : Term) (ts : List Term) → T (among s ts) → sum ts ≡ R.add (value s) (sum (without s ts))
  unfolding among without
  taken s [] h = absurd h
  taken s (t ∷ ts) h = taken-by (same_term s t) (among s ts) s t ts (without s ts) (term-same s t) (taken s ts) h

  reorder : (ss ts : List Term) → T (reordered ss ts) → sum ss ≡ sum ts
  unfolding reordered sum_of
  reorder [] [] h = refl
  reorder [] (t ∷ ts) h = absurd h
  reorder (s ∷ ss) ts h =
      ap (R.add (value s)) (reorder ss (without s ts) (and_r (among s ts) (reordered ss (without s ts)) h))
      ∙ sym (taken s ts (and_l (among s ts) (reordered ss (without s ts)) h))

  -- ---- coefficients

  copies-sum : (n : ℕ) (t : Term) (y z : R.Number) → value t ≡ R.mul y z → sum (copies n t) ≡ R.mul (multiple R n y) z
  unfolding copies multiple sum_of
  copies-sum zero t y z e = sym (x.mul-nought z)
  copies-sum (suc n) t y z e = both R.add e (copies-sum n t y z e) ∙ sym (x.mul-add y (multiple R n y) z)

  spread-sum : (c : Coefficient) (o : ℤ × ℤ) → sum (spread c o) ≡ weighted R a b v c o
  unfolding spread power read_product
  spread-sum c o =
      let z = v o.0 o.1 in
      let p = multiple R c.0 R.unit in
      let q = multiple R c.1 a in
      let r = multiple R c.2 b in
      sum-join _ _
      ∙ both R.add (copies-sum c.0 _ R.unit z (both R.mul (x.mul-unit R.unit) (mul-one z)))
      (sum-join _ _ ∙ both R.add (copies-sum c.1 _ a z (both R.mul (mul-one _ ∙ mul-one a) (mul-one z)))
      (copies-sum c.2 _ b z (both R.mul (x.mul-unit _ ∙ mul-one b) (mul-one z))) ∙ sym (x.mul-add q r z))
      ∙ sym (x.mul-add p (R.add q r) z)

  spread-all : (f : Formula) (os : List (ℤ × ℤ)) → sum (spread_all f os) ≡ weighted_sum R a b v f os
  unfolding spread_all weighted_sum sum_of
  spread-all f [] = refl
  spread-all f (o ∷ os) = sum-join (spread (coefficient f o.0 o.1) o) (spread_all f os) ∙ both R.add (spread-sum (coefficient f o.0 o.1) o) (spread-all f os)

  weighs : (f : Formula) → T (reordered (expand f) (spread_all f nine_offsets)) → Weighs R a b v f
  weighs f h = expansion f ∙ reorder (expand f) (spread_all f nine_offsets) h ∙ spread-all f nine_offsets

  mirrored : (col row : End) → T (reordered (expand (formula col row)) (expand (mirrored_kernel col row))) → AsMirrored R a b v col row
  mirrored col row h = expansion (formula col row) ∙ reorder (expand (formula col row)) (expand (mirrored_kernel col row)) h ∙ sym (expansion (mirrored_kernel col row))

pub expansion-sums : ExpansionSums
expansion-sums R x a b v f = expansion R x a b v f

pub coefficients-weigh : CoefficientsWeigh
unfolding fold expand formula reordered among without same_term same_reads copies spread spread_all
coefficients-weigh R x a b v only only = (weighs R x a b v (formula only only) tt, weighs R x a b v (mirrored_kernel only only) tt)
coefficients-weigh R x a b v only first = (weighs R x a b v (formula only first) tt, weighs R x a b v (mirrored_kernel only first) tt)
coefficients-weigh R x a b v only last = (weighs R x a b v (formula only last) tt, weighs R x a b v (mirrored_kernel only last) tt)
coefficients-weigh R x a b v only inner = (weighs R x a b v (formula only inner) tt, weighs R x a b v (mirrored_kernel only inner) tt)
coefficients-weigh R x a b v first only = (weighs R x a b v (formula first only) tt, weighs R x a b v (mirrored_kernel first only) tt)
coefficients-weigh R x a b v first first = (weighs R x a b v (formula first first) tt, weighs R x a b v (mirrored_kernel first first) tt)
coefficients-weigh R x a b v first last = (weighs R x a b v (formula first last) tt, weighs R x a b v (mirrored_kernel first last) tt)
coefficients-weigh R x a b v first inner = (weighs R x a b v (formula first inner) tt, weighs R x a b v (mirrored_kernel first inner) tt)
coefficients-weigh R x a b v last only = (weighs R x a b v (formula last only) tt, weighs R x a b v (mirrored_kernel last only) tt)
coefficients-weigh R x a b v last first = (weighs R x a b v (formula last first) tt, weighs R x a b v (mirrored_kernel last first) tt)
coefficients-weigh R x a b v last last = (weighs R x a b v (formula last last) tt, weighs R x a b v (mirrored_kernel last last) tt)
coefficients-weigh R x a b v last inner = (weighs R x a b v (formula last inner) tt, weighs R x a b v (mirrored_kernel last inner) tt)
coefficients-weigh R x a b v inner only = (weighs R x a b v (formula inner only) tt, weighs R x a b v (mirrored_kernel inner only) tt)
coefficients-weigh R x a b v inner first = (weighs R x a b v (formula inner first) tt, weighs R x a b v (mirrored_kernel inner first) tt)
coefficients-weigh R x a b v inner last = (weighs R x a b v (formula inner last) tt, weighs R x a b v (mirrored_kernel inner last) tt)
coefficients-weigh R x a b v inner inner = (weighs R x a b v (formula inner inner) tt, weighs R x a b v (mirrored_kernel inner inner) tt)

pub formulas-mirrored : FormulasMirrored
unfolding fold expand formula alone reordered among without same_term same_reads
formulas-mirrored R x a b v only only h = absurd h
formulas-mirrored R x a b v only first h = mirrored R x a b v only first tt
formulas-mirrored R x a b v only last h = mirrored R x a b v only last tt
formulas-mirrored R x a b v only inner h = mirrored R x a b v only inner tt
formulas-mirrored R x a b v first only h = mirrored R x a b v first only tt
formulas-mirrored R x a b v first first h = mirrored R x a b v first first tt
formulas-mirrored R x a b v first last h = mirrored R x a b v first last tt
formulas-mirrored R x a b v first inner h = mirrored R x a b v first inner tt
formulas-mirrored R x a b v last only h = mirrored R x a b v last only tt
formulas-mirrored R x a b v last first h = mirrored R x a b v last first tt
formulas-mirrored R x a b v last last h = mirrored R x a b v last last tt
formulas-mirrored R x a b v last inner h = mirrored R x a b v last inner tt
formulas-mirrored R x a b v inner only h = mirrored R x a b v inner only tt
formulas-mirrored R x a b v inner first h = mirrored R x a b v inner first tt
formulas-mirrored R x a b v inner last h = mirrored R x a b v inner last tt
formulas-mirrored R x a b v inner inner h = mirrored R x a b v inner inner tt

-- ---- the integers

-- induction: what holds for 0, and with m for m + 1 and m − 1, holds for all integers
induction : (P : ℤ → Type 0) → P (pos 0) → ((m : ℤ) → P m → P (suc_ℤ m)) → ((m : ℤ) → P m → P (pred_ℤ m)) → (m : ℤ) → P m
induction P z up down m = ℤ_ind P z (λ n h. subst P (sym (+ℤ_one (pos n))) (up (pos n) h)) (λ n h. subst P (sym (-ℤ_one (neg_ℤ (pos n)))) (down (neg_ℤ (pos n)) h)) m

-- (p + q) + r = (p + r) + q
exchange : (p q r : ℤ) → p +ℤ q +ℤ r ≡ p +ℤ r +ℤ q
exchange p q r = +ℤ_assoc p q r ∙ ap (λ z. p +ℤ z) (+ℤ_comm q r) ∙ sym (+ℤ_assoc p r q)

sum-mul : (m n k : ℤ) → (m +ℤ n) *ℤ k ≡ m *ℤ k +ℤ n *ℤ k
sum-mul m n k = induction (λ m. (m +ℤ n) *ℤ k ≡ m *ℤ k +ℤ n *ℤ k)
    (rw (+ℤ_idl n, zero-*ℤ k) (sym (+ℤ_idl (n *ℤ k))))
    (λ m h. ap (λ z. z *ℤ k) (suc_ℤ-+ℤ m n) ∙ suc_ℤ-*ℤ (m +ℤ n) k ∙ ap (λ z. z +ℤ k) h ∙ exchange (m *ℤ k) (n *ℤ k) k ∙ ap (λ z. z +ℤ n *ℤ k) (sym (suc_ℤ-*ℤ m k)))
    (λ m h. ap (λ z. z *ℤ k) (pred_ℤ-+ℤ m n) ∙ pred_ℤ-*ℤ (m +ℤ n) k ∙ ap (λ z. z -ℤ k) h ∙ exchange (m *ℤ k) (n *ℤ k) (neg_ℤ k) ∙ ap (λ z. z +ℤ n *ℤ k) (sym (pred_ℤ-*ℤ m k)))
    m

neg-mul : (n k : ℤ) → neg_ℤ n *ℤ k ≡ neg_ℤ (n *ℤ k)
neg-mul n k = sym (+ℤ-neg_ℤ_cancel (neg_ℤ n *ℤ k) (n *ℤ k)) ∙ ap (λ z. z -ℤ n *ℤ k) (sym (sum-mul (neg_ℤ n) n k) ∙ ap (λ z. z *ℤ k) (+ℤ_invl n) ∙ zero-*ℤ k) ∙ +ℤ_idl (neg_ℤ (n *ℤ k))

mul-mul-is : (m n k : ℤ) → m *ℤ n *ℤ k ≡ m *ℤ (n *ℤ k)
mul-mul-is m n k = induction (λ m. m *ℤ n *ℤ k ≡ m *ℤ (n *ℤ k))
    (ap (λ z. z *ℤ k) (zero-*ℤ n) ∙ zero-*ℤ k ∙ sym (zero-*ℤ (n *ℤ k)))
    (λ m h. ap (λ z. z *ℤ k) (suc_ℤ-*ℤ m n) ∙ sum-mul (m *ℤ n) n k ∙ ap (λ z. z +ℤ n *ℤ k) h ∙ sym (suc_ℤ-*ℤ m (n *ℤ k)))
    (λ m h. ap (λ z. z *ℤ k) (pred_ℤ-*ℤ m n) ∙ sum-mul (m *ℤ n) (neg_ℤ n) k ∙ ap (λ z. m *ℤ n *ℤ k +ℤ z) (neg-mul n k) ∙ ap (λ z. z -ℤ n *ℤ k) h ∙ sym (pred_ℤ-*ℤ m (n *ℤ k)))
    m

pub integers-exact : IntegersExact
integers-exact = record {
  add-nought = +ℤ_idl;
  add_comm = +ℤ_comm;
  add_assoc = +ℤ_assoc;
  mul-nought = zero-*ℤ;
  mul-unit = λ k. suc_ℤ-*ℤ (pos 0) k ∙ ap (λ z. z +ℤ k) (zero-*ℤ k) ∙ +ℤ_idl k;
  mul_comm = *ℤ_comm;
  mul_assoc = mul-mul-is;
  mul-add = sum-mul;
}
