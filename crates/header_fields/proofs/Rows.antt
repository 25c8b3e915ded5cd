-- Reading a table field by field: the outcome of the table from the outcome of its first field. Assumes nothing.
use Prim.Native.Nat.{ℕ}
use mathlib.Core.Bool.{true, false}
use mathlib.Core.List.{List}
use mathlib.Core.Path.{◌≡◌, refl, ◌∙◌}
use lib.ListN.{length}
use Rattle.header_bits.specs.Outcome.{Outcome, accepted, refused, and_then}
use Rattle.header_bits.specs.Bits.{u}
use Rattle.header_half.specs.Half.{f16}
use Rattle.header_fields.specs.Fields.{Fields, bits, half, halves, refuse, bundle, nested, read, f16s, if_there}

-- ---- one reading after another
pub same : {A B : Type 0} (o : Outcome A) {f g : A → ℕ → Outcome B} → ((a : A) (q : ℕ) → f a q ≡ g a q) → and_then o f ≡ and_then o g
same (accepted a q) h = h a q
same (refused n) h = refl

assoc : {A B C : Type 0} (o : Outcome A) (f : A → ℕ → Outcome B) (g : B → ℕ → Outcome C)
    → and_then o (λ a q. and_then (f a q) g) ≡ and_then (and_then o f) g
assoc (accepted a q) f g = refl
assoc (refused n) f g = refl

-- ---- a bundle inside a bundle
abbrev pub rest : {A B : Type 0} → (A → Fields B) → List ℕ → Outcome A → Outcome B
rest k s o = and_then o (λ v q. read (k v) s q)

pub read_nested : {A B : Type 0} (t : Fields A) (f : A → Fields B) (s : List ℕ) (p : ℕ) → read (nested t f) s p ≡ rest f s (read t s p)
unfolding nested read
read_nested (bits c n d k) f s p = same (if_there c (u n s p) d p) (λ v q. read_nested (k v) f s q) ∙ assoc (if_there c (u n s p) d p) (λ v q. read (k v) s q) (λ v q. read (f v) s q)
read_nested (half c d k) f s p = same (if_there c (f16 s p) d p) (λ v q. read_nested (k v) f s q) ∙ assoc (if_there c (f16 s p) d p) (λ v q. read (k v) s q) (λ v q. read (f v) s q)
read_nested (halves c d k) f s p = same (if_there c (f16s (length d) s p) d p) (λ v q. read_nested (k v) f s q) ∙ assoc (if_there c (f16s (length d) s p) d p) (λ v q. read (k v) s q) (λ v q. read (f v) s q)
read_nested (refuse true n t) f s p = refl
read_nested (refuse false n t) f s p = read_nested t f s p
read_nested (bundle a) f s p = refl
