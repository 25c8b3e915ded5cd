-- A bundle of the header, described like the tables of ISO/IEC 18181-1, and the reader of such a table.
use Rattle.std.specs.Prelude.{ℕ, zero, suc, Bool, cond, List, [], ◌∷◌, ◌++◌, length, Float}
use Rattle.std.specs.Float.Ieee.{of_bits}
use Rattle.std.specs.Float.{binary32}
use Rattle.header_bits.specs.Outcome.{Outcome, accepted, refused, and_then}
use Rattle.header_bits.specs.Bits.{u}
use Rattle.header_half.specs.Half.{f16}

-- A row is a field: the condition under which it is in the stream, its width, its default where it is not, and the rest of the table as a function of its value.
-- `bits` is u(n), `half` is F16(), and `halves` is a sequence of F16(), one for each of its defaults. `refuse` ends the reading with a number if its condition holds; `bundle` ends the table.
pub data Fields (A : Type 0) : Type 0 where
  bits : Bool → ℕ → ℕ → (ℕ → Fields A) → Fields A
  half : Bool → Float → (Float → Fields A) → Fields A
  halves : Bool → List Float → (List Float → Fields A) → Fields A
  refuse : Bool → ℕ → Fields A → Fields A
  bundle : A → Fields A

-- a bundle inside a bundle
unfoldable pub nested : {A B : Type 0} → Fields A → (A → Fields B) → Fields B
nested (bits c n d k) f = bits c n d (λ v. nested (k v) f)
nested (half c d k) f = half c d (λ v. nested (k v) f)
nested (halves c d k) f = halves c d (λ v. nested (k v) f)
nested (refuse c n t) f = refuse c n (nested t f)
nested (bundle a) f = f a

-- n halves in sequence
unfoldable pub f16s : ℕ → List ℕ → ℕ → Outcome (List Float)
f16s zero s p = accepted [] p
f16s (suc n) s p = and_then (f16s n s p) (λ vs q. and_then (f16 s q) (λ v r. accepted (vs ++ v ∷ []) r))

-- a field that is in the stream is read; any other takes no bits and has its default
abbrev pub if_there : {A : Type 0} → Bool → Outcome A → A → ℕ → Outcome A
if_there c o d p = cond c o (accepted d p)

-- reads the fields of a table from bit p
unfoldable pub read : {A : Type 0} → Fields A → List ℕ → ℕ → Outcome A
read (bits c n d k) s p = and_then (if_there c (u n s p) d p) (λ v q. read (k v) s q)
read (half c d k) s p = and_then (if_there c (f16 s p) d p) (λ v q. read (k v) s q)
read (halves c d k) s p = and_then (if_there c (f16s (length d) s p) d p) (λ v q. read (k v) s q)
read (refuse c n t) s p = cond c (refused n) (read t s p)
read (bundle a) s p = accepted a p

-- 0.0, the value of all fields of a filter that is off or of a refusal
abbrev pub none : Float
none = of_bits binary32 0
