-- Signed numbers and their 32 bits: each is had from the other.
use mathlib.Core.Path.{◌≡◌, refl, ap, ◌∙◌}
use mathlib.Core.Bool.{Bool, true, false}
use Prim.Native.Nat.{ℕ, ◌-◌, ◌≤◌, ◌<◌}
use native.Mathlib.Omega.{arith}
use borrow.Author.Tests.{lt-ltb, le-ltb, ltb-true, ltb-false}
use lib.Dec.{ltb}
use lib.IntN.{ℤ, pos, negsuc}
use lib.Signed.{mag}
use Rattle.cut_bytes.specs.Bytes.{unsigned, signed}

pub signed_low : (k : ℕ) → k < 2147483648 → signed k ≡ pos k
signed_low k l = rw (lt-ltb k 2147483648 l)

pub signed_high : (k : ℕ) → 2147483648 ≤ k → signed k ≡ negsuc (4294967295 - k)
signed_high k l = rw (le-ltb k 2147483648 l)

pub signed-unsigned : (z : ℤ) → mag z < 2147483648 → signed (unsigned z) ≡ z
signed-unsigned (pos k) l = signed_low k l
signed-unsigned (negsuc k) l = signed_high (4294967295 - k) (omega arith) ∙ ap negsuc (omega arith)

pub unsigned_small : (z : ℤ) → mag z < 2147483648 → unsigned z < 4294967296
unsigned_small (pos k) l = omega arith
unsigned_small (negsuc k) l = omega arith

unsigned-case : (k : ℕ) (b : Bool) → ltb k 2147483648 ≡ b → k < 4294967296 → unsigned (signed k) ≡ k
unsigned-case k true e l = ap unsigned (signed_low k (ltb-true k 2147483648 e))
unsigned-case k false e l = ap unsigned (signed_high k (ltb-false k 2147483648 e)) ∙ omega arith

pub unsigned_signed : (k : ℕ) → k < 4294967296 → unsigned (signed k) ≡ k
unsigned_signed k l = unsigned-case k (ltb k 2147483648) refl l
