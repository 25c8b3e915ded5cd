-- Numbers as bytes, the least significant first (Specification 16.1). Definitions only.
use Rattle.std.specs.Prelude.{List, [], ◌∷◌, ℕ, zero, suc, ◌+◌, ◌-◌, ◌*◌, ◌/◌, ◌%◌, cond, leb, ltb, ℤ, pos, negsuc, length, get_or}
use Rattle.std.proofs.lemmas.List.Edits.{sets}

-- x in n bytes
unfoldable pub bytes_of : ℕ → ℕ → List ℕ
bytes_of zero x = []
bytes_of (suc n) x = x % 256 ∷ bytes_of n (x / 256)

-- the number in n bytes from index `at`
unfoldable pub number_at : List ℕ → ℕ → ℕ → ℕ
number_at s at zero = 0
number_at s at (suc n) = get_or s at 0 + 256 * number_at s (at + 1) n

-- s with xs stored from index `at` on, if all of xs is inside it
abbrev pub stored : List ℕ → ℕ → List ℕ → List ℕ
stored s at xs = cond (leb (at + length xs) (length s)) (sets s at xs) s

-- 32 bits of a signed number, in two's complement
abbrev pub unsigned : ℤ → ℕ
unsigned (pos k) = k
unsigned (negsuc k) = 4294967295 - k

-- the signed number with these 32 bits
abbrev pub signed : ℕ → ℤ
signed k = cond (ltb k 2147483648) (pos k) (negsuc (4294967295 - k))
