-- The samples of a body, as the bytes of a part of the file. Assumes nothing.
use mathlib.Core.Path.{◌≡◌, sym, ◌∙◌}
use mathlib.Core.List.{List}
use Prim.Native.Nat.{ℕ, zero, suc, ◌+◌, ◌*◌, ◌≤◌, ◌<◌}
use native.Mathlib.Omega.{arith}
use lib.ListN.{length, get_or, take, drop}
use Rattle.std.proofs.lemmas.List.{get_or-drop, get_or-take}
use Rattle.std.proofs.lemmas.Grind.{same_number_lists}
use Rattle.byteorder.specs.Endian.{IsRead, little_number}
use Rattle.cut_bytes.specs.Bytes.{number_at}
use Rattle.cut_bytes.proofs.Laws.{four_bytes}
use Rattle.cut_file.specs.Read.{samples_at}
use Rattle.cut_file.proofs.FileLaws.{length-read}

sample-at : (s : List ℕ) (at n k : ℕ) → k < n → get_or (samples_at s at n) k 0 ≡ number_at s (at + 4 * k) 4
unfolding samples_at
sample-at s at zero k h = absurd (omega arith)
sample-at s at (suc n) zero h = let z : at + 4 * 0 ≡ at = omega arith in rw z
sample-at s at (suc n) (suc k) h =
    let z : at + 4 + 4 * k ≡ at + 4 * suc k = omega arith in
    sample-at s (at + 4) n k (omega arith) ∙ rw z

-- byte i of number k in the m bytes from `at`
byte-at : (s : List ℕ) (at m k i : ℕ) → 4 * k + i < m → get_or (drop (4 * k) (take m (drop at s))) i 0 ≡ get_or s (at + 4 * k + i) 0
byte-at s at m k i h =
    let z : at + (4 * k + i) ≡ at + 4 * k + i = omega arith in
    get_or-drop (4 * k) (take m (drop at s)) i 0 ∙ get_or-take m (drop at s) (4 * k + i) 0 h ∙ get_or-drop at s (4 * k + i) 0 ∙ rw z

-- number k of the m bytes from `at`
word-at : (s : List ℕ) (at m k : ℕ) → 4 * k + 4 ≤ m → little_number 4 (drop (4 * k) (take m (drop at s))) ≡ number_at s (at + 4 * k) 4
word-at s at m k h =
    let z : at + 4 * k + 0 ≡ at + 4 * k = omega arith in
    omega (
      arith,
      four_bytes s (at + 4 * k),
      rw z at (byte-at s at m k 0 (omega arith)),
      byte-at s at m k 1 (omega arith),
      byte-at s at m k 2 (omega arith),
      byte-at s at m k 3 (omega arith),
    )

-- a slice read from its bytes
pub read_all : (s : List ℕ) (at m n : ℕ) (xs : List ℕ) → m ≡ 4 * n → length xs ≡ n → IsRead little_number 4 (take m (drop at s)) xs → xs ≡ samples_at s at n
read_all s at m n xs e l r =
    same_number_lists xs (samples_at s at n) (l ∙ sym (length-read s at n))
    (λ k h. r k h ∙ word-at s at m k (omega arith) ∙ sym (sample-at s at n k (omega arith)))
