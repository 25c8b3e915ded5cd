-- A number is read after bytes that are skipped, and bytes are written back from their number. Assumes nothing.
use mathlib.Core.Path.{◌≡◌, refl, subst}
use mathlib.Core.List.{List, ◌++◌}
use Prim.Native.Nat.{ℕ, zero, suc, ◌+◌, ◌*◌, ◌/◌, ◌%◌, ◌≤◌, ◌<◌}
use native.Mathlib.Omega.{arith}
use lib.ListN.{length, get_or, take, drop}
use lib.Seq.{drop-cons}
use Rattle.cut_bytes.specs.Bytes.{bytes_of, number_at}
use Rattle.cut_bytes.proofs.Laws.{number-after}

-- m bytes are skipped
pub number-skip : (p q : List ℕ) (m at n : ℕ) → length p ≡ m → number_at (p ++ q) (m + at) n ≡ number_at q at n
number-skip p q m at n e = subst (λ (k : ℕ). number_at (p ++ q) (k + at) n ≡ number_at q at n) e (number-after p q at n)

pub bytes-number : (s : List ℕ) (at n : ℕ) → ((i : ℕ) → get_or s i 0 < 256) → at + n ≤ length s → bytes_of n (number_at s at n) ≡ take n (drop at s)
unfolding bytes_of number_at
bytes-number s at zero h l = refl
bytes-number s at (suc n) h l =
    let x : ℕ = get_or s at 0 in
    let y : ℕ = number_at s (at + 1) n in
    let b : x < 256 = h at in
    let low : (x + 256 * y) % 256 ≡ x = omega arith in
    let high : (x + 256 * y) / 256 ≡ y = omega arith in
    let next : suc at ≡ at + 1 = omega arith in
    let r : bytes_of n y ≡ take n (drop (at + 1) s) = bytes-number s (at + 1) n h (omega arith) in
    rw (drop-cons s at 0 (omega arith), low, high, r, next)
