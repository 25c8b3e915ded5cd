-- An accepted file is the file of its own contents. Assumes nothing.
use mathlib.Core.Path.{◌≡◌, refl, sym, ap, ◌∙◌}
use mathlib.Core.Bool.{Bool, true, false, true≢false, cond, ◌||◌}
use mathlib.Core.List.{List, [], ◌∷◌, ◌++◌}
use Prim.Native.Nat.{ℕ, zero, suc, ◌+◌, ◌*◌, ◌≤◌, ◌<◌}
use native.Mathlib.Omega.{arith}
use lib.Dec.{T, eqb, eqb→eq}
use lib.Ieee.Fits.{and_l, and_r}
use lib.ListN.{length, get_or, take, drop}
use lib.Seq.{take-suc, take_all, take-add, drop-drop}
use Rattle.refusals.proofs.Tables.{of-true}
use Rattle.cut_bytes.specs.Bytes.{bytes_of, number_at, unsigned, signed}
use Rattle.cut_bytes.proofs.Laws.{number_small}
use Rattle.cut_bytes.proofs.Signed.{unsigned_signed}
use Rattle.cut_bytes.proofs.BytesBack.{bytes-number}
use Rattle.cut_file.specs.File.{marker, grey_marker, marker_of, entry_at, entry_bytes, table_bytes, sample_bytes, file_of}
use Rattle.cut_file.specs.Read.{starts_with, planes_in, count_in, offset_in, region_in, samples_at, has_marker}
use Rattle.cut_file.specs.Write.{samples_before}
use Rattle.cut_file.proofs.Laws.{FileAccepted}
use Rattle.cut_file.proofs.FileLaws.{body-at}

-- two parts side by side are one part
join-parts : (s : List ℕ) (a m b k : ℕ) → a + m ≡ b → take m (drop a s) ++ take k (drop b s) ≡ take (m + k) (drop a s)
join-parts s a m b k e = rw (← e, ← (drop-drop m a s)) (sym (take-add m k (drop a s)))

module _ (s : List ℕ) (room : 4 ≤ length s) where
  -- a file that starts with four bytes has them as its first part
  starts : (m₀ m₁ m₂ m₃ : ℕ) → T (starts_with (m₀ ∷ m₁ ∷ m₂ ∷ m₃ ∷ []) s) → take 4 s ≡ m₀ ∷ m₁ ∷ m₂ ∷ m₃ ∷ []
  starts m₀ m₁ m₂ m₃ t =
      let e₀ : get_or s 0 0 ≡ m₀ = eqb→eq (get_or s 0 0) m₀ (and_l (eqb (get_or s 0 0) m₀) _ t) in
      let t₁ = and_r (eqb (get_or s 0 0) m₀) _ t in
      let e₁ : get_or s 1 0 ≡ m₁ = eqb→eq (get_or s 1 0) m₁ (and_l (eqb (get_or s 1 0) m₁) _ t₁) in
      let t₂ = and_r (eqb (get_or s 1 0) m₁) _ t₁ in
      let e₂ : get_or s 2 0 ≡ m₂ = eqb→eq (get_or s 2 0) m₂ (and_l (eqb (get_or s 2 0) m₂) _ t₂) in
      let e₃ : get_or s 3 0 ≡ m₃ = eqb→eq (get_or s 3 0) m₃ (and_r (eqb (get_or s 2 0) m₂) _ t₂) in
      rw (take-suc s 3 0 (omega arith), take-suc s 2 0 (omega arith), take-suc s 1 0 (omega arith), take-suc s 0 0 (omega arith), e₀, e₁, e₂, e₃)

  marker-taken : has_marker s ≡ true → take 4 s ≡ marker_of (planes_in s)
  marker-taken t = go (starts_with grey_marker s) refl (starts_with marker s) refl t
    where
      go : (g : Bool) → starts_with grey_marker s ≡ g → (m : Bool) → starts_with marker s ≡ m → (m || g) ≡ true → take 4 s ≡ marker_of (cond g 1 3)
      go true p m q e = starts 0x4b 0x43 0x55 0x31 (of-true (starts_with grey_marker s) p)
      go false p true q e = starts 0x4b 0x43 0x55 0x54 (of-true (starts_with marker s) q)
      go false p false q e = absurd (true≢false (sym e))

module _ (s : List ℕ) (b : (i : ℕ) → get_or s i 0 < 256) where
  -- ---- samples

  samples-again : (at m : ℕ) → at + 4 * m ≤ length s → sample_bytes (samples_at s at m) ≡ take (4 * m) (drop at s)
  unfolding sample_bytes samples_at
  samples-again at zero h = refl
  samples-again at (suc m) h =
      let further : 4 * suc m ≡ 4 + 4 * m = omega arith in
      rw (bytes-number s at 4 b (omega arith), samples-again (at + 4) m (omega arith), further) (join-parts s at 4 (at + 4) (4 * m) refl)

  -- ---- an entry

  unsigned-again : (at : ℕ) → unsigned (signed (number_at s at 4)) ≡ number_at s at 4
  unsigned-again at = unsigned_signed (number_at s at 4) (number_small s b at 4)

  entry-again : (i : ℕ) → entry_at (i + 1) ≤ length s → entry_bytes (offset_in s i) (region_in s i) ≡ take 16 (drop (entry_at i) s)
  entry-again i h =
      let a : ℕ = entry_at i in
      rw (
        unsigned-again (a + 4),
        unsigned-again (a + 8),
        bytes-number s a 4 b (omega arith),
        bytes-number s (a + 4) 4 b (omega arith),
        bytes-number s (a + 8) 4 b (omega arith),
        bytes-number s (a + 12) 2 b (omega arith),
        bytes-number s (a + 14) 2 b (omega arith),
        join-parts s (a + 12) 2 (a + 14) 2 (omega arith),
        join-parts s (a + 8) 4 (a + 12) 4 (omega arith),
        join-parts s (a + 4) 4 (a + 8) 8 (omega arith),
      )
      (join-parts s a 4 (a + 4) 12 refl)

-- ---- the bytes, part by part

module _ (s : List ℕ) (a : FileAccepted s) (b : (i : ℕ) → get_or s i 0 < 256) where
  table-again : (k : ℕ) → k ≤ count_in s → table_bytes (planes_in s) (region_in s) (count_in s) k ≡ take (16 * k) (drop 6 s)
  unfolding table_bytes
  table-again zero h = refl
  table-again (suc k) h =
      let further : 16 * suc k ≡ 16 * k + 16 = omega arith in
      rw (table-again k (omega arith), ← (a.entry k h).offset-is, entry-again s b k (a.entry k h).ends-le, further)
      (join-parts s 6 (16 * k) (entry_at k) 16 refl)

  pub file-again : file_of (planes_in s) (region_in s) (count_in s) (samples_at s (entry_at (count_in s)) (samples_before (planes_in s) (region_in s) (count_in s))) ≡ s
  unfolding file_of
  file-again =
      let c : ℕ = count_in s in
      let m : ℕ = samples_before (planes_in s) (region_in s) c in
      let l : length s ≡ entry_at c + 4 * m = a.end_is ∙ body-at (planes_in s) (region_in s) c c in
      let rest : List ℕ = take (2 + (16 * c + 4 * m)) (drop 4 s) in
      let e : bytes_of 2 c ++ (table_bytes (planes_in s) (region_in s) c c ++ sample_bytes (samples_at s (entry_at c) m)) ≡ rest
      = rw (
        bytes-number s 4 2 b a.head-le,
        table-again c (omega arith),
        samples-again s b (entry_at c) m (omega arith),
        join-parts s 6 (16 * c) (entry_at c) (4 * m) refl,
      )
      (join-parts s 4 2 6 (16 * c + 4 * m) refl) in
      ap (λ (r : List ℕ). marker_of (planes_in s) ++ r) e
      ∙ ap (λ (p : List ℕ). p ++ rest) (sym (marker-taken s (omega (arith, a.head-le)) a.marker-is))
      ∙ join-parts s 0 4 4 (2 + (16 * c + 4 * m)) refl
      ∙ take_all (4 + (2 + (16 * c + 4 * m))) s (omega arith)
