-- Stores of the parts of a cut file. Assumes nothing.
use mathlib.Core.Path.{◌≡◌, refl, sym, ap, ◌∙◌}
use mathlib.Core.List.{List, [], ◌∷◌, ◌++◌, append_assoc}
use Prim.Native.Nat.{ℕ, ◌+◌, ◌*◌, ◌≤◌}
use native.Mathlib.Numerals.{add-one}
use native.Mathlib.Omega.{arith}
use lib.ListN.{length, length-append}
use lib.Seq.{sets, length-sets}
use borrow.Rule.Slice.PartMut.{put_mid}
use Rattle.std.specs.List.{flat_map}
use Rattle.byteorder.specs.Endian.{little_bytes}
use Rattle.region.specs.declared.Region.{Region}
use Rattle.cut_bytes.specs.Bytes.{bytes_of, stored, unsigned}
use Rattle.cut_bytes.proofs.Laws.{length-bytes, bytes-four, stored-inside, bytes_inside, sets_then, sets-whole, part-stored}
use Rattle.cut_file.specs.File.{marker_of, entry_at, body_at, entry_bytes, table_bytes, sample_bytes, file_of}
use Rattle.cut_file.proofs.FileLaws.{length-marker, length-samples, length-table, length-file}

-- ---- samples

flat-samples : (xs : List ℕ) → flat_map (little_bytes 4) xs ≡ sample_bytes xs
unfolding sample_bytes
flat-samples [] = refl
flat-samples (x ∷ xs) = rw (bytes-four, flat-samples xs)

-- the samples are written to the last part of a file
pub samples-put : (l ys xs : List ℕ) (at k : ℕ) → ys ≡ flat_map (little_bytes 4) xs → k ≡ 4 * length xs → at + 4 * length xs ≤ length l
    → put_mid at k l ys ≡ sets l at (sample_bytes xs)
samples-put l ys xs at k e m h =
    let s : List ℕ = sample_bytes xs in
    let is : ys ≡ s = e ∙ flat-samples xs in
    rw is (part-stored l at k s (omega (arith, length-samples xs)) (omega (arith, length-samples xs)) ∙ stored-inside l at s (omega (arith, length-samples xs)))

-- ---- entries

pub entry-stored : (l : List ℕ) (at offset : ℕ) (r : Region)
    → sets
    (sets (sets (sets (sets l at (bytes_of 4 offset)) (at + 4) (bytes_of 4 (unsigned r.left))) (at + 8) (bytes_of 4 (unsigned r.top))) (at + 12) (bytes_of 2 r.width))
    (at + 14)
    (bytes_of 2 r.height)
    ≡ sets l at (entry_bytes offset r)
entry-stored l at offset r =
    let a : List ℕ = bytes_of 4 offset in
    let b : List ℕ = bytes_of 4 (unsigned r.left) in
    let c : List ℕ = bytes_of 4 (unsigned r.top) in
    let d : List ℕ = bytes_of 2 r.width in
    let e : List ℕ = bytes_of 2 r.height in
    let four : length a ≡ 4 = length-bytes 4 offset in
    let eight : length (a ++ b) ≡ 8 = simp (length-append, length-bytes) in
    let twelve : length ((a ++ b) ++ c) ≡ 12 = simp (length-append, length-bytes) in
    let most : length (((a ++ b) ++ c) ++ d) ≡ 14 = simp (length-append, length-bytes) in
    rw (
      sets_then l at a b (at + 4) (omega arith),
      sets_then l at (a ++ b) c (at + 8) (omega arith),
      sets_then l at ((a ++ b) ++ c) d (at + 12) (omega arith),
      sets_then l at (((a ++ b) ++ c) ++ d) e (at + 14) (omega arith),
    )
    (let q : (((a ++ b) ++ c) ++ d) ++ e ≡ entry_bytes offset r = simp append_assoc in ap (sets l at) q)

-- the same, part by part, where the bytes of the entry are inside the list
pub entry-parts : (l : List ℕ) (at offset : ℕ) (r : Region) (f g h i j : List ℕ) (x y : ℕ)
    → at + 16 ≤ length l
    → f ≡ stored l at (bytes_of 4 offset)
    → x ≡ unsigned r.left
    → g ≡ stored f (at + 4) (bytes_of 4 x)
    → y ≡ unsigned r.top
    → h ≡ stored g (at + 8) (bytes_of 4 y)
    → i ≡ stored h (at + 12) (bytes_of 2 r.width)
    → j ≡ stored i (at + 14) (bytes_of 2 r.height)
    → j ≡ sets l at (entry_bytes offset r)
entry-parts l at offset r f g h i j x y room a b c d e k m =
    let p : f ≡ sets l at (bytes_of 4 offset) = a ∙ bytes_inside l at 4 offset (omega arith) in
    let pl : length f ≡ length l = ap length p ∙ length-sets l at (bytes_of 4 offset) in
    let q : g ≡ sets f (at + 4) (bytes_of 4 x) = c ∙ bytes_inside f (at + 4) 4 x (omega arith) in
    let ql : length g ≡ length f = ap length q ∙ length-sets f (at + 4) (bytes_of 4 x) in
    let u : h ≡ sets g (at + 8) (bytes_of 4 y) = e ∙ bytes_inside g (at + 8) 4 y (omega arith) in
    let ul : length h ≡ length g = ap length u ∙ length-sets g (at + 8) (bytes_of 4 y) in
    let v : i ≡ sets h (at + 12) (bytes_of 2 r.width) = k ∙ bytes_inside h (at + 12) 2 r.width (omega arith) in
    let vl : length i ≡ length h = ap length v ∙ length-sets h (at + 12) (bytes_of 2 r.width) in
    let w : j ≡ sets i (at + 14) (bytes_of 2 r.height) = m ∙ bytes_inside i (at + 14) 2 r.height (omega arith) in
    rw (w, v, u, d, q, b, p) (entry-stored l at offset r)

module _ (planes : ℕ) (rs : ℕ → Region) (n : ℕ) where
  pub table-stored : (l : List ℕ) (k : ℕ)
      → sets (sets l 6 (table_bytes planes rs n k)) (entry_at k) (entry_bytes (body_at planes rs n k) (rs k)) ≡ sets l 6 (table_bytes planes rs n (k + 1))
  unfolding table_bytes
  table-stored l k =
      sets_then l 6 (table_bytes planes rs n k) (entry_bytes (body_at planes rs n k) (rs k)) (entry_at k) (omega (arith, length-table planes rs n k)) ∙ rw (add-one k)

  -- the same, part by part
  pub table-parts : (l f g : List ℕ) (k at end : ℕ)
      → f ≡ sets l 6 (table_bytes planes rs n k)
      → at ≡ entry_at k
      → end ≡ body_at planes rs n k
      → g ≡ sets f at (entry_bytes end (rs k))
      → g ≡ sets l 6 (table_bytes planes rs n (k + 1))
  table-parts l f g k at end a b c d = rw (d, a, b, c) (table-stored l k)

  -- ---- the whole file

  pub file-stored : (l s : List ℕ) → length l ≡ entry_at n + 4 * length s
      → sets (sets (sets (sets l 0 (marker_of planes)) 4 (bytes_of 2 n)) 6 (table_bytes planes rs n n)) (entry_at n) (sample_bytes s) ≡ file_of planes rs n s
  unfolding file_of
  file-stored l s e =
      let a : List ℕ = bytes_of 2 n in
      let b : List ℕ = table_bytes planes rs n n in
      let c : List ℕ = sample_bytes s in
      let six : length (marker_of planes ++ a) ≡ 6 = length-append (marker_of planes) a ∙ omega (arith, length-marker planes, length-bytes 2 n) in
      let table : length ((marker_of planes ++ a) ++ b) ≡ entry_at n = length-append (marker_of planes ++ a) b ∙ omega (arith, six, length-table planes rs n n) in
      rw (
        sets_then l 0 (marker_of planes) a 4 (omega (arith, length-marker planes)),
        sets_then l 0 (marker_of planes ++ a) b 6 (omega (arith, six)),
        sets_then l 0 ((marker_of planes ++ a) ++ b) c (entry_at n) (omega (arith, table)),
      )
      (let q : ((marker_of planes ++ a) ++ b) ++ c ≡ file_of planes rs n s = simp append_assoc in ap (sets l 0) q ∙ sets-whole l (file_of planes rs n s) (length-file planes rs n s ∙ sym e))

  -- the same, part by part
  pub file-parts : (l s f g h k : List ℕ) (at : ℕ)
      → length l ≡ entry_at n + 4 * length s
      → f ≡ sets l 0 (marker_of planes)
      → g ≡ sets f 4 (bytes_of 2 n)
      → h ≡ sets g 6 (table_bytes planes rs n n)
      → at ≡ entry_at n
      → k ≡ sets h at (sample_bytes s)
      → k ≡ file_of planes rs n s
  file-parts l s f g h k at e p q r a d = rw (d, a, r, q, p) (file-stored l s e)
