-- What a written file says: its length, its count, its entries and its samples are those that it was written from. Assumes nothing.
use mathlib.Core.Path.{◌≡◌, refl, sym, ap, ◌∙◌, subst}
use mathlib.Core.Bool.{Bool, true, false, cond, ◌||◌}
use mathlib.Core.List.{List, [], ◌∷◌, ◌++◌, append_assoc, append-nil}
use Prim.Native.Nat.{ℕ, zero, suc, ◌+◌, ◌-◌, ◌*◌, ◌≤◌, ◌<◌}
use native.Mathlib.Nat.{suc-add, add-zero, add-suc}
use native.Mathlib.Omega.{arith}
use borrow.Author.Tests.{eqb-true}
use lib.Dec.{T, eqb}
use lib.ListN.{length, get_or, take, drop, length-append}
use lib.Signed.{mag}
use Rattle.planes.specs.Band.{planes_fit}
use Rattle.region.specs.declared.Region.{Region}
use Rattle.region.specs.Measures.{bounds_fit, picture_fits}
use Rattle.region.proofs.Laws.{picture-bounds, bounds-left, bounds-top, bounds-width, bounds-height}
use Rattle.region_axis.proofs.Laws.{place-size}
use Rattle.cut_bytes.specs.Bytes.{bytes_of, number_at, unsigned, signed}
use Rattle.cut_bytes.proofs.Laws.{length-bytes, number-bytes}
use Rattle.cut_bytes.proofs.Signed.{unsigned_small, signed-unsigned}
use Rattle.cut_bytes.proofs.BytesBack.{number-skip}
use Rattle.cut_file.specs.File.{marker, grey_marker, marker_of, entry_at, body_at, entry_bytes, table_bytes, sample_bytes, file_of}
use Rattle.cut_file.specs.Read.{planes_in, count_in, offset_in, region_in, samples_at}
use Rattle.cut_file.specs.Write.{samples_before}

-- ---- the marker

-- either marker
either : (b : Bool) → length (cond b grey_marker marker) ≡ 4
either true = refl
either false = refl

pub length-marker : (planes : ℕ) → length (marker_of planes) ≡ 4
length-marker planes = either (eqb planes 1)

-- ---- where bodies start

pub body-at : (planes : ℕ) (rs : ℕ → Region) (n i : ℕ) → body_at planes rs n i ≡ entry_at n + 4 * samples_before planes rs i
unfolding body_at samples_before
body-at planes rs n zero = omega arith
body-at planes rs n (suc i) = omega (arith, body-at planes rs n i)

pub before_same : (planes : ℕ) (f g : ℕ → Region) (n : ℕ) → ((i : ℕ) → i < n → f i ≡ g i) → samples_before planes f n ≡ samples_before planes g n
unfolding samples_before
before_same planes f g zero h = refl
before_same planes f g (suc n) h = rw (before_same planes f g n (λ i l. h i (omega arith)), h n (omega arith))

pub body_same : (planes : ℕ) (f g : ℕ → Region) (n k : ℕ) → ((i : ℕ) → i < k → f i ≡ g i) → body_at planes f n k ≡ body_at planes g n k
body_same planes f g n k h = body-at planes f n k ∙ ap (λ (m : ℕ). entry_at n + 4 * m) (before_same planes f g k h) ∙ sym (body-at planes g n k)

-- ---- samples

pub length-read : (s : List ℕ) (at n : ℕ) → length (samples_at s at n) ≡ n
unfolding samples_at
length-read s at zero = refl
length-read s at (suc n) = ap suc (length-read s (at + 4) n)

pub length-samples : (xs : List ℕ) → length (sample_bytes xs) ≡ 4 * length xs
unfolding sample_bytes
length-samples [] = refl
length-samples (x ∷ xs) = length-append (bytes_of 4 x) (sample_bytes xs) ∙ rw (length-bytes 4 x, length-samples xs) (omega arith)

samples-skip : (p q : List ℕ) (m at n : ℕ) → length p ≡ m → samples_at (p ++ q) (m + at) n ≡ samples_at q at n
unfolding samples_at
samples-skip p q m at zero e = refl
samples-skip p q m at (suc n) e =
    let next : m + at + 4 ≡ m + (at + 4) = omega arith in
    rw (number-skip p q m at 4 e, next, samples-skip p q m (at + 4) n e)

-- the first m samples
samples-first : (xs : List ℕ) (m : ℕ) → ((i : ℕ) → get_or xs i 0 < 4294967296) → m ≤ length xs → samples_at (sample_bytes xs) 0 m ≡ take m xs
unfolding samples_at sample_bytes
samples-first xs zero b h = refl
samples-first [] (suc m) b h = absurd (omega arith)
samples-first (x ∷ xs) (suc m) b h =
    rw (number-bytes [] 4 x (sample_bytes xs) (b 0))
    (ap (λ (r : List ℕ). x ∷ r)
    (samples-skip (bytes_of 4 x) (sample_bytes xs) 4 0 m (length-bytes 4 x) ∙ samples-first xs m (λ i. b (suc i)) (omega arith)))

pub samples-back : (xs : List ℕ) (k m : ℕ) → ((i : ℕ) → get_or xs i 0 < 4294967296) → k + m ≤ length xs
    → samples_at (sample_bytes xs) (4 * k) m ≡ take m (drop k xs)
unfolding sample_bytes
samples-back xs zero m b h = samples-first xs m b (omega arith)
samples-back [] (suc k) m b h = absurd (omega arith)
samples-back (x ∷ xs) (suc k) m b h =
    let further : 4 * suc k ≡ 4 + 4 * k = omega arith in
    rw further
    (samples-skip (bytes_of 4 x) (sample_bytes xs) 4 (4 * k) m (length-bytes 4 x) ∙ samples-back xs k m (λ i. b (suc i)) (omega arith))

-- ---- the table

table_same : (planes : ℕ) (f g : ℕ → Region) (n k : ℕ) → ((i : ℕ) → i < k → f i ≡ g i) → table_bytes planes f n k ≡ table_bytes planes g n k
unfolding table_bytes
table_same planes f g n zero h = refl
table_same planes f g n (suc k) h =
    let e : (i : ℕ) → i < k → f i ≡ g i = λ i l. h i (omega arith) in
    λ j. table_same planes f g n k e j ++ entry_bytes (body_same planes f g n k e j) (h k (omega arith) j)

-- the file has only the rectangles below the count
pub file-same : (planes : ℕ) (f g : ℕ → Region) (n : ℕ) (samples : List ℕ) → ((i : ℕ) → i < n → f i ≡ g i) → file_of planes f n samples ≡ file_of planes g n samples
unfolding file_of
file-same planes f g n samples h = ap (λ (r : List ℕ). marker_of planes ++ (bytes_of 2 n ++ (r ++ sample_bytes samples))) (table_same planes f g n n h)

module _ (planes : ℕ) (rs : ℕ → Region) (n : ℕ) where
  length-entry : (o : ℕ) (r : Region) → length (entry_bytes o r) ≡ 16
  length-entry o r = simp (length-append, length-bytes)

  pub length-table : (k : ℕ) → length (table_bytes planes rs n k) ≡ 16 * k
  unfolding table_bytes
  length-table zero = refl
  length-table (suc k) =
      length-append (table_bytes planes rs n k) (entry_bytes (body_at planes rs n k) (rs k)) ∙ rw (length-table k, length-entry (body_at planes rs n k) (rs k)) (omega arith)

  -- j entries from entry i on
  unfoldable entries_from : ℕ → ℕ → List ℕ
  entries_from i zero = []
  entries_from i (suc j) = entry_bytes (body_at planes rs n i) (rs i) ++ entries_from (suc i) j

  table-from : (i j : ℕ) → table_bytes planes rs n i ++ entries_from i j ≡ table_bytes planes rs n (i + j)
  unfolding table_bytes entries_from
  table-from i zero = append-nil (table_bytes planes rs n i) ∙ ap (λ (k : ℕ). table_bytes planes rs n k) (sym (add-zero i))
  table-from i (suc j) =
      sym (append_assoc (table_bytes planes rs n i) (entry_bytes (body_at planes rs n i) (rs i)) (entries_from (suc i) j))
      ∙ table-from (suc i) j
      ∙ ap (λ (k : ℕ). table_bytes planes rs n k) (suc-add i j ∙ sym (add-suc i j))

  -- ---- the file

  module _ (samples : List ℕ) where
    pub length-file : length (file_of planes rs n samples) ≡ entry_at n + 4 * length samples
    unfolding file_of
    length-file =
        rw (
          length-append (marker_of planes) (bytes_of 2 n ++ (table_bytes planes rs n n ++ sample_bytes samples)),
          length-marker planes,
          length-append (bytes_of 2 n) (table_bytes planes rs n n ++ sample_bytes samples),
          length-append (table_bytes planes rs n n) (sample_bytes samples),
          length-bytes 2 n,
          length-table n,
          length-samples samples,
        )
        (omega arith)

    pub count-back : n < 65536 → count_in (file_of planes rs n samples) ≡ n
    unfolding file_of
    count-back h = number-skip (marker_of planes) (bytes_of 2 n ++ (table_bytes planes rs n n ++ sample_bytes samples)) 4 0 2 (length-marker planes) ∙ number-bytes [] 2 n (table_bytes planes rs n n ++ sample_bytes samples) h

    -- the marker says the number of planes
    pub planes-back : planes_fit planes ≡ true → planes_in (file_of planes rs n samples) ≡ planes
    unfolding file_of
    planes-back e = go (eqb planes 1) refl e
      where
        rest : List ℕ
        rest = bytes_of 2 n ++ (table_bytes planes rs n n ++ sample_bytes samples)

        go : (b : Bool) → eqb planes 1 ≡ b → (b || eqb planes 3) ≡ true → planes_in (marker_of planes ++ rest) ≡ planes
        go true p h = let is : planes ≡ 1 = eqb-true planes 1 p in subst (λ (m : ℕ). planes_in (marker_of m ++ rest) ≡ m) (sym is) refl
        go false p h = let is : planes ≡ 3 = eqb-true planes 3 h in subst (λ (m : ℕ). planes_in (marker_of m ++ rest) ≡ m) (sym is) refl

    pub body_back : (k m : ℕ) → ((i : ℕ) → get_or samples i 0 < 4294967296) → k + m ≤ length samples
        → samples_at (file_of planes rs n samples) (entry_at n + 4 * k) m ≡ take m (drop k samples)
    unfolding file_of
    body_back k m b h =
        let p : List ℕ = marker_of planes ++ (bytes_of 2 n ++ table_bytes planes rs n n) in
        let l : length p ≡ entry_at n = rw (length-append (marker_of planes) (bytes_of 2 n ++ table_bytes planes rs n n), length-marker planes, length-append (bytes_of 2 n) (table_bytes planes rs n n), length-bytes 2 n, length-table n) (omega arith) in
        let e : p ++ sample_bytes samples ≡ file_of planes rs n samples = append_assoc (marker_of planes) (bytes_of 2 n ++ table_bytes planes rs n n) (sample_bytes samples)
        ∙ ap (λ (r : List ℕ). marker_of planes ++ r) (append_assoc (bytes_of 2 n) (table_bytes planes rs n n) (sample_bytes samples)) in
        rw (← e) (samples-skip p (sample_bytes samples) (entry_at n) (4 * k) m l ∙ samples-back samples k m b h)

    module _ (i : ℕ) (h : i < n) where
      -- the bytes before entry i, and those after it
      before : List ℕ
      before = marker_of planes ++ (bytes_of 2 n ++ table_bytes planes rs n i)

      after : List ℕ
      after = entries_from (suc i) (n - suc i) ++ sample_bytes samples

      length_before : length before ≡ entry_at i
      unfolding before
      length_before = rw (length-append (marker_of planes) (bytes_of 2 n ++ table_bytes planes rs n i), length-marker planes, length-append (bytes_of 2 n) (table_bytes planes rs n i), length-bytes 2 n, length-table i) (omega arith)

      around-entry : file_of planes rs n samples ≡ before ++ (bytes_of 4 (body_at planes rs n i) ++ (bytes_of 4 (unsigned (rs i).left) ++ (bytes_of 4 (unsigned (rs i).top) ++ (bytes_of 2 (rs i).width ++ (bytes_of 2 (rs i).height ++ after)))))
      unfolding file_of before after entries_from
      around-entry =
          let e : i + suc (n - suc i) ≡ n = omega arith in
          let t : table_bytes planes rs n n ≡ table_bytes planes rs n i ++ entries_from i (suc (n - suc i)) = sym (table-from i (suc (n - suc i)) ∙ ap (λ (k : ℕ). table_bytes planes rs n k) e) in
          rw t (simp append_assoc)

      f-height : List ℕ
      f-height = bytes_of 2 (rs i).height ++ after

      f-width : List ℕ
      f-width = bytes_of 2 (rs i).width ++ f-height

      f-top : List ℕ
      f-top = bytes_of 4 (unsigned (rs i).top) ++ f-width

      f-left : List ℕ
      f-left = bytes_of 4 (unsigned (rs i).left) ++ f-top

      pub offset-back : body_at planes rs n i < 4294967296 → offset_in (file_of planes rs n samples) i ≡ body_at planes rs n i
      offset-back b =
          let at : entry_at i + 0 ≡ entry_at i = omega arith in
          rw (around-entry, ← at)
          (number-skip before _ (entry_at i) 0 4 length_before ∙ number-bytes [] 4 (body_at planes rs n i) _ b)

      field_at : (c w : ℕ) → number_at (file_of planes rs n samples) (entry_at i + (4 + c)) w ≡ number_at f-left c w
      unfolding f-left f-top f-width f-height
      field_at c w = rw around-entry (number-skip before _ (entry_at i) (4 + c) w length_before ∙ number-skip (bytes_of 4 (body_at planes rs n i)) _ 4 c w (length-bytes 4 (body_at planes rs n i)))

      left_back : unsigned (rs i).left < 4294967296 → number_at (file_of planes rs n samples) (entry_at i + 4) 4 ≡ unsigned (rs i).left
      unfolding f-left
      left_back b = field_at 0 4 ∙ number-bytes [] 4 (unsigned (rs i).left) f-top b

      after-left : (c w : ℕ) → number_at (file_of planes rs n samples) (entry_at i + (4 + (4 + c))) w ≡ number_at f-top c w
      unfolding f-left
      after-left c w = field_at (4 + c) w ∙ number-skip (bytes_of 4 (unsigned (rs i).left)) f-top 4 c w (length-bytes 4 (unsigned (rs i).left))

      top_back : unsigned (rs i).top < 4294967296 → number_at (file_of planes rs n samples) (entry_at i + 8) 4 ≡ unsigned (rs i).top
      unfolding f-top
      top_back b = after-left 0 4 ∙ number-bytes [] 4 (unsigned (rs i).top) f-width b

      after-top : (c w : ℕ) → number_at (file_of planes rs n samples) (entry_at i + (4 + (4 + (4 + c)))) w ≡ number_at f-width c w
      unfolding f-top
      after-top c w = after-left (4 + c) w ∙ number-skip (bytes_of 4 (unsigned (rs i).top)) f-width 4 c w (length-bytes 4 (unsigned (rs i).top))

      width_back : (rs i).width < 65536 → number_at (file_of planes rs n samples) (entry_at i + 12) 2 ≡ (rs i).width
      unfolding f-width
      width_back b = after-top 0 2 ∙ number-bytes [] 2 (rs i).width f-height b

      height-back : (rs i).height < 65536 → number_at (file_of planes rs n samples) (entry_at i + 14) 2 ≡ (rs i).height
      unfolding f-width f-height
      height-back b =
          after-top 2 2
          ∙ number-skip (bytes_of 2 (rs i).width) f-height 2 0 2 (length-bytes 2 (rs i).width)
          ∙ number-bytes [] 2 (rs i).height after b

      pub region-back : T (picture_fits (rs i)) → region_in (file_of planes rs n samples) i ≡ rs i
      region-back t =
          let b : T (bounds_fit (rs i)) = picture-bounds (rs i) t in
          let l : mag (rs i).left < 2147483648 = omega (arith, place-size (rs i).left (bounds-left (rs i) b)) in
          let u : mag (rs i).top < 2147483648 = omega (arith, place-size (rs i).top (bounds-top (rs i) b)) in
          let e₁ : signed (number_at (file_of planes rs n samples) (entry_at i + 4) 4) ≡ (rs i).left = rw (left_back (unsigned_small (rs i).left l)) (signed-unsigned (rs i).left l) in
          let e₂ : signed (number_at (file_of planes rs n samples) (entry_at i + 8) 4) ≡ (rs i).top = rw (top_back (unsigned_small (rs i).top u)) (signed-unsigned (rs i).top u) in
          let e₃ : number_at (file_of planes rs n samples) (entry_at i + 12) 2 ≡ (rs i).width = width_back (omega (arith, bounds-width (rs i) b)) in
          let e₄ : number_at (file_of planes rs n samples) (entry_at i + 14) 2 ≡ (rs i).height = height-back (omega (arith, bounds-height (rs i) b)) in
          λ j. record { left = e₁ j; top = e₂ j; width = e₃ j; height = e₄ j }
