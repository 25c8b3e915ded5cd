-- The bytes of a cut file (Specification 16). Definitions only.
use Rattle.std.specs.Prelude.{cond, List, [], ◌∷◌, ◌++◌, ℕ, zero, suc, ◌+◌, ◌*◌, eqb}
use Rattle.cut_bytes.specs.Bytes.{bytes_of, unsigned}
use Rattle.region.specs.declared.Region.{Region}

-- the first four bytes: of a file of three planes, and of one of one plane
abbrev pub marker : List ℕ
marker = 0x4b ∷ 0x43 ∷ 0x55 ∷ 0x54 ∷ []

abbrev pub grey_marker : List ℕ
grey_marker = 0x4b ∷ 0x43 ∷ 0x55 ∷ 0x31 ∷ []

abbrev pub marker_of : ℕ → List ℕ
marker_of planes = cond (eqb planes 1) grey_marker marker

abbrev pub max_file : ℕ
max_file = 16777216

abbrev pub max_rectangles : ℕ
max_rectangles = 64

-- a rectangle's samples, plane by plane
abbrev pub sample_count : ℕ → Region → ℕ
sample_count planes r = planes * (r.height * r.width)

-- where entry i of the table starts; a table of n entries ends where entry n would start
abbrev pub entry_at : ℕ → ℕ
entry_at i = 6 + 16 * i

-- where the body of rectangle i starts in a file with n rectangles: after the table and the bodies before it
unfoldable pub body_at : ℕ → (ℕ → Region) → ℕ → ℕ → ℕ
body_at planes rectangles n zero = entry_at n
body_at planes rectangles n (suc i) = body_at planes rectangles n i + 4 * sample_count planes (rectangles i)

abbrev pub file_length : ℕ → (ℕ → Region) → ℕ → ℕ
file_length planes rectangles n = body_at planes rectangles n n

abbrev pub entry_bytes : ℕ → Region → List ℕ
entry_bytes offset r =
    bytes_of 4 offset ++ (bytes_of 4 (unsigned r.left) ++ (bytes_of 4 (unsigned r.top) ++ (bytes_of 2 r.width ++ bytes_of 2 r.height)))

-- entries 0 to k - 1 of a table of n
unfoldable pub table_bytes : ℕ → (ℕ → Region) → ℕ → ℕ → List ℕ
table_bytes planes rectangles n zero = []
table_bytes planes rectangles n (suc k) = table_bytes planes rectangles n k ++ entry_bytes (body_at planes rectangles n k) (rectangles k)

-- samples as bit patterns, rectangle after rectangle, each plane after plane
unfoldable pub sample_bytes : List ℕ → List ℕ
sample_bytes [] = []
sample_bytes (x ∷ xs) = bytes_of 4 x ++ sample_bytes xs

-- the file of the first n rectangles and their samples
unfoldable pub file_of : ℕ → (ℕ → Region) → ℕ → List ℕ → List ℕ
file_of planes rectangles n samples = marker_of planes ++ (bytes_of 2 n ++ (table_bytes planes rectangles n n ++ sample_bytes samples))
