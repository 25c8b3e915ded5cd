-- The lists of offsets with a byte for each offset (Specification 11.2, 11.3): the low half has the columns to the right plus 4, the high half the rows down plus 3.
-- proofs/Offsets.antt proves the statements: they are the lists of a step's definition.
use Rattle.std.specs.Prelude.{◌≡◌, List, [], ◌∷◌, map, ℕ, zero, suc, ◌/◌, ◌%◌, get_or, pos, ◌-ℤ◌}
use Rattle.epf_step.specs.Steps.{Offset, kernel, dists}
use Rattle.epf_offsets.specs.declared.Place.{Place}

-- ---- a byte

-- its halves: the row and the column of a sample, counted from 3 rows above the filtered one and 4 columns left of it
abbrev pub place_of : ℕ → Place
place_of b = record { row = b / 16; col = b % 16 }

-- the offset of that sample
abbrev pub unpacked : ℕ → Offset
unpacked b = (pos (place_of b).col -ℤ pos 4, pos (place_of b).row -ℤ pos 3)

-- the filtered sample itself
abbrev pub centre : ℕ
centre = 0x34

-- ---- the lists

abbrev pub kernel_bytes : ℕ → List ℕ
kernel_bytes zero = 0x14 ∷ 0x23 ∷ 0x24 ∷ 0x25 ∷ 0x32 ∷ 0x33 ∷ 0x35 ∷ 0x36 ∷ 0x43 ∷ 0x44 ∷ 0x45 ∷ 0x54 ∷ []
kernel_bytes (suc s) = 0x24 ∷ 0x44 ∷ 0x33 ∷ 0x35 ∷ []

abbrev pub distance_bytes : ℕ → List ℕ
distance_bytes zero = 0x24 ∷ 0x35 ∷ 0x34 ∷ 0x33 ∷ 0x44 ∷ []
distance_bytes (suc zero) = 0x24 ∷ 0x34 ∷ 0x44 ∷ 0x33 ∷ 0x35 ∷ []
distance_bytes (suc (suc s)) = 0x34 ∷ []

-- ---- places

-- the place of neighbour q; past the last one that of the sample itself
abbrev pub neighbour_place : ℕ → ℕ → Place
neighbour_place step q = place_of (get_or (kernel_bytes step) q centre)

-- the place of the i-th sample that a distance compares; past the last one that of the sample itself
abbrev pub compared_place : ℕ → ℕ → Place
compared_place step i = place_of (get_or (distance_bytes step) i centre)

-- ---- the statements

-- unpacked, the bytes are the neighbours that a step weighs, in order
abbrev pub KernelPacked : Type 0
KernelPacked = (step : ℕ) → map unpacked (kernel_bytes step) ≡ kernel step

-- and the offsets at which a distance compares samples
abbrev pub DistancesPacked : Type 0
DistancesPacked = (step : ℕ) → map unpacked (distance_bytes step) ≡ dists step
