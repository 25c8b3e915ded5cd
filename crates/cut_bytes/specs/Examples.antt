-- Numbers as bytes, computed.
use Rattle.std.specs.Prelude.{◌≡◌, refl, [], ◌∷◌, pos, negsuc}
use Rattle.cut_bytes.specs.Bytes.{bytes_of, number_at, unsigned, signed}

pub low-byte-first : bytes_of 4 0x0102_0304 ≡ 4 ∷ 3 ∷ 2 ∷ 1 ∷ []
unfolding bytes_of
low-byte-first = refl

pub from-index : number_at (9 ∷ 0x34 ∷ 0x12 ∷ 9 ∷ []) 1 2 ≡ 0x1234
unfolding number_at
from-index = refl

pub minus-three : bytes_of 4 (unsigned (negsuc 2)) ≡ 0xfd ∷ 0xff ∷ 0xff ∷ 0xff ∷ []
unfolding bytes_of
minus-three = refl

pub minus-three-back : signed 0xffff_fffd ≡ negsuc 2
minus-three-back = refl

pub largest : signed 0x7fff_ffff ≡ pos 2147483647
largest = refl
