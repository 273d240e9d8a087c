-- Numbers as packed bits.
use Rattle.std.specs.Prelude.{ℕ, zero, suc, ◌+◌, ◌*◌, ◌/◌, ◌%◌, List, [], ◌∷◌, take, drop, sum_by}
use Rattle.std.specs.List.{flat_map}

-- a number and the bits that it takes
pub record Bits : Type 0 where
  pub number : ℕ
  pub width : ℕ

-- the n lowest bits of x, the least significant first
unfoldable pub low_bits : ℕ → ℕ → List ℕ
low_bits zero x = []
low_bits (suc n) x = x % 2 ∷ low_bits n (x / 2)

-- the number of which these are the bits, the least significant first
abbrev pub from_bits : List ℕ → ℕ
from_bits [] = 0
from_bits (b ∷ bs) = b + 2 * from_bits bs

-- the bits of bytes, from bit 0 of byte 0 on
abbrev pub bits_of : List ℕ → List ℕ
bits_of bytes = flat_map (λ byte. low_bits 8 byte) bytes

-- n bytes out of bits, eight a byte; where none are left they are 0
unfoldable pub bytes_of_bits : ℕ → List ℕ → List ℕ
bytes_of_bits zero bits = []
bytes_of_bits (suc n) bits = from_bits (take 8 bits) ∷ bytes_of_bits n (drop 8 bits)

abbrev pub total_width : List Bits → ℕ
total_width xs = sum_by (λ x. x.width) xs

-- the bits of numbers one after the other
abbrev pub spread : List Bits → List ℕ
spread xs = flat_map (λ x. low_bits x.width x.number) xs

-- the numbers' bits from bit 0 of byte 0 on, and 0 up to the end of the last byte
unfoldable pub packed : List Bits → List ℕ
packed xs = bytes_of_bits ((total_width xs + 7) / 8) (spread xs)
