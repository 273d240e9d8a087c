-- What contracts see of a writer and a reader.
use Rattle.std.specs.Prelude.{ℕ, ◌+◌, ◌*◌, ◌^◌, ◌<◌, ◌≤◌, List, ◌++◌, length}
use Rattle.bit_strings.specs.Packed.{bits_of, low_bits}

-- the bits so far, and how many can still be written
pub record Written : Type 0 where
  pub bits : List ℕ
  pub room : ℕ

-- the bits of bytes, and then those that a word holds
abbrev pub written_bits : List ℕ → ℕ → ℕ → List ℕ
written_bits bytes word filled = bits_of bytes ++ low_bits filled word

-- a word that is not full, and room behind `len` bytes for its bits and more
pub record HasRoom (len capacity word filled room : ℕ) : Type 0 where
  pub below : word < 2 ^ filled
  pub few : filled < 64
  pub fits : 8 * len + filled + room ≤ 8 * capacity

-- all bytes, and how many of their bits were read
pub record Reading : Type 0 where
  pub bytes : List ℕ
  pub at : ℕ

-- a bit of a byte, or the place behind the last byte
pub record IsPlace (bytes : List ℕ) (byte bit : ℕ) : Type 0 where
  pub low : bit < 8
  pub within : 8 * byte + bit ≤ 8 * length bytes
