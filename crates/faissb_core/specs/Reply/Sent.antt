-- What was sent of a text.
use Rattle.std.specs.Prelude.{◌≡◌, ℕ, List, ◌++◌, ◌%◌, length, take}
use Rattle.std.specs.declared.option.Option.{Option}
use Rattle.std.specs.Io.KnownBytes.{Appends}

-- the bytes of one piece of a reply
abbrev pub piece_len : ℕ
piece_len = 8192

-- known bytes grow by the text's first bytes, some number of them
pub record AppendsFront (old new : Option (List ℕ)) (text : List ℕ) : Type 0 where
  pub len : ℕ
  pub grown : Appends old new (take len text)

-- known bytes have grown by whole pieces, all of a text but what is left of it
pub record SendsPieces (old new : Option (List ℕ)) (left all : List ℕ) : Type 0 where
  pub sent : List ℕ
  pub grown : Appends old new sent
  pub pieces : length sent % piece_len ≡ 0
  pub whole : sent ++ left ≡ all
