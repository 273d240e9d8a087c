-- The states that commands lead to.
use Rattle.std.specs.Prelude.{◌≡◌, ◌≤◌, ◌<◌, ◌^◌, true, ℕ, List, sum_by, Option, None, Some}
use Rattle.std.specs.List.{All}
use Rattle.bcodes.specs.Value.{IndexValue, IsLegal, load_of}
use Rattle.shard_set.specs.Joined.{are_alike}
use Rattle.outside.specs.Contents.{Files}
use Rattle.faissb_core.specs.Machine.State.{State}
use Rattle.faissb_core.specs.Machine.Shards.{shard_limit}

abbrev pub IsLegalIndex : Option IndexValue → Type 0
IsLegalIndex None = Unit {0}
IsLegalIndex (Some v) = IsLegal v

-- plain Flat of one `d`, or plain MultiHash of one `d` and the same numbers
pub record AreLegalShards (vs : List IndexValue) : Type 0 where
  pub each : All IsLegal vs
  pub alike : are_alike vs ≡ true
  pub load : sum_by load_of vs ≤ shard_limit

pub record IsLegalState (s : State) : Type 0 where
  pub index : IsLegalIndex s.index
  pub shards : AreLegalShards s.shards

-- each file is a list of bytes
abbrev pub HoldBytes : Files → Type 0
HoldBytes files = (name bytes : List ℕ) → files name ≡ Some bytes → All (λ b. b < 2 ^ 8) bytes
