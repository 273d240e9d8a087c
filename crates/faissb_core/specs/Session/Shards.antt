-- What a session keeps of its shards.
use Rattle.std.specs.Prelude.{◌≡◌, ◌<◌, ◌≤◌, ℕ, List, [], true, sum_by, Option, None, Some}
use Rattle.bcodes.specs.Value.{IndexValue, load_of}
use Rattle.shard_set.specs.Joined.{are_alike}
use Rattle.shard_set.specs.Shards.{ShardList}
use Rattle.faissb_core.specs.Machine.Shards.{shard_limit}

-- the values of the shards, if there are some
abbrev pub values_in : Option ShardList → List IndexValue
values_in None = []
values_in (Some list) = list.values

-- they are alike, and weigh so much together
pub record AreGrouped (vs : List IndexValue) (weight : ℕ) : Type 0 where
  pub alike : are_alike vs ≡ true
  pub load : weight ≡ sum_by load_of vs
  pub light : weight ≤ shard_limit

-- there is room for one more of so many bits
abbrev pub AreRoomy : ℕ → Option ShardList → Type 0
AreRoomy dim None = ⊥
AreRoomy dim (Some list) = (list.dim ≡ dim) × (0 < list.spare)
