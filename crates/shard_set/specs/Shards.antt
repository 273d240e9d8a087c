-- What a list of shards holds.
use Rattle.std.specs.Prelude.{◌≡◌, ℕ, ◌<◌, ◌^◌, List, false, IsTrue}
use Rattle.std.specs.List.{All}
use Rattle.bcodes.specs.Value.{IndexValue, IsLegal, IsPlace, count_of, dim_of, is_trained, rows_of}
use Rattle.bcodes.specs.Settings.{needs_ids}
use Rattle.shard_set.specs.Joined.{joined_count}

-- the values of the shards, all of `dim` bits, with room for `spare` more
pub record ShardList : Type 0 where
  pub dim : ℕ
  pub values : List IndexValue
  pub spare : ℕ

-- a legal index that can be asked, without outer ids, whose labels are places among its rows
pub record IsShard (v : IndexValue) : Type 0 where
  pub legal : IsLegal v
  pub trained : IsTrue (is_trained v)
  pub bare : needs_ids v ≡ false
  pub places : All (λ row. IsPlace (count_of v) row.label) (rows_of v)

-- shards of `dim` bits that hold `n` codes
pub record AreShards (dim n : ℕ) (vs : List IndexValue) : Type 0 where
  pub each : All IsShard vs
  pub dims : All (λ v. dim_of v ≡ dim) vs
  pub count : n ≡ joined_count vs
  pub few : n < 2 ^ 31
