-- shard, shardsearch and shardrange: several plain Flat or plain MultiHash, searched as one.
use Rattle.std.specs.Prelude.{ℕ, Bool, true, false, nat_le, List, [], ◌∷◌, ◌++◌, sum_by, Ok}
use Rattle.std.specs.List.{list_all}
use Rattle.bcodes.specs.Value.{Flat, Multi, IndexValue, Bare, code_size, load_of}
use Rattle.bcodes.specs.Marks.{search_mark, range_mark}
use Rattle.shard_set.specs.Joined.{is_alike, joined, joined_best, joined_within, joined_looked}
use Rattle.faissb_core.specs.declared.reply.refusal.Refusal.TheVariants.{NoIndex, Kind, Value, Load, Mismatch}
use Rattle.faissb_core.specs.Language.Words.{Word}
use Rattle.faissb_core.specs.Reply.Answer.{Answer, Found}
use Rattle.faissb_core.specs.Machine.Checked.{Checked, demand◌else◌, given◌else◌, ◌>>=◌, ◌>>◌, is_within}
use Rattle.faissb_core.specs.Machine.State.{code_of}
use Rattle.faissb_core.specs.Machine.Queries.{k_limit, radius_limit}

-- the most that all shards may weigh: 2^28
abbrev pub shard_limit : ℕ
shard_limit = 268435456

abbrev pub may_be_shard : IndexValue → Bool
may_be_shard (Bare (Flat v)) = true
may_be_shard (Bare (Multi v)) = true
may_be_shard v = false

-- the shards with one more
abbrev pub with_shard : List IndexValue → IndexValue → Checked (List IndexValue)
with_shard vs v = do
  demand may_be_shard v else Kind
  demand nat_le (sum_by load_of (vs ++ v ∷ [])) shard_limit else Load
  demand list_all (is_alike v) vs else Mismatch
  Ok (vs ++ v ∷ [])

abbrev pub shard_search : ℕ → Word → List IndexValue → Checked Answer
shard_search k word vs = do
  v ← given joined vs else NoIndex
  q ← code_of (code_size v) word
  demand is_within 1 k_limit k else Value
  Ok (Found (joined_best vs q k) (joined_looked vs q) (search_mark v q k))

abbrev pub shard_range : ℕ → Word → List IndexValue → Checked Answer
shard_range radius word vs = do
  v ← given joined vs else NoIndex
  q ← code_of (code_size v) word
  demand nat_le radius radius_limit else Value
  Ok (Found (joined_within vs q radius) (joined_looked vs q) (range_mark v q radius))
