use Rattle.shard_set.proofs.AlikeLemmas.{are_alike_push, shard_alike}
use Rattle.shard_set.proofs.laws.alike_indexes_are_shards.Goals as goal

pub returns : goal.returns
returns c = record { shard = shard_alike; push = are_alike_push }
