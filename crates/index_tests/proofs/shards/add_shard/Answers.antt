use Rattle.shard_set.proofs.AlikeLemmas.{numbered_places}
use Rattle.index_tests.proofs.shards.add_shard.Goals as goal

pub push-requires-clause-places : goal.push-requires-clause-places
push-requires-clause-places g c = numbered_places c.in_ok-shard.shard.codes
