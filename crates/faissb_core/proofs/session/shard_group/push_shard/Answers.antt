use Rattle.faissb_core.proofs.SessionLemmas.ShardLemmas.{places_in}
use Rattle.faissb_core.proofs.session.shard_group.push_shard.Goals as goal

pub push-requires-clause-places : goal.push-requires-clause-places
push-requires-clause-places c = places_in c.args.index c.requires.shard
