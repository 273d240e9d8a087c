use Rattle.std.proofs.Common.{rules}
use Rattle.faissb_core.specs.Session.Shards.{values_in}
use Rattle.faissb_core.proofs.SessionLemmas.ShardLemmas.{few_pushed}
use Rattle.faissb_core.proofs.session.shard_group.ShardGroup.take.Goals as goal

pub push_shard-requires-clause-few : goal.push_shard-requires-clause-few
push_shard-requires-clause-few c =
    few_pushed (values_in c.self.inside.list) (values_in c.make_room.new.list) c.in-Some.shard c.in-Some-take.shard
    c.in_ok-load.load c.in_ok-load.ensures.ok.1 c.make_room.ensures.values (search rules)
