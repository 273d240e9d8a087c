use Rattle.std.proofs.Common.{◌≡◌, map, take}
use Rattle.bcodes.specs.Ranges.{raised}
use Rattle.shard_set.specs.Joined.{joined_count, joined_looked, joined_within}
use Rattle.shard_set.proofs.queries.range_all.Given as goal

abbrev pub invariant-loop-shard : goal.invariant-loop-shard
invariant-loop-shard g l = record {
  items : l.all.items ≡ joined_within (map g.I.BinaryIndex.value (take l.shard-index l.shards)) l.q l.radius;
  before : l.before ≡ joined_count (map g.I.BinaryIndex.value (take l.shard-index l.shards));
  lent : l.meter.lent
      ≡ raised l.initial.meter.lent (joined_looked (map g.I.BinaryIndex.value (take l.shard-index l.shards)) l.q);
}
