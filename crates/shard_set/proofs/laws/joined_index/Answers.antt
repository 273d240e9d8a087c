use Rattle.shard_set.proofs.LawLemmas.{joined_none, joined_some, joined_dim, joined_load, joined_legal}
use Rattle.shard_set.proofs.laws.joined_index.Goals as goal

pub returns : goal.returns
returns c = record {
  none = joined_none;
  some = joined_some;
  dim = joined_dim;
  load = joined_load;
  legal = joined_legal;
}
