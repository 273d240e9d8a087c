use Rattle.shard_set.proofs.LawLemmas.{joined_numbers}
use Rattle.shard_set.proofs.laws.joined_numbers_are_of_one_index.Goals as goal

pub returns : goal.returns
returns c = joined_numbers
