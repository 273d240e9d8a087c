use Rattle.shard_set.proofs.LawLemmas.{joined_hits_are, joined_best_is, joined_within_is}
use Rattle.shard_set.proofs.laws.joined_answers_are_of_one_index.Goals as goal

pub returns : goal.returns
returns c = record { hits = joined_hits_are; search = joined_best_is; range = joined_within_is }
