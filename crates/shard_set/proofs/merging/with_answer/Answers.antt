use Rattle.shard_set.proofs.JoinLemmas.{moved_in_order}
use Rattle.shard_set.proofs.merging.with_answer.Goals as goal

pub merge-requires-clause-right : goal.merge-requires-clause-right
merge-requires-clause-right c =
    rw (c.as_slice-2.ensures, c.move_labels.ensures)
    (moved_in_order c.args.before c.args.next.items c.requires.next_in_order)
