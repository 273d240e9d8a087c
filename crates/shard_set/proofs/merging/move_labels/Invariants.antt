use Rattle.std.proofs.Common.{◌≡◌, ◌++◌, map, take, drop}
use Rattle.shard_set.specs.Joined.{moved_hit}
use Rattle.shard_set.proofs.merging.move_labels.Given as goal

abbrev pub invariant-loop-i : goal.invariant-loop-i
invariant-loop-i l = l.hits.items ≡ map (moved_hit l.before) (take l.i l.initial.hits.items) ++ drop l.i
    l.initial.hits.items
