use Rattle.std.proofs.Common.{◌≡◌, ◌+◌, ◌-◌, ◌≤◌, ◌++◌, length, drop}
use Rattle.bcodes.specs.Hits.{in_order}
use Rattle.shard_set.proofs.merging.merge.Given as goal

abbrev pub invariant-loop-hits : goal.invariant-loop-hits
invariant-loop-hits l = record {
  items : l.hits.items ++ in_order (drop l.l l.left ++ drop l.r l.right) ≡ in_order (l.left ++ l.right);
  taken : length l.hits.items ≡ l.l + l.r;
  left : l.l ≤ length l.left;
  right : l.r ≤ length l.right;
  few : length l.hits.items ≤ l.count;
  room : l.count ≤ l.hits.spare + length l.hits.items;
}

abbrev pub decreases-loop-hits : goal.decreases-loop-hits
decreases-loop-hits l = l.count - length l.hits.items
