use Rattle.std.proofs.Common.{◌≡◌, ◌+◌, ◌≤◌, ◌++◌, ℕ, length, take}
use Rattle.code_pool.specs.Lists.{list_at}
use Rattle.flip_walk.specs.Patterns.{times}
use Rattle.row_lists.specs.Put.{put_on}
use Rattle.multi_hash.specs.Inside.{lists_in}
use Rattle.multi_hash.specs.Room.{marks}
use Rattle.multi_hash.proofs.put.put.Given as goal

abbrev pub invariant-loop-i : goal.invariant-loop-i
invariant-loop-i g l = record {
  rows : (k : ℕ) → lists_in l.buckets k ≡ lists_in l.initial.buckets k ++ put_on k (take l.i l.lists)
      (take l.i (marks l.first (length l.lists)));
  room : (k : ℕ) → times k l.lists ≤ (list_at l.buckets k).spare + times k (take l.i l.lists);
  spare : (k : ℕ) → times k l.lists ≡ 0 → (list_at l.initial.buckets k).spare ≤ (list_at l.buckets k).spare;
  lists : length l.buckets.lists ≡ length l.initial.buckets.lists;
  size : l.buckets.code_size ≡ 0;
}
