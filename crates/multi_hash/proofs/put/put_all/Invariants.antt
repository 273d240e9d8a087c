use Rattle.std.proofs.Common.{◌≡◌, ◌≢◌, ◌+◌, ◌*◌, ◌<◌, ◌≤◌, ℕ, length}
use Rattle.std.specs.List.{All}
use Rattle.flip_walk.specs.Patterns.{times}
use Rattle.row_lists.specs.Room.{HasRoomFor}
use Rattle.multi_hash.specs.Inside.{IsPosition, lists_in}
use Rattle.multi_hash.specs.Room.{lists_under, marks}
use Rattle.multi_hash.proofs.PutLemmas.{put_so_far}
use Rattle.multi_hash.proofs.put.put_all.Given as goal

abbrev pub invariant-loop-i : goal.invariant-loop-i
invariant-loop-i g l = record {
  rows : (k m : ℕ) → k < l.nhash → ((j : ℕ) → j < l.nhash → j ≢ k → times m (lists_under l.lists l.count j) ≡ 0)
      → lists_in l.buckets m ≡ put_so_far m k l.i (lists_under l.lists l.count k) (lists_in l.initial.buckets m)
      (marks l.first l.count);
  room : (j : ℕ) → l.i ≤ j → j < l.nhash → HasRoomFor (lists_under l.lists l.count j) l.buckets;
  places : (n m : ℕ) → l.first + l.count ≤ n → All (IsPosition n) (lists_in l.initial.buckets m)
      → All (IsPosition n) (lists_in l.buckets m);
  short : (m : ℕ) → length (lists_in l.buckets m) ≤ length (lists_in l.initial.buckets m) + l.i * l.count;
  lists : length l.buckets.lists ≡ length l.initial.buckets.lists;
  size : l.buckets.code_size ≡ 0;
}
