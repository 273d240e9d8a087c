use Rattle.std.proofs.Common.{◌≡◌, ◌+◌, ◌*◌, ◌<◌, ◌≤◌, ◌++◌, ℕ, List, length}
use Rattle.std.specs.List.{All}
use Rattle.multi_hash.specs.Inside.{AreMaps, IsShared, lists_in}
use Rattle.multi_hash.specs.Room.{AreUndoable, IsRoomy, lists_under, up_to}
use Rattle.multi_hash.proofs.room.open_all.Given as goal

abbrev pub invariant-loop-i : goal.invariant-loop-i
invariant-loop-i g l = record {
  maps_are : (old : List (List ℕ)) → AreMaps l.b l.keys (λ i. old) (λ i. old) l.initial.maps (lists_in l.initial.buckets)
      → AreMaps l.b l.used (up_to l.i (old ++ l.codes.codes) old) (λ i. old) l.maps (lists_in l.buckets);
  roomy : (j : ℕ) → j < l.i → IsRoomy j l.b l.maps l.codes.codes (lists_under l.lists.items (length l.codes.codes) j)
      l.buckets;
  known : All (λ k. k < l.used) l.lists.items;
  whole : length l.lists.items ≡ l.i * length l.codes.codes;
  shared : IsShared l.used l.buckets;
  keys : l.used ≤ l.keys + l.i * length l.codes.codes;
  undo : AreUndoable l.initial.maps l.maps l.initial.buckets l.buckets;
}
