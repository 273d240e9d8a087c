use Rattle.std.proofs.Common.{◌-◌, ◌<◌, ◌≤◌, ℕ, length, take, slice_index}
use Rattle.row_lists.specs.Room.{HasRoomFor, KeepRoom, SameRows}
use Rattle.row_lists.proofs.room.reserve_sorted.Given as goal

abbrev pub invariant-loop-at : goal.invariant-loop-at
invariant-loop-at g l = record {
  within : l.at ≤ length l.sorted;
  room : HasRoomFor (take l.at l.sorted) l.lists;
  same : SameRows l.initial.lists l.lists;
  keep : KeepRoom l.sorted l.initial.lists l.lists;
  fresh : l.at < length l.sorted → (j : ℕ) → j < l.at → slice_index l.sorted j < slice_index l.sorted l.at;
}

abbrev pub decreases-loop-at : goal.decreases-loop-at
decreases-loop-at g l = length l.sorted - l.at
