use Rattle.std.proofs.Common.{◌+◌, ◌<◌, ◌≤◌, ℕ}
use Rattle.code_pool.specs.Lists.{list_at}
use Rattle.flip_walk.specs.Patterns.{times}
use Rattle.row_lists.specs.Room.{KeepRoom, SameRows}
use Rattle.row_lists.proofs.room.reserve_counted.Given as goal

abbrev pub invariant-loop-at : goal.invariant-loop-at
invariant-loop-at g l = record {
  room : (k : ℕ) → k < l.span.first + l.at → times k l.numbers ≤ (list_at l.lists k).spare;
  same : SameRows l.initial.lists l.lists;
  keep : KeepRoom l.numbers l.initial.lists l.lists;
}
