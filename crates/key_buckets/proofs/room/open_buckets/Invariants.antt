use Rattle.std.proofs.Common.{◌≡◌, ℕ}
use Rattle.code_pool.specs.Lists.{list_at}
use Rattle.key_buckets.specs.Room.{IsRoomed, IsUndoable}
use Rattle.key_buckets.proofs.room.open_buckets.Given as goal

abbrev pub invariant-loop-key : goal.invariant-loop-key
invariant-loop-key g l = record {
  roomed : IsRoomed l.others l.initial.table l.table l.keys l.key-index l.numbers.items;
  same : (n : ℕ) → list_at l.pool n ≡ list_at l.initial.pool n;
  undo : IsUndoable l.others l.initial.table l.table l.initial.pool l.pool;
}
