use Rattle.std.proofs.Common.{◌≡◌, ℕ, length}
use Rattle.code_pool.specs.Lists.{list_at}
use Rattle.key_buckets.specs.Room.{AreOpened, IsRoomed, IsUndoable, keys_named}
use Rattle.key_buckets.proofs.room.open_named.Given as goal

abbrev pub invariant-loop-number : goal.invariant-loop-number
invariant-loop-number g l = record {
  roomed : IsRoomed l.others l.initial.table l.table (keys_named l.keys l.numbers) l.number-index l.lists.items;
  whole : length l.opened.items ≡ length l.keys;
  opened : AreOpened l.keys l.opened.items l.table;
  same : (n : ℕ) → list_at l.pool n ≡ list_at l.initial.pool n;
  undo : IsUndoable l.others l.initial.table l.table l.initial.pool l.pool;
}
