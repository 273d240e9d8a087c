use Rattle.std.proofs.Common.{◌≡◌, ◌+◌, ◌-◌, ◌≤◌, ◌++◌, List, length, take}
use Rattle.bcodes.specs.declared.hit.Hit.{Hit}
use Rattle.bcodes.specs.Ranges.{raised}
use Rattle.code_pool.specs.Lists.{list_at}
use Rattle.list_scan.specs.Batches.{IsAwaiting}
use Rattle.list_scan.specs.Visited.{hits_on}
use Rattle.list_scan.proofs.lists.gather_list.Given as goal

abbrev pub invariant-loop-walk : goal.invariant-loop-walk
invariant-loop-walk g l = record {
  size : l.walk.code_size ≡ l.pool.code_size;
  rows : l.walk.rows ≡ (list_at l.pool l.list).rows;
  within : l.walk.at ≤ l.count;
  items : (all : List Hit)
      → IsAwaiting l.initial.best.k all l.initial.best.items (hits_on l.kernel l.initial.batch.rows)
      → IsAwaiting l.initial.best.k (all ++ hits_on l.kernel (take l.walk.at (list_at l.pool l.list).rows)) l.best.items
      (hits_on l.kernel l.batch.rows);
  grown : length l.best.items + length l.batch.rows
      ≤ length l.initial.best.items + length l.initial.batch.rows + l.walk.at;
  batch_size : l.batch.size ≡ l.initial.batch.size;
  batch_room : l.batch.room ≡ l.initial.batch.room;
  k : l.best.k ≡ l.initial.best.k;
  most : l.best.most ≡ l.initial.best.most;
  bits : l.best.bits ≡ l.initial.best.bits;
  lent : l.meter ≡ record l.initial.meter { lent = raised l.initial.meter.lent l.walk.at };
  rises : l.initial.meter.lent ≤ l.meter.lent;
}

abbrev pub decreases-loop-walk : goal.decreases-loop-walk
decreases-loop-walk g l = l.count - l.walk.at
