use Rattle.std.proofs.Common.{◌≡◌, ◌-◌, ◌≤◌, ◌++◌, take}
use Rattle.bcodes.specs.Ranges.{raised}
use Rattle.code_pool.specs.Lists.{list_at}
use Rattle.list_scan.specs.Visited.{below, hits_on}
use Rattle.list_scan.proofs.lists.gather_list_below.Given as goal

abbrev pub invariant-loop-walk : goal.invariant-loop-walk
invariant-loop-walk g l = record {
  size : l.walk.code_size ≡ l.pool.code_size;
  rows : l.walk.rows ≡ (list_at l.pool l.list).rows;
  within : l.walk.at ≤ l.count;
  items : l.found.items ++ below l.fn.radius (hits_on l.kernel l.batch.rows)
      ≡ l.initial.found.items ++ below l.fn.radius
      (hits_on l.kernel (l.initial.batch.rows ++ take l.walk.at (list_at l.pool l.list).rows));
  batch_size : l.batch.size ≡ l.initial.batch.size;
  batch_room : l.batch.room ≡ l.initial.batch.room;
  lent : l.meter ≡ record l.initial.meter { lent = raised l.initial.meter.lent l.walk.at };
  rises : l.initial.meter.lent ≤ l.meter.lent;
}

abbrev pub decreases-loop-walk : goal.decreases-loop-walk
decreases-loop-walk g l = l.count - l.walk.at
