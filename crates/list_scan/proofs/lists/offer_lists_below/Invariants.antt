use Rattle.std.proofs.Common.{◌≡◌, ◌≤◌, ◌++◌, length, take}
use Rattle.bcodes.specs.Ranges.{raised}
use Rattle.list_scan.specs.Visited.{below, hits_on, rows_at}
use Rattle.list_scan.proofs.lists.offer_lists_below.Given as goal

abbrev pub invariant-loop-list : goal.invariant-loop-list
invariant-loop-list g l = record {
  items : l.found.items ++ below l.fn.radius (hits_on l.kernel l.batch.rows)
      ≡ l.initial.found.items ++ below l.fn.radius
      (hits_on l.kernel (rows_at l.pool (take l.list-index l.lists)));
  batch_size : l.batch.size ≡ length l.kernel;
  batch_room : l.batch.room ≡ length l.distances;
  lent : l.meter.lent ≡ raised l.initial.meter.lent (length (rows_at l.pool (take l.list-index l.lists)));
  rises : l.initial.meter.lent ≤ l.meter.lent;
  asked : l.meter.asked ≡ l.initial.meter.asked;
}
