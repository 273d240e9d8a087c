use Rattle.std.proofs.Common.{◌≡◌, ◌+◌, ◌≤◌, ◌++◌, List, length, take}
use Rattle.bcodes.specs.declared.hit.Hit.{Hit}
use Rattle.bcodes.specs.Ranges.{raised}
use Rattle.list_scan.specs.Batches.{IsAwaiting}
use Rattle.list_scan.specs.Visited.{first, hits_on, rows_at}
use Rattle.list_scan.proofs.lists.offer_lists.Given as goal

abbrev pub invariant-loop-list : goal.invariant-loop-list
invariant-loop-list g l = record {
  items : (hits : List Hit) → l.initial.best.items ≡ first l.initial.best.k hits
      → IsAwaiting l.initial.best.k (hits ++ hits_on l.kernel (rows_at l.pool (take l.list-index l.lists))) l.best.items
      (hits_on l.kernel l.batch.rows);
  grown : length l.best.items + length l.batch.rows
      ≤ length l.initial.best.items + length (rows_at l.pool (take l.list-index l.lists));
  batch_size : l.batch.size ≡ length l.kernel;
  batch_room : l.batch.room ≡ length l.distances;
  k : l.best.k ≡ l.initial.best.k;
  most : l.best.most ≡ l.initial.best.most;
  bits : l.best.bits ≡ l.initial.best.bits;
  lent : l.meter ≡ record l.initial.meter {
    lent = raised l.initial.meter.lent
        (length (rows_at l.pool (take l.list-index l.lists)));
  };
  rises : l.initial.meter.lent ≤ l.meter.lent;
}
