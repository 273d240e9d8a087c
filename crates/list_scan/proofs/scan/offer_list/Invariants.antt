use Rattle.std.proofs.Common.{◌≡◌, ◌+◌, ◌-◌, ◌≤◌, ◌++◌, List, length, map, take}
use Rattle.bcodes.specs.declared.hit.Hit.{Hit}
use Rattle.bcodes.specs.Hits.{in_order}
use Rattle.bcodes.specs.Ranges.{raised}
use Rattle.bcodes.specs.Answers.{hit_of}
use Rattle.code_pool.specs.Lists.{list_at}
use Rattle.list_scan.proofs.scan.offer_list.Given as goal

abbrev pub invariant-loop-walk : goal.invariant-loop-walk
invariant-loop-walk g l = record {
  size : l.walk.code_size ≡ l.pool.code_size;
  rows : l.walk.rows ≡ (list_at l.pool l.list).rows;
  within : l.walk.at ≤ l.count;
  items : (hits : List Hit) → l.initial.best.items ≡ take l.initial.best.k (in_order hits)
      → l.best.items ≡ take l.initial.best.k
      (in_order (hits ++ map (hit_of l.kernel) (take l.walk.at (list_at l.pool l.list).rows)));
  grown : length l.best.items ≤ length l.initial.best.items + l.walk.at;
  k : l.best.k ≡ l.initial.best.k;
  most : l.best.most ≡ l.initial.best.most;
  bits : l.best.bits ≡ l.initial.best.bits;
  lent : l.meter ≡ record l.initial.meter { lent = raised l.initial.meter.lent l.walk.at };
  rises : l.initial.meter.lent ≤ l.meter.lent;
}

abbrev pub decreases-loop-walk : goal.decreases-loop-walk
decreases-loop-walk g l = l.count - l.walk.at
