use Rattle.std.proofs.Common.{◌≡◌, ◌-◌, ◌≤◌, ◌++◌, map, nat_lt, take}
use Rattle.std.specs.List.{filter}
use Rattle.bcodes.specs.Ranges.{raised}
use Rattle.bcodes.specs.Answers.{hit_of}
use Rattle.code_pool.specs.Lists.{list_at}
use Rattle.list_scan.proofs.scan.offer_list_below.Given as goal

abbrev pub invariant-loop-walk : goal.invariant-loop-walk
invariant-loop-walk g l = record {
  size : l.walk.code_size ≡ l.pool.code_size;
  rows : l.walk.rows ≡ (list_at l.pool l.list).rows;
  within : l.walk.at ≤ l.count;
  items : l.found.items ≡ l.initial.found.items ++ filter (λ h. nat_lt h.distance l.fn.radius)
      (map (hit_of l.kernel) (take l.walk.at (list_at l.pool l.list).rows));
  lent : l.meter ≡ record l.initial.meter { lent = raised l.initial.meter.lent l.walk.at };
  rises : l.initial.meter.lent ≤ l.meter.lent;
}

abbrev pub decreases-loop-walk : goal.decreases-loop-walk
decreases-loop-walk g l = l.count - l.walk.at
