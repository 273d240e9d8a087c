use Rattle.std.proofs.Common.{◌≡◌, ◌+◌, ◌≤◌, ◌++◌, List, length, map, take}
use Rattle.bcodes.specs.Ranges.{raised}
use Rattle.list_scan.specs.Visited.{below, hits_on}
use Rattle.multi_hash.specs.Seen.{row_at}
use Rattle.multi_hash.proofs.compare.offer_met_below.Given as goal

abbrev pub invariant-loop-i : goal.invariant-loop-i
invariant-loop-i g l = record {
  items : l.found.items ≡ l.initial.found.items
      ++ below l.fn.radius (hits_on l.kernel (map (row_at l.storage.codes) (take l.i l.met)));
  lent : l.meter ≡ record l.initial.meter { lent = raised l.initial.meter.lent l.i };
  rises : l.initial.meter.lent ≤ l.meter.lent;
}
