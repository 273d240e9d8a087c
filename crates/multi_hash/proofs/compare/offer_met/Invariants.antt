use Rattle.std.proofs.Common.{◌≡◌, ◌+◌, ◌≤◌, ◌++◌, List, length, map, take}
use Rattle.bcodes.specs.declared.hit.Hit.{Hit}
use Rattle.bcodes.specs.Ranges.{raised}
use Rattle.list_scan.specs.Visited.{first, hits_on}
use Rattle.multi_hash.specs.Seen.{row_at}
use Rattle.multi_hash.proofs.compare.offer_met.Given as goal

abbrev pub invariant-loop-i : goal.invariant-loop-i
invariant-loop-i g l = record {
  items : (hits : List Hit) → l.initial.best.items ≡ first l.initial.best.k hits
      → l.best.items ≡ first l.initial.best.k (hits ++ hits_on l.kernel (map (row_at l.storage.codes) (take l.i l.met)));
  grown : length l.best.items ≤ length l.initial.best.items + l.i;
  k : l.best.k ≡ l.initial.best.k;
  most : l.best.most ≡ l.initial.best.most;
  bits : l.best.bits ≡ l.initial.best.bits;
  lent : l.meter ≡ record l.initial.meter { lent = raised l.initial.meter.lent l.i };
  rises : l.initial.meter.lent ≤ l.meter.lent;
}
