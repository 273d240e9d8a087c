use Rattle.std.proofs.Common.{◌≡◌, ◌+◌, ◌≤◌, ◌++◌, List, length, take}
use Rattle.bcodes.specs.declared.hit.Hit.{Hit}
use Rattle.list_scan.specs.Batches.{rows_of_runs}
use Rattle.list_scan.specs.Visited.{first, hits_on}
use Rattle.list_scan.proofs.lists.offer_runs.Given as goal

abbrev pub invariant-loop-run : goal.invariant-loop-run
invariant-loop-run l = record {
  items : (hits : List Hit) → l.initial.best.items ≡ first l.initial.best.k hits
      → l.best.items ≡ first l.initial.best.k
      (hits ++ hits_on l.kernel (rows_of_runs (length l.kernel) (take l.run-index l.runs)));
  grown : length l.best.items
      ≤ length l.initial.best.items + length (rows_of_runs (length l.kernel) (take l.run-index l.runs));
  k : l.best.k ≡ l.initial.best.k;
  most : l.best.most ≡ l.initial.best.most;
  bits : l.best.bits ≡ l.initial.best.bits;
}
