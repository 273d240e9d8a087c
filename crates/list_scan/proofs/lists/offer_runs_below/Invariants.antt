use Rattle.std.proofs.Common.{◌≡◌, ◌++◌, length, take}
use Rattle.list_scan.specs.Batches.{rows_of_runs}
use Rattle.list_scan.specs.Visited.{below, hits_on}
use Rattle.list_scan.proofs.lists.offer_runs_below.Given as goal

abbrev pub invariant-loop-run : goal.invariant-loop-run
invariant-loop-run l = record {
  items : l.found.items ≡ l.initial.found.items ++ below l.fn.radius
      (hits_on l.kernel (rows_of_runs (length l.kernel) (take l.run-index l.runs)));
}
