use Rattle.std.proofs.Common.{◌≡◌, ◌+◌, ◌-◌, ◌≤◌, ◌++◌, List, length, map, take}
use Rattle.bcodes.specs.declared.hit.Hit.{Hit}
use Rattle.bcodes.specs.Hits.{in_order}
use Rattle.bcodes.specs.Answers.{hit_of}
use Rattle.code_pool.specs.Lists.{rows_in}
use Rattle.list_scan.proofs.scan.offer_run.Given as goal

abbrev pub invariant-loop-at : goal.invariant-loop-at
invariant-loop-at l = record {
  within : l.at ≤ l.count;
  items : (hits : List Hit) → l.initial.best.items ≡ take l.initial.best.k (in_order hits)
      → l.best.items ≡ take l.initial.best.k (in_order (hits ++ map (hit_of l.kernel)
      (take l.at (rows_in (length l.kernel) l.run.labels.now l.run.codes.now))));
  grown : length l.best.items ≤ length l.initial.best.items + l.at;
  k : l.best.k ≡ l.initial.best.k;
  most : l.best.most ≡ l.initial.best.most;
  bits : l.best.bits ≡ l.initial.best.bits;
}

abbrev pub decreases-loop-at : goal.decreases-loop-at
decreases-loop-at l = l.count - l.at
