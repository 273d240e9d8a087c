use Rattle.std.proofs.Common.{◌≡◌, ◌-◌, ◌≤◌, ◌++◌, length, map, nat_lt, take}
use Rattle.std.specs.List.{filter}
use Rattle.bcodes.specs.Answers.{hit_of}
use Rattle.code_pool.specs.Lists.{rows_in}
use Rattle.list_scan.proofs.scan.offer_run_below.Given as goal

abbrev pub invariant-loop-at : goal.invariant-loop-at
invariant-loop-at l = record {
  within : l.at ≤ l.count;
  items : l.found.items ≡ l.initial.found.items ++ filter (λ h. nat_lt h.distance l.fn.radius)
      (map (hit_of l.kernel) (take l.at (rows_in (length l.kernel) l.run.labels.now l.run.codes.now)));
}

abbrev pub decreases-loop-at : goal.decreases-loop-at
decreases-loop-at l = l.count - l.at
