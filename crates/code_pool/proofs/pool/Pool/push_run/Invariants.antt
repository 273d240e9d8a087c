use Rattle.std.proofs.Common.{◌≡◌, ◌-◌, ◌≤◌, length, take}
use Rattle.code_pool.specs.Lists.{list_at, rows_in, with_list, with_rows}
use Rattle.code_pool.proofs.pool.Pool.push_run.Given as goal

abbrev pub invariant-loop-done : goal.invariant-loop-done
invariant-loop-done g l = record {
  within : l.done ≤ length l.run.labels.now;
  rows : l.self ≡ with_list l.initial.self l.list (with_rows (list_at l.initial.self l.list)
      (take l.done (rows_in l.initial.self.code_size l.run.labels.now l.run.codes.now)));
}

abbrev pub decreases-loop-done : goal.decreases-loop-done
decreases-loop-done g l = length l.run.labels.now - l.done
