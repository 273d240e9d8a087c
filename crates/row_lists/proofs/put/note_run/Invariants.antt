use Rattle.std.proofs.Common.{◌≡◌, ◌+◌, ◌-◌, ◌≤◌, ◌++◌, length, replicate}
use Rattle.code_pool.specs.Lists.{list_at}
use Rattle.row_lists.specs.Rows.{order_in}
use Rattle.row_lists.proofs.put.note_run.Given as goal

abbrev pub invariant-loop-done : goal.invariant-loop-done
invariant-loop-done g l = record {
  within : l.done ≤ l.n;
  order : order_in l.order ≡ order_in l.initial.order ++ replicate l.done l.list;
  one : length l.order.lists ≡ 1;
  size : l.order.code_size ≡ 0;
  room : l.n ≤ l.done + (list_at l.order 0).spare;
}

abbrev pub decreases-loop-done : goal.decreases-loop-done
decreases-loop-done g l = l.n - l.done
