use Rattle.std.proofs.Common.{◌≡◌, ◌+◌, ◌-◌, ◌≤◌, take, vec_capacity, vec_len}
use Rattle.code_pool.specs.Lists.{list_at}
use Rattle.row_lists.specs.Rows.{order_in}
use Rattle.ivf_index.specs.Flags.{AreOrderFlags}
use Rattle.ivf_index.proofs.order_flags.flag_order.Given as goal

abbrev pub invariant-loop-walk : goal.invariant-loop-walk
invariant-loop-walk g l = record {
  rows : l.walk.rows ≡ (list_at l.order 0).rows;
  within : l.walk.at ≤ l.count;
  flags : AreOrderFlags l.flags l.initial.next (take l.walk.at (order_in l.order)) l.next l.found.items;
  room : vec_len l.found + l.count ≤ vec_capacity l.found + l.walk.at;
}

abbrev pub decreases-loop-walk : goal.decreases-loop-walk
decreases-loop-walk g l = l.count - l.walk.at
