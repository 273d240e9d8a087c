use Rattle.std.proofs.Common.{◌≡◌, ◌+◌, ◌-◌, ◌≤◌, ◌++◌, map, take, vec_capacity, vec_len}
use Rattle.row_lists.specs.Rows.{lists_in}
use Rattle.ivf_index.specs.Flags.{row_stays}
use Rattle.ivf_index.proofs.list_flags.flag_list.Given as goal

abbrev pub invariant-loop-walk : goal.invariant-loop-walk
invariant-loop-walk g l = record {
  rows : l.walk.rows ≡ lists_in l.lists l.list;
  within : l.walk.at ≤ l.count;
  items : l.flags.items
      ≡ l.initial.flags.items ++ map (row_stays l.sel) (take l.walk.at (lists_in l.lists l.list));
  room : vec_len l.flags + l.count ≤ vec_capacity l.flags + l.walk.at;
}

abbrev pub decreases-loop-walk : goal.decreases-loop-walk
decreases-loop-walk g l = l.count - l.walk.at
