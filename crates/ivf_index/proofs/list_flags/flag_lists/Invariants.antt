use Rattle.std.proofs.Common.{◌≡◌, length}
use Rattle.row_lists.specs.Rows.{lists_in}
use Rattle.ivf_index.specs.Flags.{AreListFlags}
use Rattle.ivf_index.proofs.list_flags.flag_lists.Given as goal

abbrev pub invariant-loop-list : goal.invariant-loop-list
invariant-loop-list g l = record {
  starts : length l.starts.items ≡ l.list;
  flags : AreListFlags l.sel (lists_in l.lists) l.flags.items l.starts.items;
}
