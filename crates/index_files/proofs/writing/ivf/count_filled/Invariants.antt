use Rattle.std.proofs.Common.{◌≡◌, ◌≤◌, length}
use Rattle.std.specs.Prelude.{nat_lt}
use Rattle.std.specs.List.{filter, range_with_len}
use Rattle.index_files.specs.Groups.{on_list}
use Rattle.index_files.proofs.writing.ivf.count_filled.Given as goal

abbrev pub invariant-loop-list : goal.invariant-loop-list
invariant-loop-list l = record {
  value : l.count
      ≡ length (filter (λ list. nat_lt 0 (length (on_list l.ivf list))) (range_with_len 0 l.list));
  most : l.count ≤ l.list;
}
