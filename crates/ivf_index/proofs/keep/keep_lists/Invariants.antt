use Rattle.std.proofs.Common.{◌≡◌, ℕ, ◌<◌, ◌≤◌, length, get_or}
use Rattle.code_pool.specs.Lists.{kept}
use Rattle.row_lists.specs.Rows.{lists_in}
use Rattle.ivf_index.specs.Flags.{flags_to}
use Rattle.ivf_index.proofs.keep.keep_lists.Given as goal

abbrev pub invariant-loop-list : goal.invariant-loop-list
invariant-loop-list g l = record {
  end : l.list-end ≡ length l.initial.lists.lists;
  lists : length l.lists.lists ≡ length l.initial.lists.lists;
  size : l.lists.code_size ≡ l.initial.lists.code_size;
  done : (k : ℕ) → k < l.list → lists_in l.lists k
      ≡ kept (lists_in l.initial.lists k)
      (flags_to l.flags (get_or l.ends k 0) (length (lists_in l.initial.lists k)));
  left : (k : ℕ) → l.list ≤ k → lists_in l.lists k ≡ lists_in l.initial.lists k;
}
