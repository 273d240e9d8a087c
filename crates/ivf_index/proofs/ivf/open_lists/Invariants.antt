use Rattle.std.proofs.Common.{◌≡◌, ◌/◌, replicate}
use Rattle.code_pool.specs.Lists.{no_list}
use Rattle.ivf_index.proofs.ivf.open_lists.Given as goal

abbrev pub invariant-loop : goal.invariant-loop
invariant-loop g l = record {
  lists : l.lists.lists ≡ replicate l.counter no_list;
  size : l.lists.code_size ≡ l.fn.dim.bits / 8;
  free : l.lists.free ≡ 0;
}
