use Rattle.std.proofs.Common.{◌≡◌, ◌+◌, ◌-◌, ◌≤◌, ◌++◌, length}
use Rattle.bcodes.specs.Chunks.{chunks_of}
use Rattle.bcodes.specs.Value.{numbered}
use Rattle.code_pool.specs.Lists.{list_at}
use Rattle.flat_index.proofs.flat.append_all_bytes.Given as goal

abbrev pub invariant-loop-done : goal.invariant-loop-done
invariant-loop-done g l = record {
  within : l.done ≤ l.n;
  rows : (list_at l.pool 0).rows
      ≡ (list_at l.initial.pool 0).rows ++ numbered l.count (chunks_of l.size l.done l.bytes);
  room : l.n ≤ (list_at l.pool 0).spare + l.done;
  lists : length l.pool.lists ≡ length l.initial.pool.lists;
  size : l.pool.code_size ≡ l.initial.pool.code_size;
}

abbrev pub decreases-loop-done : goal.decreases-loop-done
decreases-loop-done g l = l.n - l.done
