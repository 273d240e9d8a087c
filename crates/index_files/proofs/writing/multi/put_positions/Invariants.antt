use Rattle.std.proofs.Common.{◌-◌, ◌≤◌, drop, map}
use Rattle.multi_hash.specs.Maps.{positions_at}
use Rattle.index_files.proofs.MultiWriting.{in_bits}
use Rattle.index_files.proofs.PackingLemmas.{IsPacking}
use Rattle.index_files.proofs.writing.multi.put_positions.Given as goal

abbrev pub invariant-loop-from : goal.invariant-loop-from
invariant-loop-from l = record {
  within : l.from ≤ l.count;
  packing : IsPacking l.fn.writer (map (in_bits l.width) (positions_at l.multi l.i l.bucket))
      (map (in_bits l.width) (drop l.from (positions_at l.multi l.i l.bucket))) l.writer;
}

abbrev pub decreases-loop-from : goal.decreases-loop-from
decreases-loop-from l = l.count - l.from
