use Rattle.std.proofs.Common.{◌≡◌, ◌+◌, ◌*◌}
use Rattle.index_files.proofs.HashRunReading.{SoFar}
use Rattle.index_files.proofs.reading.hash.run.run_fault.Given as goal

abbrev pub invariant-loop-i : goal.invariant-loop-i
invariant-loop-i l = record {
  so_far : SoFar l.run l.packing.b l.packing.width l.packing.count l.packing.total l.i l.sum l.largest l.seen;
  bytes : l.bits.bytes ≡ l.run;
  at : l.bits.at ≡ l.i * (l.packing.b + l.packing.width);
}
