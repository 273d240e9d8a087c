use Rattle.std.proofs.Common.{◌≡◌, ◌/◌}
use Rattle.bcodes.specs.Chunks.{chunks_of}
use Rattle.index_files.proofs.reading.flat.codes_of.Given as goal

abbrev pub invariant-loop-i : goal.invariant-loop-i
invariant-loop-i l = record {
  dim : l.codes.dim ≡ l.dim.bits;
  so_far : l.codes.codes ≡ chunks_of (l.dim.bits / 8) l.i l.bytes;
}
