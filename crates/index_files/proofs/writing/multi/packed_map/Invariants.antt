use Rattle.std.proofs.Common.{drop, map}
use Rattle.multi_hash.specs.Maps.{map_keys}
use Rattle.index_files.specs.File.{entry_bits}
use Rattle.index_files.specs.Groups.{entries_of}
use Rattle.index_files.proofs.MultiWriting.{entry_at}
use Rattle.index_files.proofs.PackingLemmas.{IsPacking}
use Rattle.index_files.proofs.writing.multi.packed_map.Given as goal

abbrev pub invariant-loop-bucket : goal.invariant-loop-bucket
invariant-loop-bucket l = IsPacking l.initial.writer (entry_bits l.multi.b l.width (entries_of l.multi l.i))
    (entry_bits l.multi.b l.width (map (entry_at l.multi l.i) (drop l.bucket (map_keys l.multi l.i)))) l.writer
