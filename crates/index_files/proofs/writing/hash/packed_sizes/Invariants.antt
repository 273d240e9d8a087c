use Rattle.std.proofs.Common.{drop}
use Rattle.std.specs.List.{flat_map}
use Rattle.hash_index.specs.Keys.{hash_keys}
use Rattle.index_files.specs.File.{bits_of_bucket, hash_bits}
use Rattle.index_files.proofs.PackingLemmas.{IsPacking}
use Rattle.index_files.proofs.writing.hash.packed_sizes.Given as goal

abbrev pub invariant-loop-i : goal.invariant-loop-i
invariant-loop-i l = IsPacking l.initial.writer (hash_bits l.hash l.width)
    (flat_map (bits_of_bucket l.hash l.width) (drop l.i (hash_keys l.hash))) l.writer
