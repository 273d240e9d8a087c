use Rattle.std.proofs.Common.{drop, map}
use Rattle.index_files.proofs.MultiWriting.{label_in_bits}
use Rattle.index_files.proofs.PackingLemmas.{IsPacking}
use Rattle.index_files.proofs.writing.multi.put_labels.Given as goal

abbrev pub invariant-loop-i : goal.invariant-loop-i
invariant-loop-i l = IsPacking l.fn.writer (map (label_in_bits l.width) l.labels)
    (map (label_in_bits l.width) (drop l.i l.labels)) l.writer
