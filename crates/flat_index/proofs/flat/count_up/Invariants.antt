use Rattle.std.proofs.Common.{◌≡◌, take}
use Rattle.bcodes.specs.Value.{labels_from}
use Rattle.flat_index.proofs.flat.count_up.Given as goal

abbrev pub invariant-loop-i : goal.invariant-loop-i
invariant-loop-i l = take l.i l.labels ≡ labels_from l.first l.i
