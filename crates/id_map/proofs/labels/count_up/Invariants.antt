use Rattle.std.proofs.Common.{◌≡◌}
use Rattle.bcodes.specs.Value.{labels_from}
use Rattle.id_map.proofs.labels.count_up.Given as goal

abbrev pub invariant-loop-i : goal.invariant-loop-i
invariant-loop-i l = l.labels.items ≡ labels_from l.from l.i
