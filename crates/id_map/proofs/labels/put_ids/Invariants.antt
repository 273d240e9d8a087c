use Rattle.std.proofs.Common.{◌≡◌, ◌++◌, map, take, drop}
use Rattle.bcodes.specs.Answers.{outer}
use Rattle.id_map.proofs.labels.put_ids.Given as goal

abbrev pub invariant-loop-i : goal.invariant-loop-i
invariant-loop-i l = l.hits.items ≡ map (outer l.ids) (take l.i l.initial.hits.items) ++ drop l.i l.initial.hits.items
