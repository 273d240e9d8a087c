use Rattle.std.proofs.Common.{◌≡◌, length, map, take}
use Rattle.multi_hash.proofs.tables.key_counts.Given as goal

abbrev pub invariant-loop-i : goal.invariant-loop-i
invariant-loop-i l = l.counts.items ≡ map length (take l.i l.maps)
