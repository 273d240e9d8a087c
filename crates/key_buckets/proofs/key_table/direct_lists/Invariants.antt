use Rattle.std.proofs.Common.{take}
use Rattle.key_buckets.specs.Direct.{AreDirect}
use Rattle.key_buckets.proofs.key_table.direct_lists.Given as goal

abbrev pub invariant-loop-i : goal.invariant-loop-i
invariant-loop-i l = AreDirect (take l.i l.map.entries) l.direct
