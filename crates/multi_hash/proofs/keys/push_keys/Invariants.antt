use Rattle.std.proofs.Common.{◌≡◌, ◌++◌, map, take}
use Rattle.code_pool.specs.Lists.{rows_in}
use Rattle.multi_hash.specs.Inside.{row_key}
use Rattle.multi_hash.proofs.keys.push_keys.Given as goal

abbrev pub invariant-loop-at : goal.invariant-loop-at
invariant-loop-at l = l.keys.items ≡ l.initial.keys.items
    ++ map (row_key l.i l.b) (take l.at (rows_in l.size l.run.labels.now l.run.codes.now))
