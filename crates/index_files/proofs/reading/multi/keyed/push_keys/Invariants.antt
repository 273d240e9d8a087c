use Rattle.std.proofs.Common.{◌≡◌, ◌++◌, map, take}
use Rattle.code_pool.specs.Lists.{rows_in}
use Rattle.multi_hash.specs.Inside.{row_key}
use Rattle.index_files.proofs.reading.multi.keyed.push_keys.Given as goal

abbrev pub invariant-loop-at : goal.invariant-loop-at
invariant-loop-at l = l.keys ≡ l.initial.keys
    ++ map (row_key l.number l.b) (take l.at (rows_in l.size l.run.labels.now l.run.codes.now))
