use Rattle.std.proofs.Common.{◌≡◌, ◌-◌, ◌≤◌, length, map, take}
use Rattle.key_buckets.specs.Keys.{key_in}
use Rattle.index_files.proofs.reading.multi.keyed.keys_under.Given as goal

abbrev pub invariant-loop-from : goal.invariant-loop-from
invariant-loop-from l = record {
  within : l.from ≤ length l.storage.codes;
  keys : l.keys ≡ map (key_in l.number l.b) (take l.from l.storage.codes);
}

abbrev pub decreases-loop-from : goal.decreases-loop-from
decreases-loop-from l = length l.storage.codes - l.from
