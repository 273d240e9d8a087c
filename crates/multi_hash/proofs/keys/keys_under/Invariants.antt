use Rattle.std.proofs.Common.{◌≡◌, ◌-◌, ◌≤◌, length, map, take}
use Rattle.key_buckets.specs.Keys.{key_in}
use Rattle.multi_hash.proofs.keys.keys_under.Given as goal

abbrev pub invariant-loop-from : goal.invariant-loop-from
invariant-loop-from g l = record {
  within : l.from ≤ length l.storage.codes;
  keys : l.keys.items ≡ map (key_in l.i l.b) (take l.from l.storage.codes);
}

abbrev pub decreases-loop-from : goal.decreases-loop-from
decreases-loop-from g l = length l.storage.codes - l.from
