use Rattle.std.proofs.Common.{◌≡◌, map, take}
use Rattle.key_buckets.specs.Keys.{key_in}
use Rattle.key_buckets.proofs.keys.chunk_keys.Given as goal

abbrev pub invariant-loop-at : goal.invariant-loop-at
invariant-loop-at l = l.keys.items ≡ map (key_in l.i l.b) (take l.at l.codes.codes)
