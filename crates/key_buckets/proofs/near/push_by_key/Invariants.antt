use Rattle.std.proofs.Common.{◌≡◌, ◌++◌, take}
use Rattle.bcodes.specs.Ranges.{raised}
use Rattle.key_buckets.specs.Near.{lists_by_key}
use Rattle.key_buckets.proofs.near.push_by_key.Given as goal

abbrev pub invariant-loop-i : goal.invariant-loop-i
invariant-loop-i g l = record {
  near : l.near.items ≡ l.initial.near.items ++ lists_by_key (take l.i l.table) l.nflip l.key;
  lent : l.meter.lent ≡ l.initial.meter.lent;
  asked : l.meter.asked ≡ raised l.initial.meter.asked l.i;
}
