use Rattle.std.proofs.Common.{◌≡◌, ◌-◌, ◌≤◌, ◌++◌, length}
use Rattle.bcodes.specs.Ranges.{raised}
use Rattle.flip_walk.specs.Patterns.{flips}
use Rattle.key_buckets.specs.Near.{flipped_lists}
use Rattle.key_buckets.proofs.near.push_flipped.Given as goal

abbrev pub invariant-loop-pattern : goal.invariant-loop-pattern
invariant-loop-pattern g l = record {
  near : l.near.items ++ flipped_lists l.table l.key l.walk
      ≡ l.initial.near.items ++ flipped_lists l.table l.key (flips l.b l.nflip);
  walk : length l.walk ≤ length (flips l.b l.nflip);
  lent : l.meter.lent ≡ l.initial.meter.lent;
  asked : l.meter.asked ≡ raised l.initial.meter.asked (length (flips l.b l.nflip) - length l.walk);
}

abbrev pub decreases-loop-pattern : goal.decreases-loop-pattern
decreases-loop-pattern g l = length l.walk
