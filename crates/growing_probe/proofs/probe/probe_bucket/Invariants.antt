use Rattle.std.proofs.Common.{◌≡◌, ℕ, ◌-◌, ◌≤◌, ◌||◌, nat_eq, take}
use Rattle.std.specs.List.{list_any}
use Rattle.bcodes.specs.Ranges.{raised}
use Rattle.multi_hash.specs.Maps.{positions_at}
use Rattle.growing_probe.specs.Met.{is_seen, IsFound}
use Rattle.growing_probe.proofs.probe.probe_bucket.Given as goal

abbrev pub invariant-loop-at : goal.invariant-loop-at
invariant-loop-at g l = record {
  within : l.at ≤ l.count;
  found : IsFound l.index l.kernel l.initial.found.best.k l.found;
  seen : (p : ℕ) → is_seen l.found.seen p ≡ (is_seen l.initial.found.seen p
      || list_any (nat_eq p) (take l.at (positions_at l.index l.map l.bucket)));
  lent : (n : ℕ) → l.initial.meter.lent ≡ raised n l.initial.found.met → l.meter.lent ≡ raised n l.found.met;
  asked : l.meter.asked ≡ l.initial.meter.asked;
}

abbrev pub decreases-loop-at : goal.decreases-loop-at
decreases-loop-at g l = l.count - l.at
