use Rattle.std.proofs.Common.{◌≡◌, ℕ, ◌-◌, ◌<◌, ◌≤◌, ◌||◌, bit_xor, nat_eq, length, map}
use Rattle.std.specs.List.{list_any}
use Rattle.bcodes.specs.Ranges.{raised}
use Rattle.flip_walk.specs.Patterns.{with_ones}
use Rattle.multi_hash.specs.Maps.{map_key}
use Rattle.growing_probe.specs.Met.{is_seen, IsFound}
use Rattle.growing_probe.proofs.round.probe_flipped.Given as goal

abbrev pub invariant-loop-pattern : goal.invariant-loop-pattern
invariant-loop-pattern g l = record {
  found : IsFound l.index l.kernel l.initial.found.best.k l.found;
  seen : (p : ℕ) → p < length l.index.codes
      → (is_seen l.found.seen p || list_any (nat_eq (map_key l.index l.map p)) (map (bit_xor l.key) l.walk))
      ≡ (is_seen l.initial.found.seen p
      || list_any (nat_eq (map_key l.index l.map p)) (map (bit_xor l.key) (with_ones l.index.b l.flips)));
  walk : length l.walk ≤ length (with_ones l.index.b l.flips);
  lent : (n : ℕ) → l.initial.meter.lent ≡ raised n l.initial.found.met → l.meter.lent ≡ raised n l.found.met;
  asked : l.meter.asked ≡ raised l.initial.meter.asked (length (with_ones l.index.b l.flips) - length l.walk);
}

abbrev pub decreases-loop-pattern : goal.decreases-loop-pattern
decreases-loop-pattern g l = length l.walk
