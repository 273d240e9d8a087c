use Rattle.std.proofs.Common.{◌≡◌, ℕ, ◌<◌, ◌||◌, nat_eq, length, take}
use Rattle.std.specs.List.{filter, list_any}
use Rattle.bcodes.specs.Ranges.{raised}
use Rattle.multi_hash.specs.Maps.{map_key, map_keys}
use Rattle.growing_probe.specs.Met.{is_at, is_seen, IsFound}
use Rattle.growing_probe.proofs.round.probe_by_key.Given as goal

abbrev pub invariant-loop-i : goal.invariant-loop-i
invariant-loop-i g l = record {
  found : IsFound l.index l.kernel l.initial.found.best.k l.found;
  seen : (p : ℕ) → p < length l.index.codes → is_seen l.found.seen p ≡ (is_seen l.initial.found.seen p
      || list_any (nat_eq (map_key l.index l.map p))
      (filter (is_at l.key l.flips) (take l.i (map_keys l.index l.map))));
  lent : (n : ℕ) → l.initial.meter.lent ≡ raised n l.initial.found.met → l.meter.lent ≡ raised n l.found.met;
  asked : l.meter.asked ≡ raised l.initial.meter.asked l.i;
}
