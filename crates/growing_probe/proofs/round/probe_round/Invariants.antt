use Rattle.std.proofs.Common.{◌≡◌, ℕ, ◌<◌, ◌||◌, length}
use Rattle.std.specs.List.{range_with_len, sum_by}
use Rattle.bcodes.specs.Ranges.{raised}
use Rattle.growing_probe.specs.Looks.{looks_under}
use Rattle.growing_probe.specs.Met.{some_chunk_at, is_seen, IsFound}
use Rattle.growing_probe.proofs.round.probe_round.Given as goal

abbrev pub invariant-loop-map : goal.invariant-loop-map
invariant-loop-map g l = record {
  found : IsFound l.index l.kernel l.initial.found.best.k l.found;
  seen : (p : ℕ) → p < length l.index.codes
      → is_seen l.found.seen p ≡ (is_seen l.initial.found.seen p || some_chunk_at l.index l.q l.flips l.map p);
  lent : (n : ℕ) → l.initial.meter.lent ≡ raised n l.initial.found.met → l.meter.lent ≡ raised n l.found.met;
  asked : l.meter.asked
      ≡ raised l.initial.meter.asked (sum_by (looks_under l.index l.flips) (range_with_len 0 l.map));
}
