use Rattle.std.proofs.Common.{◌≡◌, ℕ, ◌<◌, false, length}
use Rattle.std.specs.List.{range_with_len, sum_by}
use Rattle.bcodes.specs.Marks.{search_mark}
use Rattle.bcodes.specs.Ranges.{raised}
use Rattle.growing_probe.specs.Grown.{flipped}
use Rattle.growing_probe.specs.Looks.{looks_of}
use Rattle.growing_probe.specs.Met.{is_seen, IsFound}
use Rattle.growing_probe.proofs.CertainLemmas.{is_within}
use Rattle.growing_probe.proofs.search.probe_rounds.Given as goal

abbrev pub invariant-loop-flips : goal.invariant-loop-flips
invariant-loop-flips g l = record {
  found : IsFound l.index l.kernel l.initial.found.best.k l.found;
  seen : (p : ℕ) → p < length l.index.codes → is_seen l.found.seen p ≡ is_within l.index l.q l.flips p;
  unmarked : (i : ℕ) → i < l.flips → search_mark (flipped l.index i) l.q l.initial.found.best.k ≡ false;
  lent : (n : ℕ) → l.initial.meter.lent ≡ raised n l.initial.found.met → l.meter.lent ≡ raised n l.found.met;
  asked : l.meter.asked ≡ raised l.initial.meter.asked (sum_by (looks_of l.index) (range_with_len 0 l.flips));
}
