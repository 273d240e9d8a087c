use Rattle.std.proofs.Common.{◌≡◌, ℕ, ◌||◌, nat_abs, nat_eq, take}
use Rattle.std.specs.List.{list_any}
use Rattle.bcodes.specs.Ranges.{raised}
use Rattle.growing_probe.specs.Met.{is_seen, IsFound}
use Rattle.growing_probe.proofs.probe.probe_run.Given as goal

abbrev pub invariant-loop-label : goal.invariant-loop-label
invariant-loop-label g l = record {
  found : IsFound l.index l.kernel l.initial.found.best.k l.found;
  seen : (p : ℕ) → is_seen l.found.seen p
      ≡ (is_seen l.initial.found.seen p || list_any (λ label. nat_eq p (nat_abs label))
      (take l.label-index l.labels));
  lent : (n : ℕ) → l.initial.meter.lent ≡ raised n l.initial.found.met → l.meter.lent ≡ raised n l.found.met;
  asked : l.meter.asked ≡ l.initial.meter.asked;
}
