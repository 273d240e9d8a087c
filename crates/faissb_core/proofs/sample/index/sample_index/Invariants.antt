use Rattle.std.proofs.Common.{◌≡◌, ◌-◌, ◌≤◌}
use Rattle.faissb_core.specs.Machine.Sample.{sample_index}
use Rattle.faissb_core.proofs.sample.index.sample_index.Given as goal

abbrev pub invariant-loop-held : goal.invariant-loop-held
invariant-loop-held l = record {
  so_far : l.index ≡ sample_index l.seed l.held;
  within : l.held ≤ l.count;
}

abbrev pub decreases-loop-held : goal.decreases-loop-held
decreases-loop-held l = l.count - l.held
