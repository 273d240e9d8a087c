use Rattle.std.proofs.Common.{◌≡◌, ◌≤◌, ◌-◌, length}
use Rattle.ivf_index.proofs.NearestLemmas.{IsSoFar, distances}
use Rattle.ivf_index.proofs.nearest.nearest_list.Given as goal

abbrev pub invariant-loop-from : goal.invariant-loop-from
invariant-loop-from g l = record {
  so_far : IsSoFar (distances l.kernel l.quantizer.codes) l.quantizer.dim l.from l.nearest l.least;
  within : l.from ≤ length l.quantizer.codes;
  room : length l.distances ≡ length l.initial.distances;
}

abbrev pub decreases-loop-from : goal.decreases-loop-from
decreases-loop-from g l = l.count - l.from
