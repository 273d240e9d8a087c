use Rattle.std.proofs.Common.{◌≡◌, ℕ, ◌<◌, ◌≤◌, ◌⊎◌, get_or}
use Rattle.hit_lists.proofs.runs.least.Given as goal

abbrev pub invariant-loop-distance : goal.invariant-loop-distance
invariant-loop-distance l = record {
  below : (k d : ℕ) → k < l.distance-index → l.least ≤ get_or l.distances k d;
  reached : (l.least ≡ 4294967295) ⊎ ((k : ℕ) × (k < l.distance-index) × (get_or l.distances k 0 ≡ l.least));
}
