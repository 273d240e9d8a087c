use Rattle.std.proofs.Common.{◌≡◌, ◌+◌, ◌-◌, ◌≤◌, ◌++◌, nat_lt, take}
use Rattle.std.specs.List.{filter}
use Rattle.hit_lists.specs.Labelled.{hits_of}
use Rattle.hit_lists.proofs.range_hits.RangeHits.offer_below.Given as goal

abbrev pub invariant-loop-at : goal.invariant-loop-at
invariant-loop-at l = record {
  items : l.self.items ≡ l.initial.self.items ++ filter (λ h. nat_lt h.distance l.fn.radius)
      (take l.at (hits_of l.labels l.distances));
  room : l.initial.self.spare ≤ l.self.spare + l.at;
  within : l.at ≤ l.count;
}

abbrev pub decreases-loop-at : goal.decreases-loop-at
decreases-loop-at l = l.count - l.at
