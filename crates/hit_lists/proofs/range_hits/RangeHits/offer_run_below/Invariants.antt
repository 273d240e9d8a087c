use Rattle.std.proofs.Common.{◌≡◌, ◌+◌, ◌≤◌, ◌++◌, nat_lt, take}
use Rattle.std.specs.List.{filter}
use Rattle.hit_lists.specs.Labelled.{hits_of}
use Rattle.hit_lists.proofs.range_hits.RangeHits.offer_run_below.Given as goal

abbrev pub invariant-loop-i : goal.invariant-loop-i
invariant-loop-i l = record {
  items : l.self.items ≡ l.initial.self.items ++ filter (λ h. nat_lt h.distance l.fn.radius)
      (take l.i (hits_of l.labels l.distances));
  room : l.initial.self.spare ≤ l.self.spare + l.i;
}
