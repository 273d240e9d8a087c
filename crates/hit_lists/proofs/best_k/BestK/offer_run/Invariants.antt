use Rattle.std.proofs.Common.{◌≡◌, ◌+◌, ◌≤◌, ◌⊎◌, ◌++◌, length, take}
use Rattle.bcodes.specs.Hits.{in_order}
use Rattle.hit_lists.specs.Labelled.{hits_of}
use Rattle.hit_lists.proofs.best_k.BestK.offer_run.Given as goal

abbrev pub invariant-loop-i : goal.invariant-loop-i
invariant-loop-i l = record {
  items : l.self.items ≡ take l.initial.self.k
      (in_order (l.initial.self.items ++ take l.i (hits_of l.labels l.distances)));
  room : (length l.self.items + length l.labels ≤ l.self.most + l.i) ⊎ (length l.self.items ≡ l.self.k);
  k : l.self.k ≡ l.initial.self.k;
  most : l.self.most ≡ l.initial.self.most;
  bits : l.self.bits ≡ l.initial.self.bits;
}
