use Rattle.std.proofs.Common.{◌≡◌, ◌≤◌, ◌⊎◌, inl, inr, ℕ, length, refl, ◌∙◌, arith}
use Rattle.bcodes.specs.Hits.{in_order}
use Rattle.bcodes.proofs.OrderLemmas.{in_order-in_order, length-in_order}
use Rattle.hit_lists.specs.declared.slot_table.SlotTable.{SlotTable}
use Rattle.hit_lists.specs.Chains.{IsFilling, IsFull}
use Rattle.hit_lists.proofs.LabelledLemmas.{offered_all, offered_none, offered_run, room_after, room_at_first}
use Rattle.hit_lists.proofs.best_k.BestK.offer_all.Goals as goal

at_most : (t : SlotTable) (k : ℕ) → IsFilling t k ⊎ IsFull t k → length t.hits.items ≤ k
at_most t k (inl f) = let few = f.fewer in omega arith
at_most t k (inr f) = let all = f.all in omega arith

pub loop-at-init : goal.loop-at-init
loop-at-init c =
    let hits = c.self.inside.table.hits.items in
    let as_many : length (in_order hits) ≡ length hits = length-in_order hits in
    record {
      items = offered_none c.args.self.now.k c.args.self.now.items c.args.labels.now c.args.distances.now
          (rw (← c.self.view_is) (in_order-in_order hits))
          (rw (← c.self.view_is) (omega (arith, at_most c.self.inside.table c.self.inside.k c.self.invariant.stage)));
      room = room_at_first c.args.self.now.k (length c.args.self.now.items) (length c.args.labels.now)
          c.args.self.now.most c.requires.room;
      within = omega arith;
      k = refl;
      most = refl;
      bits = refl;
    }

pub loop-at-preserved : goal.loop-at-preserved
loop-at-preserved c =
    let before = c.args.self.now.items in
    let kept = c.loop-at.self.items in
    let after = c.offer_run.new.self.items in
    let labels = c.args.labels.now in
    let distances = c.args.distances.now in
    let at = c.loop-at.at in
    let end = c.min-end.result in
    let from : at ≤ end = omega arith in
    let within : end ≤ length labels = omega arith in
    record {
      items = offered_run c.args.self.now.k before kept after labels distances at end from c.loop-at.invariant.items
          (rw c.loop-at.invariant.k at c.offer_run.ensures.items);
      room = rw (c.offer_run.ensures.k, c.offer_run.ensures.most)
          (room_after c.loop-at.self.k kept after labels distances (length labels) at end c.loop-at.self.most
          c.requires.same_count from within
          c.offer_run.ensures.items c.loop-at.invariant.room);
      within = within;
      k = c.offer_run.ensures.k ∙ c.loop-at.invariant.k;
      most = c.offer_run.ensures.most ∙ c.loop-at.invariant.most;
      bits = c.offer_run.ensures.bits ∙ c.loop-at.invariant.bits;
    }

pub returns-clause-items : goal.returns-clause-items
returns-clause-items c =
    offered_all c.args.self.now.k c.args.self.now.items c.loop-at.self.items c.args.labels.now c.args.distances.now
    c.loop-at.at c.requires.same_count c.loop-at-test.false c.loop-at.invariant.items
