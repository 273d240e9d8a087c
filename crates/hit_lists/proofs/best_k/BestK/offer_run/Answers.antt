use Rattle.std.proofs.Common.{rules, ◌≡◌, ◌<◌, ◌+◌, ◌++◌, [], ℤ, List, ◌∷◌, pos, min, suc, get_or, length, take, refl}
use Rattle.std.proofs.Common.{◌∙◌, to_z, of_z, w64, FitsSigned, ℕ, ◌≤◌, ◌⊎◌, inl, inr, arith}
use Rattle.std.specs.List.{All}
use Rattle.std.proofs.lemmas.Int.{to_z-of_z}
use Rattle.bcodes.specs.declared.hit.Hit.{Hit}
use Rattle.bcodes.specs.Hits.{in_order, no_hit}
use Rattle.bcodes.proofs.OrderLemmas.{in_order-in_order, length-in_order}
use Rattle.hit_lists.specs.declared.slot_table.SlotTable.{SlotTable}
use Rattle.hit_lists.specs.BestHits.{IsKept}
use Rattle.hit_lists.specs.Chains.{IsFilling, IsFull}
use Rattle.hit_lists.specs.Labelled.{hits_of}
use Rattle.hit_lists.proofs.ChainLemmas.{not_above}
use Rattle.hit_lists.proofs.KeptLemmas.{kept_all}
use Rattle.hit_lists.proofs.LabelledLemmas.{far, offered_more, offered_all, room_more, room_at_first, offered_none}
use Rattle.hit_lists.proofs.LabelledLemmas.{length_kept}
use Rattle.hit_lists.proofs.best_k.BestK.offer_run.Goals as goal

pub loop-i-preserved : goal.loop-i-preserved
loop-i-preserved c =
    let label = get_or c.args.labels.now c.loop-i.i (pos 0) in
    let fits : FitsSigned w64 label = search rules in
    let same : to_z w64 (of_z w64 label) ≡ label = to_z-of_z w64 label fits in
    let hit : Hit = record { distance = get_or c.args.distances.now c.loop-i.i 0; label = label } in
    let this : c.offer.new.self.items ≡ take c.loop-i.self.k (in_order (hit ∷ c.loop-i.self.items)) = rw same at
    c.offer.ensures.items in
    let long : length c.offer.new.self.items ≡ min c.loop-i.self.k (suc (length c.loop-i.self.items)) = length_kept
    c.loop-i.self.k c.loop-i.self.items c.offer.new.self.items hit this in
    record {
      items = offered_more c.args.self.now.k c.args.self.now.items c.loop-i.self.items c.offer.new.self.items
          c.args.labels.now c.args.distances.now c.loop-i.i hit c.requires.same_count c.loop-i-test.true refl
          c.loop-i.invariant.items (rw c.loop-i.invariant.k at this);
      room = rw (c.offer.ensures.k, c.offer.ensures.most) (room_more c.loop-i.self.k (length c.loop-i.self.items)
          (length c.offer.new.self.items) (length c.args.labels.now) c.loop-i.i c.loop-i.self.most long
          c.loop-i-test.true c.loop-i.invariant.room);
      k = c.offer.ensures.k ∙ c.loop-i.invariant.k;
      most = c.offer.ensures.most ∙ c.loop-i.invariant.most;
      bits = c.offer.ensures.bits ∙ c.loop-i.invariant.bits;
    }

pub returns-after-loop-i-clause-items : goal.returns-after-loop-i-clause-items
returns-after-loop-i-clause-items c = offered_all c.args.self.now.k c.args.self.now.items c.loop-i.self.items
    c.args.labels.now c.args.distances.now c.loop-i.i c.requires.same_count c.loop-i-test.false c.loop-i.invariant.items

at_most : (t : SlotTable) (k : ℕ) → IsFilling t k ⊎ IsFull t k → length t.hits.items ≤ k
at_most t k (inl f) = let few = f.fewer in omega arith
at_most t k (inr f) = let all = f.all in omega arith

pub loop-i-init : goal.loop-i-init
loop-i-init c =
    let hits = c.self.inside.table.hits.items in
    let as_many : length (in_order hits) ≡ length hits = length-in_order hits in
    record {
      items = offered_none c.args.self.now.k c.args.self.now.items c.args.labels.now c.args.distances.now
          (rw (← c.self.view_is) (in_order-in_order hits))
          (rw (← c.self.view_is)
          (omega (arith, at_most c.self.inside.table c.self.inside.k c.self.invariant.stage)));
      room = room_at_first c.args.self.now.k (length c.args.self.now.items) (length c.args.labels.now)
          c.args.self.now.most c.requires.room;
      k = refl;
      most = refl;
      bits = refl;
    }

-- while fewer than k are kept, no distance is past the limit
none_past : (t : SlotTable) (k bits least : ℕ) (ls : List ℤ) (ds : List ℕ) → IsFilling t k
    → length t.counts.items ≡ bits + 1 → length ls ≡ length ds
    → All (λ d. d ≤ bits) ds → All (λ d. least ≤ d) ds → t.limit < least
    → in_order t.hits.items ≡ take k (in_order (in_order t.hits.items ++ hits_of ls ds))
none_past t k bits least [] [] f chains same within above past =
    let few = f.fewer in
    offered_none k (in_order t.hits.items) [] [] (in_order-in_order t.hits.items)
    (omega (arith, length-in_order t.hits.items))
none_past t k bits least (l ∷ ls) [] f chains same within above past = absurd (omega arith)
none_past t k bits least ls (d ∷ ds) f chains same within above past =
    let low : d ≤ bits = within 0 0 (omega arith) in
    let high : least ≤ d = above 0 0 (omega arith) in
    let limit = f.open_limit in
    absurd (omega arith)

-- where all distances are past the limit, no hit is kept
all_dropped : (t : SlotTable) (k most bits least : ℕ) (ls : List ℤ) (ds : List ℕ) → IsKept t k most bits
    → length ls ≡ length ds
    → All (λ d. d ≤ bits) ds → All (λ d. least ≤ d) ds → t.limit < least
    → in_order t.hits.items ≡ take k (in_order (in_order t.hits.items ++ hits_of ls ds))
all_dropped t k most bits least ls ds kept same within above past =
    elim kept.stage [
      | inl f ↦ none_past t k bits least ls ds f kept.chains same within above past
      | inr f ↦ kept_all k t.hits.items (hits_of ls ds) f.all
          (λ s i low high. not_above (get_or t.hits.items s no_hit) (get_or (hits_of ls ds) i no_hit)
          (inl (let near = kept.table.chained.under s low (omega arith) in
          let away : t.limit + 1 ≤ (get_or (hits_of ls ds) i no_hit).distance = far (t.limit + 1) least ls ds i same
          above (omega arith) high in
          omega arith)))
    ]

pub returns-else-least-self-clause-items : goal.returns-else-least-self-clause-items
returns-else-least-self-clause-items c =
    rw (← c.self.view_is)
    (all_dropped c.self.inside.table c.self.inside.k c.self.inside.most c.self.inside.dim.bits c.least.result
    c.args.labels.now c.args.distances.now c.self.invariant
    c.requires.same_count (rw (← c.self.view_is) at c.requires.distances) c.least.ensures.below c.if-least-self.false)
