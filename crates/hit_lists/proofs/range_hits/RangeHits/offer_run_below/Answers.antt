use Rattle.std.proofs.Common.{rules, ◌≡◌, ◌++◌, ◌∷◌, [], pos, nat_lt, get_or, refl, arith, to_z, of_z, w64, FitsSigned}
use Rattle.std.specs.List.{filter}
use Rattle.std.proofs.lemmas.Int.{to_z-of_z}
use Rattle.bcodes.specs.declared.hit.Hit.{Hit}
use Rattle.hit_lists.proofs.LabelledLemmas.{none_below, passed_more, passed_all}
use Rattle.hit_lists.proofs.range_hits.RangeHits.offer_run_below.Goals as goal

pub loop-i-preserved : goal.loop-i-preserved
loop-i-preserved c =
    let label = get_or c.args.labels.now c.loop-i.i (pos 0) in
    let fits : FitsSigned w64 label = search rules in
    let same : to_z w64 (of_z w64 label) ≡ label = to_z-of_z w64 label fits in
    let hit : Hit = record { distance = get_or c.args.distances.now c.loop-i.i 0; label = label } in
    let this : c.offer_one_below.new.self.items ≡ c.loop-i.self.items ++ filter
    (λ (h : Hit). nat_lt h.distance c.args.radius) (hit ∷ []) = rw same at c.offer_one_below.ensures.items in
    record {
      items = passed_more (λ (h : Hit). nat_lt h.distance c.args.radius) c.args.self.now.items c.loop-i.self.items
          c.offer_one_below.new.self.items c.args.labels.now c.args.distances.now c.loop-i.i hit
          c.requires.same_count c.loop-i-test.true refl c.loop-i.invariant.items this;
      room = omega (arith, c.loop-i.invariant.room, c.offer_one_below.ensures.spare);
    }

pub returns-after-loop-i-clause-items : goal.returns-after-loop-i-clause-items
returns-after-loop-i-clause-items c = passed_all (λ (h : Hit). nat_lt h.distance c.args.radius) c.args.self.now.items
    c.loop-i.self.items c.args.labels.now c.args.distances.now c.loop-i.i c.requires.same_count c.loop-i-test.false
    c.loop-i.invariant.items

pub returns-else-least-radius-clause-items : goal.returns-else-least-radius-clause-items
returns-else-least-radius-clause-items c =
    none_below c.args.radius c.least.result c.args.self.now.items c.args.labels.now c.args.distances.now
    c.requires.same_count c.least.ensures.below c.if-least-radius.false
