use Rattle.std.proofs.Common.{◌∷◌, ◌++◌, [], length, ap, subst, sym, arith}
use Rattle.std.proofs.lemmas.List.{length-map}
use Rattle.code_pool.specs.Chains.{BlockChains, IsNext}
use Rattle.code_pool.specs.Linked.{IsFronts, held_by, no_front}
use Rattle.code_pool.proofs.LinkLemmas.{blocks-opened, seen}
use Rattle.code_pool.proofs.NextLemmas.{next-opened, seen-opened}
use Rattle.code_pool.proofs.FrontLemmas.{fronts-opened}
use Rattle.code_pool.proofs.blocks.Blocks.open.Goals as goal

pub invariant_of-self-2 : goal.invariant_of-self-2
invariant_of-self-2 c =
    let i = c.self.inside in
    let before = c.self.inside.tables.before.items in
    let k = c.self.invariant in
    rw (
      c.in_ok-push.ensures.items,
      c.push_reserved.ensures.items,
      c.in_ok-reserve.ensures.items,
      c.push_reserved-2.ensures.items,
      c.in_ok-reserve-2.ensures.items,
    ) (record {
      blocks = blocks-opened before i.tables.jump.items i.tables.place.items (i.free ∷ i.lists.items) k.blocks
          (omega (
            arith,
            c.requires,
            ap (λ (b : BlockChains). length b.chains) c.self.view_is,
            length-map i.lists.items (held_by before),
          ));
      next = subst (λ (b : BlockChains). IsNext b (i.next.items ++ 0 ∷ []))
          (sym (seen-opened before (i.free ∷ i.lists.items)))
          (next-opened (seen before (i.free ∷ i.lists.items)) i.next.items k.next);
      front = subst (λ (b : BlockChains). IsFronts b (i.fronts.items ++ no_front ∷ []))
          (sym (seen-opened before (i.free ∷ i.lists.items)))
          (fronts-opened (seen before (i.free ∷ i.lists.items)) i.fronts.items k.front);
    })
