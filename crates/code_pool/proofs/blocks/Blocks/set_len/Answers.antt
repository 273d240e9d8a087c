use Rattle.std.proofs.Common.{set, subst, sym}
use Rattle.code_pool.specs.Chains.{BlockChains, IsNext}
use Rattle.code_pool.specs.Linked.{IsFronts}
use Rattle.code_pool.proofs.LinkLemmas.{counted, counted-seen}
use Rattle.code_pool.proofs.NextLemmas.{next-with}
use Rattle.code_pool.proofs.FrontLemmas.{fronts-counted}
use Rattle.code_pool.proofs.blocks.Blocks.set_len.Goals as goal

pub invariant_of-self : goal.invariant_of-self
invariant_of-self c =
    let i = c.self.inside in
    let was : IsNext c.args.self.now c.self.inside.next.items = subst
    (λ (b : BlockChains). IsNext b c.self.inside.next.items) c.self.view_is c.self.invariant.next in
    let fronts : IsFronts c.args.self.now c.self.inside.fronts.items = subst
    (λ (b : BlockChains). IsFronts b c.self.inside.fronts.items) c.self.view_is c.self.invariant.front in
    let seen_is = counted-seen i.tables.before.items i.free i.lists.items c.args.self.now c.args.list c.args.len
    c.index_mut-chain.result.now c.self.view_is c.requires c.index_mut-chain.ensures.value in
    record {
      blocks = counted i.tables.before.items i.tables.jump.items i.tables.place.items i.free i.lists.items
          c.args.self.now c.args.list c.args.len c.index_mut-chain.result.now
          c.self.invariant.blocks c.self.view_is c.requires c.index_mut-chain.ensures.value;
      next = subst (λ (b : BlockChains). IsNext b (set i.next.items c.args.list c.block_at-next.result)) (sym seen_is)
          (next-with c.args.self.now i.next.items c.args.list c.block_at-next.result _ was c.requires
          c.block_at-next.ensures);
      front = subst (λ (b : BlockChains). IsFronts b i.fronts.items) (sym seen_is)
          (fronts-counted c.args.self.now i.fronts.items c.args.list c.args.len fronts c.requires);
    }

pub returns : goal.returns
returns c =
    let i = c.self.inside in
    counted-seen i.tables.before.items i.free i.lists.items c.args.self.now c.args.list c.args.len
    c.index_mut-chain.result.now
    c.self.view_is c.requires c.index_mut-chain.ensures.value
