use Rattle.std.proofs.Common.{◌+◌, ℕ, set, sym, subst, ap, ◌∙◌, arith}
use Rattle.code_pool.specs.Chains.{BlockChains, IsNext, chain_at, with_chain}
use Rattle.code_pool.specs.Linked.{IsFronts}
use Rattle.code_pool.proofs.LinkLemmas.{counted, counted-seen, list_short}
use Rattle.code_pool.proofs.NextLemmas.{next-with}
use Rattle.code_pool.proofs.FrontLemmas.{fronts-counted}
use Rattle.code_pool.proofs.blocks.Blocks.add_row.Goals as goal

pub overflow_add-chain : goal.overflow_add-chain
overflow_add-chain c =
    let i = c.self.inside in
    let t = c.self.inside.tables in
    omega (
      arith,
      list_short t.before.items t.jump.items t.place.items i.free i.lists.items c.args.self.now
          c.args.list c.self.invariant.blocks c.self.view_is c.requires.exists,
      c.requires.room,
      c.len-len.ensures.value,
    )

pub invariant_of-self : goal.invariant_of-self
invariant_of-self c =
    let i = c.self.inside in
    let t = c.self.inside.tables in
    let p = c.args.self.now in
    let e = c.index_mut-chain.result.now in
    let was : IsNext c.args.self.now c.self.inside.next.items = subst
    (λ (b : BlockChains). IsNext b c.self.inside.next.items) c.self.view_is c.self.invariant.next in
    let fronts : IsFronts c.args.self.now c.self.inside.fronts.items = subst
    (λ (b : BlockChains). IsFronts b c.self.inside.fronts.items) c.self.view_is c.self.invariant.front in
    let seen_is = counted-seen t.before.items i.free i.lists.items p c.args.list
    (c.len-len.result + 1) e c.self.view_is c.requires.exists c.index_mut-chain.ensures.value in
    record {
      blocks = counted t.before.items t.jump.items t.place.items i.free i.lists.items p c.args.list
          (c.len-len.result + 1) e c.self.invariant.blocks c.self.view_is c.requires.exists
          c.index_mut-chain.ensures.value;
      next = subst (λ (b : BlockChains). IsNext b (set i.next.items c.args.list c.block_behind-next.result)) (sym seen_is)
          (next-with p i.next.items c.args.list c.block_behind-next.result _ was c.requires.exists
          c.block_behind-next.ensures);
      front = subst (λ (b : BlockChains). IsFronts b i.fronts.items) (sym seen_is)
          (fronts-counted p i.fronts.items c.args.list (c.len-len.result + 1) fronts c.requires.exists);
    }

pub returns-clause-chains : goal.returns-clause-chains
returns-clause-chains c =
    let i = c.self.inside in
    let p = c.args.self.now in
    counted-seen i.tables.before.items i.free i.lists.items p c.args.list
    (c.len-len.result + 1) c.index_mut-chain.result.now c.self.view_is c.requires.exists
    c.index_mut-chain.ensures.value
    ∙ ap (λ (n : ℕ). with_chain p (c.args.list + 1)
    (record { blocks = (chain_at p (c.args.list + 1)).blocks; len = n + 1 })) c.len-len.ensures.value
