use Rattle.std.proofs.Common.{◌≡◌, ◌+◌, ◌<◌, length, arith, ap, set, subst, sym, ◌∙◌}
use Rattle.code_pool.specs.Chains.{BlockChains, Held, IsFront, IsNext, chain_at, last_of}
use Rattle.code_pool.specs.Linked.{IsFronts}
use Rattle.code_pool.proofs.LinkLemmas.{taken, list_bounds, list_seen, free_bounds, last_of-held, length-blocks_to}
use Rattle.code_pool.proofs.NextLemmas.{chosen, next-taken}
use Rattle.code_pool.proofs.FrontLemmas.{front_read, fronts-taken}
use Rattle.code_pool.proofs.blocks.Blocks.take.Goals as goal

pub shorter-self-inside-requires-clause-last : goal.shorter-self-inside-requires-clause-last
shorter-self-inside-requires-clause-last c =
    let i = c.self.inside in
    (free_bounds i.tables.before.items i.tables.jump.items i.tables.place.items i.free i.lists.items
    c.self.invariant.blocks).1
    (omega (
      arith,
      c.requires.some,
      ap (λ (p : BlockChains). length (chain_at p 0).blocks) c.self.view_is,
      length-blocks_to i.tables.before.items i.free.last i.free.blocks,
    ))

pub longer-requires-clause-block : goal.longer-requires-clause-block
longer-requires-clause-block c =
    let i = c.self.inside in
    (free_bounds i.tables.before.items i.tables.jump.items i.tables.place.items i.free i.lists.items
    c.self.invariant.blocks).1
    (omega (
      arith,
      c.requires.some,
      ap (λ (p : BlockChains). length (chain_at p 0).blocks) c.self.view_is,
      length-blocks_to i.tables.before.items i.free.last i.free.blocks,
    ))

pub longer-requires-clause-few : goal.longer-requires-clause-few
longer-requires-clause-few c =
    let i = c.self.inside in
    let b = list_bounds i.tables.before.items i.tables.jump.items i.tables.place.items i.free i.lists.items
    c.args.self.now c.args.list c.index-to.result.now c.self.invariant.blocks c.self.view_is c.requires.exists
    c.index-to.ensures in
    omega (arith, b.0, c.self.invariant.blocks.few)

pub longer-requires-clause-end : goal.longer-requires-clause-end
longer-requires-clause-end c =
    let i = c.self.inside in
    (list_bounds i.tables.before.items i.tables.jump.items i.tables.place.items i.free i.lists.items c.args.self.now
    c.args.list c.index-to.result.now c.self.invariant.blocks c.self.view_is c.requires.exists
    c.index-to.ensures).2

pub with_blocks-front-requires : goal.with_blocks-front-requires
with_blocks-front-requires c =
    let i = c.self.inside in
    let b = list_bounds i.tables.before.items i.tables.jump.items i.tables.place.items i.free i.lists.items
    c.args.self.now c.args.list c.index-to.result.now c.self.invariant.blocks c.self.view_is c.requires.exists
    c.index-to.ensures in
    omega (arith, b.0, c.self.invariant.blocks.few)

pub invariant_of-self : goal.invariant_of-self
invariant_of-self c =
    let i = c.self.inside in
    let some : 0 < i.free.blocks = omega (
      arith,
      c.requires.some,
      ap (λ (p : BlockChains). length (chain_at p 0).blocks) c.self.view_is,
      length-blocks_to i.tables.before.items i.free.last i.free.blocks,
    ) in
    let was : IsNext c.args.self.now c.self.inside.next.items = subst
    (λ (b : BlockChains). IsNext b c.self.inside.next.items) c.self.view_is c.self.invariant.next in
    let fronts : IsFronts c.args.self.now c.self.inside.fronts.items = subst
    (λ (b : BlockChains). IsFronts b c.self.inside.fronts.items) c.self.view_is c.self.invariant.front in
    let count : length (chain_at c.args.self.now (c.args.list + 1)).blocks ≡ c.index-to.result.now.blocks =
    ap (λ (h : Held). length h.blocks)
    (list_seen i.tables.before.items i.free i.lists.items c.args.self.now c.args.list c.index-to.result.now
    c.self.view_is c.requires.exists c.index-to.ensures)
    ∙ length-blocks_to i.tables.before.items c.index-to.result.now.last c.index-to.result.now.blocks in
    let known : IsFront (chain_at c.args.self.now (c.args.list + 1)).blocks c.index-2.result.now.first
    c.index-2.result.now.blocks = front_read c.args.self.now i.fronts.items c.args.list c.index-2.result.now fronts
    c.requires.exists c.index-2.ensures in
    let last : i.free.last ≡ last_of (chain_at c.args.self.now 0) = sym
    (ap (λ (p : BlockChains). last_of (chain_at p 0)) (sym c.self.view_is)
    ∙ last_of-held i.tables.before.items i.free some) in
    let n = chosen i.tables.before.items i.free i.lists.items c.args.self.now c.args.list c.index.result.now
    c.next_with-next.result i.free.last c.index-to.result.now i.next.items c.self.view_is c.requires.exists
    c.index-to.ensures c.index.ensures was
    c.next_with-next.ensures.room c.next_with-next.ensures.full in
    let g = taken i.tables.before.items i.tables.jump.items i.tables.place.items _ _ _ i.free _ i.lists.items
    c.args.self.now c.args.list c.index-to.result.now _ c.self.invariant.blocks c.self.view_is c.requires.exists
    c.index-to.ensures some
    c.longer.ensures.before c.longer.ensures.jump c.longer.ensures.place c.shorter-self-inside.ensures
    c.longer.ensures.chain in
    record {
      blocks = g.0;
      next = subst (λ (b : BlockChains). IsNext b (set i.next.items c.args.list c.next_with-next.result)) (sym g.1)
          (next-taken c.args.self.now i.next.items c.args.list i.free.last c.next_with-next.result was
          c.requires.exists c.requires.held last n.0 n.1);
      front = subst (λ (b : BlockChains). IsFronts b (set i.fronts.items c.args.list c.with_blocks-front.result))
          (sym g.1) (fronts-taken c.args.self.now i.fronts.items c.args.list i.free.last c.with_blocks-front.result
          fronts c.requires.exists last (c.with_blocks-front.ensures (chain_at c.args.self.now (c.args.list + 1)).blocks
          count known));
    }

pub returns : goal.returns
returns c =
    let i = c.self.inside in
    let some : 0 < i.free.blocks = omega (
      arith,
      c.requires.some,
      ap (λ (p : BlockChains). length (chain_at p 0).blocks) c.self.view_is,
      length-blocks_to i.tables.before.items i.free.last i.free.blocks,
    ) in
    (taken i.tables.before.items i.tables.jump.items i.tables.place.items _ _ _ i.free _ i.lists.items c.args.self.now
    c.args.list c.index-to.result.now _ c.self.invariant.blocks c.self.view_is c.requires.exists
    c.index-to.ensures some
    c.longer.ensures.before c.longer.ensures.jump c.longer.ensures.place c.shorter-self-inside.ensures
    c.longer.ensures.chain).1
