use Rattle.std.proofs.Common.{◌≡◌, ◌+◌, ◌<◌, ◌∙◌, length, arith, ap, set, subst, sym}
use Rattle.code_pool.specs.Chains.{BlockChains, Held, IsFront, IsNext, chain_at}
use Rattle.code_pool.specs.Linked.{IsFronts}
use Rattle.code_pool.proofs.LinkLemmas.{given, list_bounds, list_seen, free_bounds, length-blocks_to}
use Rattle.code_pool.proofs.NextLemmas.{next-given}
use Rattle.code_pool.proofs.FrontLemmas.{front_read, fronts-given}
use Rattle.code_pool.proofs.blocks.Blocks.give.Goals as goal

pub shorter-requires-clause-some : goal.shorter-requires-clause-some
shorter-requires-clause-some c =
    let i = c.self.inside in
    let e = c.index-from.result.now in
    omega (
      arith,
      c.requires.some,
      ap (λ (h : Held). length h.blocks)
          (list_seen i.tables.before.items i.free i.lists.items c.args.self.now c.args.list e c.self.view_is
          c.requires.exists c.index-from.ensures),
      length-blocks_to i.tables.before.items e.last e.blocks,
    )

pub shorter-requires-clause-last : goal.shorter-requires-clause-last
shorter-requires-clause-last c =
    let i = c.self.inside in
    let e = c.index-from.result.now in
    (list_bounds i.tables.before.items i.tables.jump.items i.tables.place.items i.free i.lists.items c.args.self.now
    c.args.list e c.self.invariant.blocks c.self.view_is c.requires.exists c.index-from.ensures).1
    (omega (
      arith,
      c.requires.some,
      ap (λ (h : Held). length h.blocks)
          (list_seen i.tables.before.items i.free i.lists.items c.args.self.now c.args.list e c.self.view_is
          c.requires.exists c.index-from.ensures),
      length-blocks_to i.tables.before.items e.last e.blocks,
    ))

pub longer-self-inside-requires-clause-block : goal.longer-self-inside-requires-clause-block
longer-self-inside-requires-clause-block c =
    let i = c.self.inside in
    let e = c.index-from.result.now in
    (list_bounds i.tables.before.items i.tables.jump.items i.tables.place.items i.free i.lists.items c.args.self.now
    c.args.list e c.self.invariant.blocks c.self.view_is c.requires.exists c.index-from.ensures).1
    (omega (
      arith,
      c.requires.some,
      ap (λ (h : Held). length h.blocks)
          (list_seen i.tables.before.items i.free i.lists.items c.args.self.now c.args.list e c.self.view_is
          c.requires.exists c.index-from.ensures),
      length-blocks_to i.tables.before.items e.last e.blocks,
    ))

pub longer-self-inside-requires-clause-end : goal.longer-self-inside-requires-clause-end
longer-self-inside-requires-clause-end c =
    let i = c.self.inside in
    (free_bounds i.tables.before.items i.tables.jump.items i.tables.place.items i.free i.lists.items
    c.self.invariant.blocks).2

pub invariant_of-self : goal.invariant_of-self
invariant_of-self c =
    let i = c.self.inside in
    let e = c.index-from.result.now in
    let some : 0 < e.blocks = omega (
      arith,
      c.requires.some,
      ap (λ (h : Held). length h.blocks)
          (list_seen i.tables.before.items i.free i.lists.items c.args.self.now c.args.list e c.self.view_is
          c.requires.exists c.index-from.ensures),
      length-blocks_to i.tables.before.items e.last e.blocks,
    ) in
    let was : IsNext c.args.self.now c.self.inside.next.items = subst
    (λ (b : BlockChains). IsNext b c.self.inside.next.items) c.self.view_is c.self.invariant.next in
    let fronts : IsFronts c.args.self.now c.self.inside.fronts.items = subst
    (λ (b : BlockChains). IsFronts b c.self.inside.fronts.items) c.self.view_is c.self.invariant.front in
    let count : length (chain_at c.args.self.now (c.args.list + 1)).blocks ≡ e.blocks =
    ap (λ (h : Held). length h.blocks)
    (list_seen i.tables.before.items i.free i.lists.items c.args.self.now c.args.list e
    c.self.view_is c.requires.exists c.index-from.ensures)
    ∙ length-blocks_to i.tables.before.items e.last e.blocks in
    let known : IsFront (chain_at c.args.self.now (c.args.list + 1)).blocks c.index.result.now.first
    c.index.result.now.blocks = front_read c.args.self.now i.fronts.items c.args.list c.index.result.now fronts
    c.requires.exists c.index.ensures in
    let g = given i.tables.before.items i.tables.jump.items i.tables.place.items _ _ _ i.free _ i.lists.items
    c.args.self.now c.args.list e _ c.self.invariant.blocks c.self.view_is c.requires.exists c.index-from.ensures
    some
    c.longer-self-inside.ensures.before c.longer-self-inside.ensures.jump c.longer-self-inside.ensures.place
    c.longer-self-inside.ensures.chain c.shorter.ensures in
    record {
      blocks = g.0;
      next = subst (λ (b : BlockChains). IsNext b c.self.inside.next.items) (sym g.1)
          (next-given c.args.self.now i.next.items c.args.list was c.requires.exists);
      front = subst (λ (b : BlockChains). IsFronts b (set i.fronts.items c.args.list c.without_last-front.result))
          (sym g.1) (fronts-given c.args.self.now i.fronts.items c.args.list c.without_last-front.result fronts
          c.requires.exists (c.without_last-front.ensures (chain_at c.args.self.now (c.args.list + 1)).blocks count
          known));
    }

pub returns : goal.returns
returns c =
    let i = c.self.inside in
    let e = c.index-from.result.now in
    let some : 0 < e.blocks = omega (
      arith,
      c.requires.some,
      ap (λ (h : Held). length h.blocks)
          (list_seen i.tables.before.items i.free i.lists.items c.args.self.now c.args.list e c.self.view_is
          c.requires.exists c.index-from.ensures),
      length-blocks_to i.tables.before.items e.last e.blocks,
    ) in
    (given i.tables.before.items i.tables.jump.items i.tables.place.items _ _ _ i.free _ i.lists.items c.args.self.now
    c.args.list e _ c.self.invariant.blocks c.self.view_is c.requires.exists c.index-from.ensures some
    c.longer-self-inside.ensures.before c.longer-self-inside.ensures.jump c.longer-self-inside.ensures.place
    c.longer-self-inside.ensures.chain c.shorter.ensures).1

pub without_last-front-requires : goal.without_last-front-requires
without_last-front-requires c =
    let i = c.self.inside in
    let e = c.index-from.result.now in
    omega (
      arith,
      c.requires.some,
      ap (λ (h : Held). length h.blocks)
          (list_seen i.tables.before.items i.free i.lists.items c.args.self.now c.args.list e c.self.view_is
          c.requires.exists c.index-from.ensures),
      length-blocks_to i.tables.before.items e.last e.blocks,
    )
