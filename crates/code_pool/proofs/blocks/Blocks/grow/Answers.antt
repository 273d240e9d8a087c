use Rattle.std.proofs.Common.{◌-◌, ◌<◌, ◌≤◌, ◌≡◌, ◌+◌, ◌++◌, ◌∷◌, length, replicate, arith, ap, ◌∙◌, map, ℕ, List}
use Rattle.std.proofs.Common.{set, subst, sym}
use Rattle.std.proofs.lemmas.List.{length-append, length-replicate, length-set}
use Rattle.std.specs.List.{range_with_len}
use Rattle.code_pool.specs.Chains.{BlockChains, Held, IsFront, IsNext, chain_at, with_new}
use Rattle.code_pool.specs.Linked.{IsFronts, held_by}
use Rattle.code_pool.proofs.LinkLemmas.{partly-start, partly_bounds, list_inside, grown, grown-none, partly-whole}
use Rattle.code_pool.proofs.LinkLemmas.{seen, list_bounds, list_seen, length-blocks_to, with_numbers}
use Rattle.code_pool.proofs.NextLemmas.{chosen, next-grown}
use Rattle.code_pool.proofs.FrontLemmas.{front_read, fronts-grown}
use Rattle.code_pool.proofs.blocks.Blocks.grow.Goals as goal

pub loop-block-init : goal.loop-block-init
loop-block-init c =
    let t = c.self.inside.tables in
    let ends = c.self.inside.free ∷ c.self.inside.lists.items in
    let old = c.args.self.now in
    let all : length t.before.items ≡ old.all = ap (λ (q : BlockChains). q.all) c.self.view_is in
    let first : c.len-first.result ≡ length t.before.items = c.len-first.ensures ∙ t.before.ok.0 in
    let e = c.in_ok-extend.ensures in
    let size : length (t.before.items ++ replicate c.args.n 0) ≡ length t.before.items + c.args.n = omega
    (arith, length-append t.before.items (replicate c.args.n 0), length-replicate {A = ℕ} c.args.n 0) in
    let i = c.self.inside in
    let was : IsNext c.args.self.now c.self.inside.next.items = subst
    (λ (b : BlockChains). IsNext b c.self.inside.next.items) c.self.view_is c.self.invariant.next in
    let fronts : IsFronts c.args.self.now c.self.inside.fronts.items = subst
    (λ (b : BlockChains). IsFronts b c.self.inside.fronts.items) c.self.view_is c.self.invariant.front in
    let known : IsFront (chain_at old (c.args.list + 1)).blocks c.index-4.result.now.first
    c.index-4.result.now.blocks = front_read c.args.self.now i.fronts.items c.args.list c.index-4.result.now fronts
    c.requires.exists c.index-4.ensures in
    let count : length (chain_at old (c.args.list + 1)).blocks ≡ c.index-3.result.now.blocks =
    ap (λ (h : Held). length h.blocks)
    (list_seen t.before.items i.free i.lists.items old c.args.list c.index-3.result.now c.self.view_is
    c.requires.exists c.index-3.ensures)
    ∙ length-blocks_to t.before.items c.index-3.result.now.last c.index-3.result.now.blocks in
    let n = chosen t.before.items i.free i.lists.items old c.args.list c.index-2.result.now c.next_with-next.result
    c.len-first.result c.index.result.now i.next.items c.self.view_is c.requires.exists c.index.ensures
    c.index-2.ensures was
    c.next_with-next.ensures.room c.next_with-next.ensures.full in
    record {
      partly = rw (first, e.before, e.jump, e.place)
          (partly-start t.before.items t.jump.items t.place.items ends c.args.n c.self.invariant.blocks
          (omega (arith, c.requires.few)));
      size = ap (λ (xs : List ℕ). length xs) e.before ∙ size ∙ ap (λ (k : ℕ). k + c.args.n) all;
      seen = ap (λ (xs : List ℕ). map (held_by xs) ends) e.before
          ∙ grown-none t.before.items t.jump.items t.place.items ends old
          (c.args.list + 1) c.args.n c.len-first.result c.self.invariant.blocks c.self.view_is (first ∙ all);
      next = next-grown old c.self.inside.next.items c.args.list c.args.n c.len-first.result c.next_with-next.result
          was c.requires.exists c.requires.held (first ∙ all) n.0 n.1;
      fronts = fronts-grown old i.fronts.items c.args.list c.args.n c.with_blocks-front.result fronts c.requires.exists
          (subst (λ (k : ℕ). IsFront ((chain_at old (c.args.list + 1)).blocks ++ range_with_len k c.args.n)
          c.with_blocks-front.result.first c.with_blocks-front.result.blocks) (first ∙ all)
          (c.with_blocks-front.ensures (chain_at old (c.args.list + 1)).blocks count known));
    }

pub with_blocks-front-requires : goal.with_blocks-front-requires
with_blocks-front-requires c =
    let i = c.self.inside in
    let b = list_bounds i.tables.before.items i.tables.jump.items i.tables.place.items i.free i.lists.items
    c.args.self.now c.args.list c.index-3.result.now c.self.invariant.blocks c.self.view_is c.requires.exists
    c.index-3.ensures in
    omega (arith, b.0, c.requires.few, ap (λ (q : BlockChains). q.all) c.self.view_is)

pub longer-requires-clause-few : goal.longer-requires-clause-few
longer-requires-clause-few c =
    let i = c.loop-block.self-inside in
    let k = c.loop-block.invariant.partly in
    let inside = list_inside i.tables.before.items i.free i.lists.items c.args.self.now.chains c.args.list _
    c.loop-block.invariant.seen c.requires.exists in
    let b = partly_bounds c.loop-block.block i.tables.before.items i.tables.jump.items i.tables.place.items i.free
    i.lists.items c.args.list c.index-to.result.now k inside c.index-to.ensures in
    omega (
      arith,
      b.0,
      c.loop-block-test.true,
      c.requires.few,
      c.len-first.ensures,
      c.self.inside.tables.before.ok.0,
      ap (λ (q : BlockChains). q.all) c.self.view_is,
    )

pub longer-requires-clause-end : goal.longer-requires-clause-end
longer-requires-clause-end c =
    let i = c.loop-block.self-inside in
    let inside = list_inside i.tables.before.items i.free i.lists.items c.args.self.now.chains c.args.list _
    c.loop-block.invariant.seen c.requires.exists in
    (partly_bounds c.loop-block.block i.tables.before.items i.tables.jump.items i.tables.place.items i.free
    i.lists.items c.args.list c.index-to.result.now c.loop-block.invariant.partly inside c.index-to.ensures).1

pub loop-block-preserved : goal.loop-block-preserved
loop-block-preserved c =
    let i = c.loop-block.self-inside in
    let v = c.loop-block.invariant in
    let old = c.args.self.now in
    let first : c.len-first.result ≡ old.all = c.len-first.ensures ∙ c.self.inside.tables.before.ok.0
    ∙ ap (λ (q : BlockChains). q.all) c.self.view_is in
    let more : c.loop-block.block < length i.tables.before.items = omega (arith, v.size, c.loop-block-test.true) in
    let low : old.all ≤ c.loop-block.block = omega (arith, c.loop-block.auto.block) in
    let e = c.longer.ensures in
    let g = grown c.loop-block.block old.all i.tables.before.items i.tables.jump.items i.tables.place.items _ _ _
    i.free i.lists.items old.chains c.args.list c.index-to.result.now _ (chain_at old (c.args.list + 1))
    v.partly v.seen c.requires.exists c.index-to.ensures more low e.before e.jump e.place e.chain in
    record {
      partly = g.0;
      size = ap (λ (xs : List ℕ). length xs) e.before ∙ length-set i.tables.before.items c.loop-block.block _ ∙ v.size;
      seen = g.1;
      next = v.next;
      fronts = v.fronts;
    }

pub invariant_of-self-in-loop-block : goal.invariant_of-self-in-loop-block
invariant_of-self-in-loop-block c =
    let i = c.loop-block.self-inside in
    let v = c.loop-block.invariant in
    let old = c.args.self.now in
    let first : c.len-first.result ≡ old.all = c.len-first.ensures ∙ c.self.inside.tables.before.ok.0
    ∙ ap (λ (q : BlockChains). q.all) c.self.view_is in
    let end : c.loop-block.block ≡ old.all + c.args.n = omega (
      arith,
      c.loop-block-test.false,
      c.loop-block.auto.block-end,
    ) in
    let more : c.loop-block.block - old.all ≡ c.args.n = omega arith in
    let whole : seen i.tables.before.items (i.free ∷ i.lists.items) ≡ with_new old (c.args.list + 1) c.args.n =
    ap (λ (n : ℕ). record { all = n; chains = map (held_by i.tables.before.items) (i.free ∷ i.lists.items) }) v.size
    ∙ ap (λ (cs : List Held). record { all = old.all + c.args.n; chains = cs }) (v.seen
    ∙ ap (λ (n : ℕ). set old.chains (c.args.list + 1) (with_numbers (chain_at old (c.args.list + 1)) old.all n))
    more) in
    record {
      blocks = partly-whole c.loop-block.block i.tables.before.items i.tables.jump.items i.tables.place.items
          (i.free ∷ i.lists.items) v.partly (omega (arith, v.size));
      next = subst (λ (b : BlockChains). IsNext b i.next.items) (sym whole) v.next;
      front = subst (λ (b : BlockChains). IsFronts b i.fronts.items) (sym whole) v.fronts;
    }
