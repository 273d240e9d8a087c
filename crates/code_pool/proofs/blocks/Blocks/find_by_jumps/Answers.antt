use Rattle.std.proofs.Common.{arith}
use Rattle.std.proofs.lemmas.List.{get_or_read}
use Rattle.code_pool.proofs.LinkLemmas.{found-last, found-inside, found-over, found-before}
use Rattle.code_pool.proofs.blocks.Blocks.find_by_jumps.Goals as goal

pub loop-tables-init : goal.loop-tables-init
loop-tables-init c =
    let t = c.self.inside.tables in
    found-last t.before.items t.jump.items t.place.items c.self.inside.free c.self.inside.lists.items c.args.self.now
    c.args.list c.args.at c.index.result.now
    c.self.invariant.blocks c.self.view_is c.requires.exists c.index.ensures c.requires.within

pub index-requires-in-loop-tables : goal.index-requires-in-loop-tables
index-requires-in-loop-tables c =
    let t = c.self.inside.tables in
    let i = found-inside t.before.items t.jump.items t.place.items c.self.inside.free c.self.inside.lists.items
    c.args.self.now c.args.list c.args.at c.loop-tables.block c.self.invariant.blocks c.self.view_is
    c.requires.exists c.loop-tables.invariant in
    omega (arith, i.2, t.place.ok.0)

pub index-over-requires : goal.index-over-requires
index-over-requires c =
    let t = c.self.inside.tables in
    let i = found-inside t.before.items t.jump.items t.place.items c.self.inside.free c.self.inside.lists.items
    c.args.self.now c.args.list c.args.at c.loop-tables.block c.self.invariant.blocks c.self.view_is
    c.requires.exists c.loop-tables.invariant in
    omega (arith, i.1, t.jump.ok.0)

pub index-requires-in-loop-tables-2 : goal.index-requires-in-loop-tables-2
index-requires-in-loop-tables-2 c =
    let t = c.self.inside.tables in
    let o = found-over t.before.items t.jump.items t.place.items c.self.inside.free c.self.inside.lists.items
    c.args.self.now c.args.list c.args.at c.loop-tables.block c.index-over.result.now
    c.index-in-loop-tables.result.now
    c.self.invariant.blocks c.self.view_is c.requires.exists c.loop-tables.invariant c.index-over.ensures
    c.index-in-loop-tables.ensures c.loop-tables-test.true in
    omega (arith, o.0, t.place.ok.0)

pub loop-tables-smaller-then-index-at : goal.loop-tables-smaller-then-index-at
loop-tables-smaller-then-index-at c =
    let t = c.self.inside.tables in
    (found-over t.before.items t.jump.items t.place.items c.self.inside.free c.self.inside.lists.items c.args.self.now
    c.args.list c.args.at c.loop-tables.block c.index-over.result.now c.index-in-loop-tables.result.now
    c.self.invariant.blocks c.self.view_is c.requires.exists c.loop-tables.invariant c.index-over.ensures
    c.index-in-loop-tables.ensures c.loop-tables-test.true).1

pub loop-tables-preserved-then-index-at : goal.loop-tables-preserved-then-index-at
loop-tables-preserved-then-index-at c =
    let t = c.self.inside.tables in
    let o = found-over t.before.items t.jump.items t.place.items c.self.inside.free c.self.inside.lists.items
    c.args.self.now c.args.list c.args.at c.loop-tables.block c.index-over.result.now
    c.index-in-loop-tables.result.now
    c.self.invariant.blocks c.self.view_is c.requires.exists c.loop-tables.invariant c.index-over.ensures
    c.index-in-loop-tables.ensures c.loop-tables-test.true in
    o.2 (omega (
      arith,
      get_or_read t.place.items c.index-over.result.now c.index-in-loop-tables-2.result.now o.0
          c.index-in-loop-tables-2.ensures 0,
      c.if-index-at.true,
    ))

pub loop-tables-smaller : goal.loop-tables-smaller
loop-tables-smaller c =
    let t = c.self.inside.tables in
    (found-before t.before.items t.jump.items t.place.items c.self.inside.free c.self.inside.lists.items
    c.args.self.now c.args.list c.args.at c.loop-tables.block c.index-else-index-at.result.now
    c.index-in-loop-tables.result.now
    c.self.invariant.blocks c.self.view_is c.requires.exists c.loop-tables.invariant c.index-else-index-at.ensures
    c.index-in-loop-tables.ensures c.loop-tables-test.true).0

pub loop-tables-preserved : goal.loop-tables-preserved
loop-tables-preserved c =
    let t = c.self.inside.tables in
    (found-before t.before.items t.jump.items t.place.items c.self.inside.free c.self.inside.lists.items
    c.args.self.now c.args.list c.args.at c.loop-tables.block c.index-else-index-at.result.now
    c.index-in-loop-tables.result.now
    c.self.invariant.blocks c.self.view_is c.requires.exists c.loop-tables.invariant c.index-else-index-at.ensures
    c.index-in-loop-tables.ensures c.loop-tables-test.true).1
