use Rattle.std.proofs.Common.{refl, subst}
use Rattle.code_pool.specs.Chains.{IsApart}
use Rattle.code_pool.proofs.LinkLemmas.{list_seen, seen-apart}
use Rattle.code_pool.proofs.blocks.Blocks.len.Goals as goal

pub returns-clause-value : goal.returns-clause-value
returns-clause-value c =
    rw (list_seen c.self.inside.tables.before.items c.self.inside.free c.self.inside.lists.items c.args.self.now
    c.args.list c.index.result.now c.self.view_is c.requires c.index.ensures) refl

pub returns-clause-apart : goal.returns-clause-apart
returns-clause-apart c =
    let i = c.self.inside in
    subst IsApart c.self.view_is
    (seen-apart i.tables.before.items i.tables.jump.items i.tables.place.items _ c.self.invariant.blocks)
