use Rattle.std.proofs.Common.{subst}
use Rattle.code_pool.specs.Chains.{IsApart}
use Rattle.code_pool.proofs.LinkLemmas.{seen-apart}
use Rattle.code_pool.proofs.blocks.Blocks.lists.Goals as goal

pub returns-clause-apart : goal.returns-clause-apart
returns-clause-apart c =
    let i = c.self.inside in
    subst IsApart c.self.view_is
    (seen-apart i.tables.before.items i.tables.jump.items i.tables.place.items _ c.self.invariant.blocks)
