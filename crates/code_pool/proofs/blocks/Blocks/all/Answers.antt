use Rattle.std.proofs.Common.{subst, ◌≡◌, sum_by, ◌∙◌, ◌∷◌}
use Rattle.code_pool.specs.Chains.{BlockChains, IsApart, count_of}
use Rattle.code_pool.proofs.LinkLemmas.{seen-apart, seen-total}
use Rattle.code_pool.proofs.blocks.Blocks.all.Goals as goal

pub returns-clause-apart : goal.returns-clause-apart
returns-clause-apart c =
    let i = c.self.inside in
    subst IsApart c.self.view_is
    (seen-apart i.tables.before.items i.tables.jump.items i.tables.place.items _ c.self.invariant.blocks)

pub returns-clause-total : goal.returns-clause-total
returns-clause-total c =
    let i = c.self.inside in
    subst (λ (b : BlockChains). sum_by count_of b.chains ≡ b.all) c.self.view_is
    (seen-total i.tables.before.items (i.free ∷ i.lists.items) ∙ c.self.invariant.blocks.total)
