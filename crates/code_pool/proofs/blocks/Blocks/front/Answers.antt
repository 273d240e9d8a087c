use Rattle.std.proofs.Common.{◌+◌, ap, subst, arith}
use Rattle.code_pool.specs.Chains.{BlockChains, IsApart}
use Rattle.code_pool.specs.Linked.{IsFronts}
use Rattle.code_pool.proofs.FrontLemmas.{front_low, front_read}
use Rattle.code_pool.proofs.LinkLemmas.{list_short, seen-apart}
use Rattle.code_pool.proofs.blocks.Blocks.front.Goals as goal

pub returns-clause-held : goal.returns-clause-held
returns-clause-held c =
    let i = c.self.inside in
    let t = c.self.inside.tables in
    omega (
      arith,
      list_short t.before.items t.jump.items t.place.items i.free i.lists.items c.args.self.now
          c.args.list c.self.invariant.blocks c.self.view_is c.requires,
    )

pub returns-clause-apart : goal.returns-clause-apart
returns-clause-apart c =
    let t = c.self.inside.tables in
    subst IsApart c.self.view_is (seen-apart t.before.items t.jump.items t.place.items _ c.self.invariant.blocks)

pub returns-clause-few : goal.returns-clause-few
returns-clause-few c =
    let i = c.self.inside in
    let t = c.self.inside.tables in
    let apart : IsApart c.args.self.now = subst IsApart c.self.view_is
    (seen-apart t.before.items t.jump.items t.place.items _ c.self.invariant.blocks) in
    let fronts : IsFronts c.args.self.now c.self.inside.fronts.items = subst
    (λ (b : BlockChains). IsFronts b c.self.inside.fronts.items) c.self.view_is c.self.invariant.front in
    λ some. front_low c.args.self.now (c.args.list + 1) c.index.result.now.first c.index.result.now.blocks some apart
    (omega (arith, ap (λ (b : BlockChains). b.all) c.self.view_is, c.self.invariant.blocks.few))
    (front_read c.args.self.now i.fronts.items c.args.list c.index.result.now fronts c.requires c.index.ensures)
