use Rattle.std.proofs.Common.{◌+◌, refl, arith}
use Rattle.code_pool.proofs.PoolLemmas.{list_cut, list_len, pool_kept}
use Rattle.code_pool.proofs.pool.Pool.cut.Goals as goal

pub invariant_of-self : goal.invariant_of-self
invariant_of-self g c =
    let r = c.self.inside.rows in
    let b = c.self.inside.blocks in
    let lens = c.self.invariant.lens (c.args.list + 1) in
    rw c.set_len.ensures
    (pool_kept r r b (c.args.list + 1) _ c.self.invariant refl (omega arith) c.self.invariant.most
    (omega (arith, c.requires.within, list_len r b c.args.self.now c.args.list c.self.view_is c.requires.exists))
    (λ q. absurd (omega arith)))

pub returns : goal.returns
returns g c =
    rw c.set_len.ensures
    (list_cut c.self.inside.rows c.self.inside.blocks c.args.self.now c.args.list c.args.len c.self.invariant
    c.self.view_is c.requires.exists c.requires.within)
