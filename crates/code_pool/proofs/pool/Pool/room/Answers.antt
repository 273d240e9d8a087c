use Rattle.std.proofs.Common.{ap, arith}
use Rattle.code_pool.specs.Lists.{PoolLists}
use Rattle.code_pool.proofs.PoolLemmas.{pool_used}
use Rattle.code_pool.proofs.pool.Pool.room.Goals as goal

pub overflow_sub-result : goal.overflow_sub-result
overflow_sub-result g c =
    let u = pool_used c.self.inside.rows c.self.inside.blocks c.args.self.now c.self.invariant c.self.view_is in
    omega (
      arith,
      c.all.ensures.value,
      c.all.ensures.total,
      c.free-free.ensures,
      u,
      ap (λ (q : PoolLists). q.free) c.self.view_is,
    )

pub returns-clause-used : goal.returns-clause-used
returns-clause-used g c =
    let u = pool_used c.self.inside.rows c.self.inside.blocks c.args.self.now c.self.invariant c.self.view_is in
    omega (
      arith,
      c.all.ensures.value,
      c.all.ensures.total,
      c.free-free.ensures,
      u,
      ap (λ (q : PoolLists). q.free) c.self.view_is,
    )
