use Rattle.code_pool.proofs.PoolLemmas.{pool_taken}
use Rattle.code_pool.proofs.pool.Pool.take_block.Goals as goal

pub invariant_of-self : goal.invariant_of-self
invariant_of-self g c =
    rw c.take.ensures (pool_taken c.self.inside.rows c.self.inside.blocks c.args.self.now c.args.list c.self.invariant
    c.self.view_is c.requires.exists c.requires.some).0

pub returns : goal.returns
returns g c =
    rw c.take.ensures (pool_taken c.self.inside.rows c.self.inside.blocks c.args.self.now c.args.list c.self.invariant
    c.self.view_is c.requires.exists c.requires.some).1
