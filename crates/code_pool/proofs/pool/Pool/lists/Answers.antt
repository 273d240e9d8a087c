use Rattle.code_pool.proofs.PoolLemmas.{rows_legal}
use Rattle.code_pool.proofs.pool.Pool.lists.Goals as goal

pub returns-clause-rows : goal.returns-clause-rows
returns-clause-rows g c = λ i. rows_legal c.self.inside.rows c.self.inside.blocks c.args.self.now i c.self.invariant
    c.lists.ensures.apart c.len-rows.ensures.rows c.self.view_is
