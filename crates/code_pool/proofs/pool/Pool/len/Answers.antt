use Rattle.std.proofs.Common.{sym, ◌∙◌}
use Rattle.code_pool.proofs.PoolLemmas.{list_len, rows_legal}
use Rattle.code_pool.proofs.pool.Pool.len.Goals as goal

pub returns-clause-value : goal.returns-clause-value
returns-clause-value g c = c.len.ensures.value
    ∙ sym (list_len c.self.inside.rows c.self.inside.blocks c.args.self.now c.args.list c.self.view_is c.requires)

pub returns-clause-rows : goal.returns-clause-rows
returns-clause-rows g c = rows_legal c.self.inside.rows c.self.inside.blocks c.args.self.now c.args.list
    c.self.invariant c.len.ensures.apart c.len-rows.ensures.rows c.self.view_is
