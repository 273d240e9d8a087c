use Rattle.std.proofs.Common.{arith}
use Rattle.code_pool.proofs.PoolLemmas.{list_blocks_of}
use Rattle.code_pool.proofs.pool.Pool.blocks.Goals as goal

pub returns-clause-value : goal.returns-clause-value
returns-clause-value g c =
    let e = list_blocks_of c.self.inside.rows c.self.inside.blocks c.args.self.now c.args.list c.self.invariant
    c.self.view_is c.requires in
    omega (arith, c.count.ensures)

pub returns-clause-whole : goal.returns-clause-whole
returns-clause-whole g c =
    let e = list_blocks_of c.self.inside.rows c.self.inside.blocks c.args.self.now c.args.list c.self.invariant
    c.self.view_is c.requires in
    omega (arith, c.count.ensures)
