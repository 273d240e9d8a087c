use Rattle.code_pool.proofs.PoolLemmas.{list_emptied}
use Rattle.code_pool.proofs.pool.Pool.give_back.Goals as goal

pub returns-clause-lists : goal.returns-clause-lists
returns-clause-lists g c =
    list_emptied c.args.self.now c.cut.new.self c.give_blocks.new.self c.args.list c.blocks-2.result c.requires
    c.cut.ensures c.blocks-2.ensures.whole c.give_blocks.ensures
