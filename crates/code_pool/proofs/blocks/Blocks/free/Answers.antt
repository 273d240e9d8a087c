use Rattle.std.proofs.Common.{sym}
use Rattle.code_pool.proofs.LinkLemmas.{length-blocks_to}
use Rattle.code_pool.proofs.blocks.Blocks.free.Goals as goal

pub returns : goal.returns
returns c = rw (← c.self.view_is)
    (sym (length-blocks_to c.self.inside.tables.before.items c.self.inside.free.last c.self.inside.free.blocks))
