use Rattle.std.proofs.Common.{sym}
use Rattle.code_pool.proofs.LinkLemmas.{length-blocks_to, list_seen}
use Rattle.code_pool.proofs.blocks.Blocks.count.Goals as goal

pub returns : goal.returns
returns c =
    let e = c.index.result.now in
    rw (list_seen c.self.inside.tables.before.items c.self.inside.free c.self.inside.lists.items c.args.self.now
    c.args.list e c.self.view_is c.requires c.index.ensures)
    (sym (length-blocks_to c.self.inside.tables.before.items e.last e.blocks))
