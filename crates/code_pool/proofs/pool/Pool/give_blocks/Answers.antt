use Rattle.std.proofs.Common.{sym, ap, ◌∙◌}
use Rattle.code_pool.specs.Lists.{PoolLists, given}
use Rattle.code_pool.proofs.PoolLemmas.{given_none, given_more}
use Rattle.code_pool.proofs.pool.Pool.give_blocks.Goals as goal

pub loop-given-init : goal.loop-given-init
loop-given-init g c = sym (given_none c.args.self.now c.args.list)

pub loop-given-preserved : goal.loop-given-preserved
loop-given-preserved g c =
    c.give_block.ensures ∙ ap (λ (p : PoolLists). given p c.args.list 1) c.loop-given.invariant
    ∙ given_more c.args.self.now c.args.list c.loop-given.given c.requires.exists
