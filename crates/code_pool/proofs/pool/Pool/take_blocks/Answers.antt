use Rattle.std.proofs.Common.{sym, ap, ◌∙◌}
use Rattle.code_pool.specs.Lists.{PoolLists, taken}
use Rattle.code_pool.proofs.PoolLemmas.{taken_none, taken_more}
use Rattle.code_pool.proofs.pool.Pool.take_blocks.Goals as goal

pub loop-taken-init : goal.loop-taken-init
loop-taken-init g c = sym (taken_none c.args.self.now c.args.list)

pub loop-taken-preserved : goal.loop-taken-preserved
loop-taken-preserved g c =
    c.take_block.ensures ∙ ap (λ (p : PoolLists). taken p c.args.list 1) c.loop-taken.invariant
    ∙ taken_more c.args.self.now c.args.list c.loop-taken.taken c.requires.exists
