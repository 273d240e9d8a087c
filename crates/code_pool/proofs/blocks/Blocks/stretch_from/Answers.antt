use Rattle.std.proofs.Common.{arith}
use Rattle.code_pool.proofs.LinkLemmas.{tied-stretch}
use Rattle.code_pool.proofs.blocks.Blocks.stretch_from.Goals as goal

pub returns-clause-beside : goal.returns-clause-beside
returns-clause-beside c =
    let b = c.side_by_side-beside in
    tied-stretch _ c.args.from b.result.count b.result.first _ c.min-2.result b.ensures.tied b.ensures.first
    (omega arith) (omega (arith, c.min.ensures, c.min-2.ensures))
