use Rattle.index_files.proofs.IvfWriting.{mapped_all}
use Rattle.index_files.proofs.writing.ivf.mapped_count.Goals as goal

pub returns-in-true : goal.returns-in-true
returns-in-true c =
    mapped_all c.args.ivf.now c.direct.result c.count.result c.direct.ensures c.in-true.is c.count.ensures
