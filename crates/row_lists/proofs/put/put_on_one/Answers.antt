use Rattle.row_lists.proofs.PutLemmas.{rows_run}
use Rattle.row_lists.proofs.put.put_on_one.Goals as goal

pub returns-clause-rows : goal.returns-clause-rows
returns-clause-rows g c = rows_run c.args.lists.now c.push_run.new.self c.args.list c.args.size c.args.labels.now
    c.args.codes.now c.requires.exists c.requires.size c.push_run.ensures
