use Rattle.file_parts.proofs.StoreLemmas.{and_then}
use Rattle.index_files.proofs.writing.ivf.put_list.Goals as goal

pub returns-clause-ok : goal.returns-clause-ok
returns-clause-ok g c = and_then _ _ _ _ _ c.in_ok-put_codes.ensures.ok c.in_ok-put_labels.ensures.ok
