use Rattle.multi_hash.proofs.MarkLemmas.{marks_none}
use Rattle.multi_hash.proofs.seen.Seen.new.Goals as goal

pub returns : goal.returns
returns c = rw (c.in_ok-places.ensures) (marks_none c.args.count c.div_ceil-runs.result c.in_ok-pages.pages.items)
