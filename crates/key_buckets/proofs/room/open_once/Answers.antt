use Rattle.std.proofs.Common.{None, get_or, sym, ◌∙◌, arith}
use Rattle.std.proofs.lemmas.List.{get_or_read}
use Rattle.key_buckets.proofs.OpenedLemmas.{opened_same}
use Rattle.key_buckets.proofs.room.open_once.Goals as goal

pub returns-in-Some-clause-is : goal.returns-in-Some-clause-is
returns-in-Some-clause-is g c =
    opened_same c.args.others c.args.table.now (get_or c.args.keys.now c.args.at 0) c.in-Some.list c.requires.numbering
    (c.requires.opened c.args.at c.in-Some.list (sym (get_or_read c.args.opened.now.items c.args.at c.index.result.now
    (omega (arith, c.requires.exists, c.requires.whole)) c.index.ensures None) ∙ c.in-Some.is))
