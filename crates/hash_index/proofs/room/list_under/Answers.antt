use Rattle.std.proofs.Common.{length, sym, ◌∙◌, zero-add}
use Rattle.key_buckets.proofs.OpenedLemmas.{opened_new, opened_same}
use Rattle.hash_index.proofs.BucketLemmas.{numbering_alone}
use Rattle.hash_index.proofs.room.list_under.Goals as goal

pub returns-in-Some-clause-opened : goal.returns-in-Some-clause-opened
returns-in-Some-clause-opened g c =
    opened_same 0 c.args.table.now c.args.key c.in-Some.list
    (numbering_alone c.args.table.now c.requires.numbering) (sym c.in-Some.ensures)

pub returns-clause-opened : goal.returns-clause-opened
returns-clause-opened g c =
    opened_new 0 c.args.table.now c.push.new.self c.args.key c.len-list.result
    (numbering_alone c.args.table.now c.requires.numbering) (sym c.in_default.ensures)
    (c.len-list.ensures.value ∙ sym (zero-add (length c.args.table.now))) c.in_ok-push.ensures.lists
    c.in_ok-push.ensures.ok
