use Rattle.std.proofs.Common.{◌+◌, ap, sym}
use Rattle.key_buckets.proofs.OpenedLemmas.{opened_new, opened_same}
use Rattle.key_buckets.proofs.room.open_bucket.Goals as goal

pub returns-in-Some-clause-opened : goal.returns-in-Some-clause-opened
returns-in-Some-clause-opened g c =
    opened_same c.args.others c.args.table.now c.args.key c.in-Some.list c.requires.numbering (sym c.in-Some.ensures)

pub returns-clause-opened : goal.returns-clause-opened
returns-clause-opened g c =
    opened_new c.args.others c.args.table.now c.push.new.self c.args.key (c.args.others + c.len.result)
    c.requires.numbering (sym c.in_default.ensures) (ap (λ n. c.args.others + n) c.len.ensures.value)
    c.in_ok-push.ensures.lists c.in_ok-push.ensures.ok
