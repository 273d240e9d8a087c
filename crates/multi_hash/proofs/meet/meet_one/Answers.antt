use Rattle.std.proofs.Common.{◌≡◌, length}
use Rattle.multi_hash.proofs.SeenLemmas.{seen_more}
use Rattle.multi_hash.proofs.meet.meet_one.Goals as goal

pub returns-clause-seen : goal.returns-clause-seen
returns-clause-seen c = rw (c.in_ok-push.ensures.items, c.insert.ensures.marked)
    (seen_more (length c.args.seen.now) c.args.met.now.items c.args.seen.now c.args.position c.requires.seen
    c.requires.place)
