use Rattle.hash_index.proofs.BucketLemmas.{roomed_opened}
use Rattle.hash_index.proofs.room.make_room_under.Goals as goal

pub returns-clause-roomed : goal.returns-clause-roomed
returns-clause-roomed g c =
    roomed_opened c.args.table.now c.list_under.new.table c.args.key c.args.n c.in_ok-list.list c.requires.some
    c.requires.numbering c.in_ok-list.ensures.opened
