use Rattle.multi_hash.proofs.room.store.Goals as goal

pub open_all-requires-clause-maps : goal.open_all-requires-clause-maps
open_all-requires-clause-maps g c = (c.args.storage.now.codes, c.requires.maps)

pub returns-clause-maps : goal.returns-clause-maps
returns-clause-maps g c = c.in_ok-room.ensures.maps c.args.storage.now.codes c.requires.maps
