use Rattle.std.proofs.Common.{rules, ◌≡◌, ◌+◌, true, false, nat_le}
use Rattle.bcodes.specs.Ranges.{load_limit}
use Rattle.bcodes.specs.Value.{count_of}
use Rattle.any_index.specs.Specs.{held_of}
use Rattle.faissb_core.specs.Session.Room.{load_with}
use Rattle.faissb_core.proofs.SessionLemmas.RoomLemmas.{count_fits, lacks_room, has_room}
use Rattle.faissb_core.proofs.session.adding.check_room.Goals as goal

pub overflow_add-rows : goal.overflow_add-rows
overflow_add-rows c = rw c.count.ensures
    (count_fits c.args.index.now c.args.more c.dim-dim.ensures.legal c.requires)

pub returns-then-not-is_light-clause-err : goal.returns-then-not-is_light-clause-err
returns-then-not-is_light-clause-err c = λ labels added same long.
    let heavy : nat_le (load_with c.args.index.now (count_of c.args.index.now + c.args.more) (held_of c.args.index.now))
    load_limit ≡ false = search rules in
    lacks_room c.args.index.now c.args.more labels added (search rules) heavy same long

pub returns-clause-ok : goal.returns-clause-ok
returns-clause-ok c =
    let light : nat_le (load_with c.args.index.now (count_of c.args.index.now + c.args.more) (held_of c.args.index.now))
    load_limit ≡ true = search rules in
    has_room c.args.index.now c.args.more (search rules) light
