use Rattle.std.proofs.Common.{◌+◌, ◌<◌, ◌≤◌, length, get_or, refl, ◌∙◌, arith}
use Rattle.key_buckets.specs.Room.{lists_most}
use Rattle.key_buckets.proofs.RoomLemmas.{IsWider, roomed_more, undo_opened}
use Rattle.key_buckets.proofs.room.open_buckets.Goals as goal

pub loop-key-preserved : goal.loop-key-preserved
loop-key-preserved g c =
    let list = c.in_ok-list.list in
    let here : c.loop-key.key-index < length c.args.keys.now = omega arith in
    let wide : IsWider c.loop-key.pool c.open_bucket.new.pool (c.args.others + length c.loop-key.table)
    (c.args.others + length c.open_bucket.new.table) = record {
      same = c.in_ok-list.ensures.same;
      size = c.in_ok-list.ensures.size;
      keys_most = c.in_ok-list.ensures.used;
      least = c.in_ok-list.ensures.lists_least;
      most = c.in_ok-list.ensures.lists_most;
    } in
    let few : c.args.others + length c.loop-key.table + 1 ≤ lists_most = omega (
      arith,
      c.loop-key.invariant.roomed.most,
      here,
      c.requires.few,
    ) in
    rw c.in_ok-push.ensures.items (record {
      roomed = roomed_more c.args.others c.args.table.now c.loop-key.table c.open_bucket.new.table
          c.args.keys.now c.loop-key.key-index c.loop-key.numbers.items (get_or c.args.keys.now c.loop-key.key-index 0)
          list here c.loop-key.invariant.undo.least c.loop-key.invariant.roomed
          c.in_ok-list.ensures.opened refl;
      same = λ n. c.in_ok-list.ensures.same n ∙ c.loop-key.invariant.same n;
      undo = undo_opened c.args.others c.args.table.now c.loop-key.table c.open_bucket.new.table c.args.pool.now
          c.loop-key.pool c.open_bucket.new.pool (get_or c.args.keys.now c.loop-key.key-index 0) list
          c.loop-key.invariant.undo c.in_ok-list.ensures.opened wide few;
    })
