use Rattle.std.proofs.Common.{◌≡◌, ◌+◌, ◌<◌, ◌≤◌, ℕ, List, length, get_or, sym, ◌∙◌, arith}
use Rattle.std.proofs.lemmas.List.{get_or-map, length-map}
use Rattle.key_buckets.specs.Room.{keys_named, lists_most}
use Rattle.key_buckets.proofs.RoomLemmas.{IsWider, roomed_more, undo_opened}
use Rattle.key_buckets.proofs.room.open_named.Goals as goal

pub loop-number-preserved : goal.loop-number-preserved
loop-number-preserved g c =
    let list = c.in_ok-list.list in
    let ns : List ℕ = c.args.numbers.now in
    let i : ℕ = c.loop-number.number-index in
    let keys : List ℕ = c.args.keys.now in
    let named : List ℕ = keys_named keys ns in
    let here : i < length ns = omega arith in
    let many : length named ≡ length ns = length-map ns (λ n. get_or keys n 0) in
    let key : get_or keys (get_or ns i 0) 0 ≡ get_or named i 0 = sym (get_or-map (λ n. get_or keys n 0) ns i 0 0 here) in
    let wide : IsWider c.loop-number.pool c.open_once.new.pool (c.args.others + length c.loop-number.table)
    (c.args.others + length c.open_once.new.table) = record {
      same = c.in_ok-list.ensures.same;
      size = c.in_ok-list.ensures.size;
      keys_most = c.in_ok-list.ensures.used;
      least = c.in_ok-list.ensures.lists_least;
      most = c.in_ok-list.ensures.lists_most;
    } in
    let few : c.args.others + length c.loop-number.table + 1 ≤ lists_most = omega (
      arith,
      c.loop-number.invariant.roomed.most,
      here,
      c.requires.few,
    ) in
    rw c.in_ok-push.ensures.items (record {
      roomed = roomed_more c.args.others c.args.table.now c.loop-number.table c.open_once.new.table
          named i c.loop-number.lists.items (get_or keys (get_or ns i 0) 0)
          list (omega (arith, here, many)) c.loop-number.invariant.undo.least c.loop-number.invariant.roomed
          c.in_ok-list.ensures.is key;
      whole = c.in_ok-list.ensures.whole ∙ c.loop-number.invariant.whole;
      opened = c.in_ok-list.ensures.opened;
      same = λ n. c.in_ok-list.ensures.same n ∙ c.loop-number.invariant.same n;
      undo = undo_opened c.args.others c.args.table.now c.loop-number.table c.open_once.new.table c.args.pool.now
          c.loop-number.pool c.open_once.new.pool (get_or keys (get_or ns i 0) 0) list
          c.loop-number.invariant.undo c.in_ok-list.ensures.is wide few;
    })
