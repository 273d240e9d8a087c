use Rattle.std.proofs.Common.{◌≡◌, ◌+◌, ◌-◌, ◌<◌, ◌≤◌, ℕ, List, length, take, get_or, subst, arith}
use Rattle.row_lists.specs.Room.{HasRoomFor}
use Rattle.row_lists.proofs.RoomLemmas.{room_reserved, same_reserved, keep_reserved, fresh_more}
use Rattle.row_lists.proofs.room.reserve_sorted.Goals as goal

pub loop-at-preserved : goal.loop-at-preserved
loop-at-preserved g c =
    let xs : List ℕ = c.args.sorted.now in
    let at : ℕ = c.loop-at.at in
    let end : ℕ = c.end_of_run-end.result in
    let n : ℕ = end - at in
    let here : at < length xs = omega arith in
    let up : at + n ≡ end = omega (arith, c.end_of_run-end.ensures.more) in
    let within : at + n ≤ length xs = omega (arith, up, c.end_of_run-end.ensures.within) in
    record {
      within = c.end_of_run-end.ensures.within;
      room = subst (λ (m : ℕ). HasRoomFor (take m xs) c.reserve.new.self) up
          (room_reserved c.loop-at.lists c.reserve.new.self xs at n within
          (λ k low. c.end_of_run-end.ensures.same (at + k) (omega arith) (omega (arith, up)))
          (c.loop-at.invariant.fresh here) c.loop-at.invariant.room c.in_ok-reserve.ensures.ok);
      same = same_reserved c.args.lists.now c.loop-at.lists c.reserve.new.self
          (get_or xs at 0) n c.loop-at.invariant.same c.in_ok-reserve.ensures.ok;
      keep = keep_reserved xs c.args.lists.now c.loop-at.lists c.reserve.new.self at n here
          c.loop-at.invariant.keep c.in_ok-reserve.ensures.ok;
      fresh = λ inside. fresh_more xs at end c.requires.sorted c.end_of_run-end.ensures.more inside
          c.end_of_run-end.ensures.same (c.end_of_run-end.ensures.end inside);
    }
