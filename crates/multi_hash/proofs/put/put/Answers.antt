use Rattle.std.proofs.Common.{◌≡◌, ◌+◌, ◌*◌, ◌^◌, ◌<◌, ◌≤◌, ℕ, pos, List, [], ◌∷◌, ◌++◌, length, get_or, refl, sym, ap, ◌∙◌}
use Rattle.std.proofs.Common.{arith, length-set, to_z, of_z, w64, take}
use Rattle.std.proofs.lemmas.Int.{ints}
use Rattle.std.proofs.lemmas.List.{take_all}
use Rattle.bcodes.specs.Value.{Row}
use Rattle.code_pool.specs.Lists.{PoolLists, PoolList, no_row}
use Rattle.row_lists.specs.Put.{put_on}
use Rattle.row_lists.specs.Put.{IsPushed}
use Rattle.row_lists.proofs.PutLemmas.{room_here, rows_pushed, room_pushed}
use Rattle.multi_hash.specs.Inside.{lists_in}
use Rattle.multi_hash.specs.Room.{marks}
use Rattle.multi_hash.proofs.PutLemmas.{length-marks, get-marks, spare_pushed}
use Rattle.multi_hash.proofs.put.put.Goals as goal

pub push-requires-clause-exists : goal.push-requires-clause-exists
push-requires-clause-exists g c = omega (
  arith,
  c.requires.known c.loop-i.i 0 (omega arith),
  c.loop-i.invariant.lists,
)

pub push-requires-clause-room : goal.push-requires-clause-room
push-requires-clause-room g c =
    room_here c.args.lists.now c.loop-i.buckets c.loop-i.i (omega arith) c.loop-i.invariant.room

pub push-requires-clause-size : goal.push-requires-clause-size
push-requires-clause-size g c = sym c.loop-i.invariant.size

pub loop-i-preserved : goal.loop-i-preserved
loop-i-preserved g c =
    let i : ℕ = c.loop-i.i in
    let here : i < length c.args.lists.now = omega arith in
    let n : ℕ = get_or c.args.lists.now i 0 in
    let low : c.args.first + i < 2 ^ 63 = omega (arith, c.requires.few, here) in
    let place : to_z w64 (c.args.first + i) ≡ pos (c.args.first + i) = omega (arith, ints) in
    let row : Row = record { label = pos (c.args.first + i); code = [] } in
    let one : IsPushed c.loop-i.buckets c.push.new.self n row = record {
      inside = omega (arith, c.requires.known i 0 here, c.loop-i.invariant.lists);
      room = room_here c.args.lists.now c.loop-i.buckets i here c.loop-i.invariant.room;
      is = rw place at c.push.ensures;
    } in
    let inside : i < length (marks c.args.first (length c.args.lists.now)) = omega
    (arith, length-marks c.args.first (length c.args.lists.now)) in
    let is : row ≡ get_or (marks c.args.first (length c.args.lists.now)) i no_row
    = sym (get-marks c.args.first (length c.args.lists.now) i no_row here) in
    record {
      rows = rows_pushed c.args.buckets.now c.loop-i.buckets c.push.new.self c.args.lists.now
          (marks c.args.first (length c.args.lists.now)) i row one is here inside c.loop-i.invariant.rows;
      room = room_pushed c.loop-i.buckets c.push.new.self c.args.lists.now i row one here c.loop-i.invariant.room;
      spare = λ k none. omega (
        arith,
        c.loop-i.invariant.spare k none,
        spare_pushed c.loop-i.buckets c.push.new.self c.args.lists.now i row one here k none,
      );
      lists = ap (λ (p : PoolLists). length p.lists) c.push.ensures ∙ length-set c.loop-i.buckets.lists n _
          ∙ c.loop-i.invariant.lists;
      size = ap (λ (p : PoolLists). p.code_size) c.push.ensures ∙ c.loop-i.invariant.size;
    }

pub returns-clause-rows : goal.returns-clause-rows
returns-clause-rows g c = λ l.
    let all : c.loop-i.i ≡ length c.args.lists.now = omega arith in
    let rows : List Row = marks c.args.first (length c.args.lists.now) in
    c.loop-i.invariant.rows l
    ∙ ap (λ (ns : List ℕ). lists_in c.args.buckets.now l ++ put_on l ns (take c.loop-i.i rows))
    (take_all c.loop-i.i c.args.lists.now (omega arith))
    ∙ ap (λ (rs : List Row). lists_in c.args.buckets.now l ++ put_on l c.args.lists.now rs)
    (take_all c.loop-i.i rows (omega (arith, length-marks c.args.first (length c.args.lists.now))))
