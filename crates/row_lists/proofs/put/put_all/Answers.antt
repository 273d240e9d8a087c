use Rattle.std.proofs.Common.{rules, ◌≡◌, ◌<◌, ◌++◌, ℕ, pos, List, length, get_or, take, sym, ap, ◌∙◌}
use Rattle.std.proofs.Common.{arith, FitsSigned, to_z, of_z, w64}
use Rattle.std.proofs.lemmas.Int.{to_z-of_z}
use Rattle.std.proofs.lemmas.List.{take_all}
use Rattle.bcodes.specs.Value.{Row}
use Rattle.bcodes.specs.Answers.{paired}
use Rattle.code_pool.specs.Lists.{no_row}
use Rattle.row_lists.specs.Put.{put_on, IsPushed}
use Rattle.row_lists.specs.Rows.{lists_in}
use Rattle.row_lists.proofs.PutLemmas.{length-paired, get-paired, room_here, put_none, put_more}
use Rattle.row_lists.proofs.put.put_all.Goals as goal

pub loop-i-init : goal.loop-i-init
loop-i-init g c = record {
  put = put_none c.args.order.now c.args.lists.now c.args.numbers.now
      (paired c.args.labels.now c.args.codes.now.codes) c.requires.order_one c.requires.order_size
      (omega (arith, c.requires.order_room, c.requires.same_numbers)) c.requires.room;
}

pub put_row-requires-clause-room : goal.put_row-requires-clause-room
put_row-requires-clause-room g c =
    let here : c.loop-i.i < length c.args.numbers.now = omega (
      arith,
      c.loop-i-test.true,
      c.len-i-end.ensures.value,
      c.requires.same_numbers,
    ) in
    room_here c.args.numbers.now c.loop-i.lists c.loop-i.i here c.loop-i.invariant.put.room

pub loop-i-preserved : goal.loop-i-preserved
loop-i-preserved g c =
    let i : ℕ = c.loop-i.i in
    let here : i < length c.args.numbers.now = omega (
      arith,
      c.loop-i-test.true,
      c.len-i-end.ensures.value,
      c.requires.same_numbers,
    ) in
    let place : i < length c.args.codes.now.codes = omega (arith, c.requires.same_numbers) in
    let rows : List Row = paired c.args.labels.now c.args.codes.now.codes in
    let row : Row = record { label = get_or c.args.labels.now i (pos 0); code = c.get.result.now } in
    let fits : FitsSigned w64 (get_or c.args.labels.now i (pos 0)) = search rules in
    let same : to_z w64 (of_z w64 (get_or c.args.labels.now i (pos 0))) ≡ get_or c.args.labels.now i (pos 0)
    = to_z-of_z w64 _ fits in
    let one : IsPushed c.loop-i.lists c.put_row.new.lists (get_or c.args.numbers.now i 0) row
    = rw same at c.put_row.ensures.lists in
    let is : row ≡ get_or rows i no_row
    = sym (get-paired c.args.labels.now c.args.codes.now.codes i no_row c.requires.same_labels place
    ∙ ap (λ (x : List ℕ). record { label = get_or c.args.labels.now i (pos 0); code = x })
    (sym c.get.ensures.value)) in
    let inside : i < length rows = omega
    (arith, length-paired c.args.labels.now c.args.codes.now.codes c.requires.same_labels) in
    record {
      put = put_more c.args.order.now c.args.lists.now c.loop-i.order c.loop-i.lists c.put_row.new.order
          c.put_row.new.lists c.args.numbers.now rows i row c.loop-i.invariant.put one c.put_row.ensures.order is here
          inside;
    }

pub returns-clause-rows : goal.returns-clause-rows
returns-clause-rows g c = λ l.
    let all : c.loop-i.i ≡ length c.args.codes.now.codes = omega (
      arith,
      c.loop-i-test.false,
      c.loop-i.auto.i-end,
      c.len-i-end.ensures.value,
    ) in
    c.loop-i.invariant.put.rows l
    ∙ ap (λ (ns : List ℕ). lists_in c.args.lists.now l ++ put_on l ns
    (take c.loop-i.i (paired c.args.labels.now c.args.codes.now.codes)))
    (take_all c.loop-i.i c.args.numbers.now (omega (arith, c.requires.same_numbers)))
    ∙ ap (λ (rs : List Row). lists_in c.args.lists.now l ++ put_on l c.args.numbers.now rs)
    (take_all c.loop-i.i (paired c.args.labels.now c.args.codes.now.codes)
    (omega (arith, length-paired c.args.labels.now c.args.codes.now.codes c.requires.same_labels)))
