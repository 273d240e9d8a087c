use Rattle.std.proofs.Common.{◌≡◌, ◌+◌, ◌<◌, ℕ, List, length, get_or, ap, arith}
use Rattle.flip_walk.specs.Patterns.{times}
use Rattle.std.proofs.lemmas.List.{get_or_read}
use Rattle.row_lists.proofs.RoomLemmas.{times-le, same_none}
use Rattle.row_lists.proofs.SpanLemmas.{occurs-below, room_of_span, times-below}
use Rattle.row_lists.proofs.room.reserve_counted.Goals as goal

pub counts_of-requires-clause-few : goal.counts_of-requires-clause-few
counts_of-requires-clause-few g c = omega (arith, c.requires.few 0)

pub loop-at-init : goal.loop-at-init
loop-at-init g c = record {
  room = λ k low. omega (arith, times-below c.args.numbers.now c.args.span.first c.requires.least k (omega (arith, low)));
  same = same_none c.args.lists.now;
  keep = λ l none. omega arith;
}

pub overflow_cast-at : goal.overflow_cast-at
overflow_cast-at g c = omega (arith, c.requires.small, c.in_ok-counts.ensures.count, c.len-at-end.ensures)

pub overflow_add-span : goal.overflow_add-span
overflow_add-span g c = omega (arith, c.requires.small, c.in_ok-counts.ensures.count, c.len-at-end.ensures)

pub reserve-requires-clause-exists : goal.reserve-requires-clause-exists
reserve-requires-clause-exists g c =
    let x : ℕ = c.args.span.first + c.loop-at.at in
    let low : c.loop-at.at < c.args.span.len = omega (arith, c.in_ok-counts.ensures.count, c.len-at-end.ensures) in
    let counts : List ℕ = c.in_ok-counts.counts.items in
    let read : c.index.result.now ≡ get_or counts c.loop-at.at 0
    = get_or_read counts c.loop-at.at c.index.result.now (omega (arith, low, c.in_ok-counts.ensures.count))
    c.index.ensures 0 in
    let some : 0 < times x c.args.numbers.now
    = omega (arith, c.if-index-gt0.true, read, c.in_ok-counts.ensures.each c.loop-at.at low) in
    omega (
      arith,
      occurs-below c.args.numbers.now (length c.args.lists.now.lists) c.requires.known x some,
      c.loop-at.invariant.same.lists,
    )

pub reserve-requires-clause-few : goal.reserve-requires-clause-few
reserve-requires-clause-few g c =
    let x : ℕ = c.args.span.first + c.loop-at.at in
    let low : c.loop-at.at < c.args.span.len = omega (arith, c.in_ok-counts.ensures.count, c.len-at-end.ensures) in
    let counts : List ℕ = c.in_ok-counts.counts.items in
    let read : c.index-then-index-gt0.result.now ≡ get_or counts c.loop-at.at 0
    = get_or_read counts c.loop-at.at c.index-then-index-gt0.result.now
    (omega (arith, low, c.in_ok-counts.ensures.count)) c.index-then-index-gt0.ensures 0 in
    omega (
      arith,
      read,
      c.in_ok-counts.ensures.each c.loop-at.at low,
      times-le x c.args.numbers.now,
      c.requires.few x,
      ap length (c.loop-at.invariant.same.rows x),
    )

pub returns-clause-room : goal.returns-clause-room
returns-clause-room g c =
    room_of_span c.args.numbers.now (c.args.span.first + c.args.span.len) c.loop-at.lists c.requires.most
    (λ l low. c.loop-at.invariant.room l (omega (arith, low, c.in_ok-counts.ensures.count, c.len-at-end.ensures)))
