use Rattle.std.proofs.Common.{◌≡◌, ◌+◌, ◌<◌, ℕ, length, slice_index, take}
use Rattle.flip_walk.specs.Patterns.{times}
use Rattle.row_lists.proofs.room.counts_of.Given as goal

abbrev pub invariant-loop-number : goal.invariant-loop-number
invariant-loop-number l = record {
  count : length l.counts.items ≡ l.span.len;
  each : (at : ℕ) → at < l.span.len
      → slice_index l.counts.items at ≡ times (l.span.first + at) (take l.number-index l.numbers);
}
