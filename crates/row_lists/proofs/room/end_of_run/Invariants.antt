use Rattle.std.proofs.Common.{◌≡◌, ◌-◌, ◌<◌, ◌≤◌, ℕ, length, slice_index}
use Rattle.row_lists.proofs.room.end_of_run.Given as goal

abbrev pub invariant-loop-end : goal.invariant-loop-end
invariant-loop-end l = record {
  more : l.at < l.end;
  within : l.end ≤ length l.numbers;
  same : (k : ℕ) → l.at ≤ k → k < l.end → slice_index l.numbers k ≡ slice_index l.numbers l.at;
}

abbrev pub decreases-loop-end : goal.decreases-loop-end
decreases-loop-end l = length l.numbers - l.end
