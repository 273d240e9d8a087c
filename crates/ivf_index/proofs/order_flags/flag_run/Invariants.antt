use Rattle.std.proofs.Common.{◌≡◌, ℕ, ◌+◌, ◌<◌, ◌≤◌, ◌++◌, List, length, map, take, drop, nat_abs, get_or, vec_capacity}
use Rattle.std.proofs.Common.{vec_len}
use Rattle.flip_walk.specs.Patterns.{times}
use Rattle.ivf_index.specs.Flags.{AreOrderFlags}
use Rattle.ivf_index.proofs.order_flags.flag_run.Given as goal

abbrev pub invariant-loop-number : goal.invariant-loop-number
invariant-loop-number l = record {
  flags : (starts before : List ℕ) → length starts ≡ length l.initial.next
      → AreOrderFlags l.flags starts before l.initial.next l.initial.found.items
      → AreOrderFlags l.flags starts (before ++ map nat_abs (take l.number-index l.numbers)) l.next l.found.items;
  within : (k : ℕ) → k < length l.next
      → get_or l.next k 0 + times k (map nat_abs (drop l.number-index l.numbers)) ≤ length l.flags;
  capacity : vec_capacity l.found ≡ vec_capacity l.initial.found;
  room : vec_len l.found + length l.numbers ≤ vec_capacity l.found + l.number-index;
}
