use Rattle.std.proofs.Common.{◌≡◌, ◌-◌, ◌≤◌, length, map, nat_abs, take}
use Rattle.std.specs.List.{All}
use Rattle.bcodes.specs.Value.{IsPlace}
use Rattle.multi_hash.specs.Inside.{lists_in}
use Rattle.multi_hash.specs.Meet.{position_of}
use Rattle.multi_hash.specs.Seen.{first_met, IsSeen}
use Rattle.multi_hash.proofs.meet.gather_list.Given as goal

abbrev pub invariant-loop-at : goal.invariant-loop-at
invariant-loop-at g l = record {
  within : l.at ≤ l.count;
  met : first_met l.met.items (map nat_abs l.waiting.items)
      ≡ first_met (first_met l.initial.met.items (map nat_abs l.initial.waiting.items))
      (map position_of (take l.at (lists_in l.buckets l.list)));
  waiting : All (IsPlace (length l.initial.seen)) l.waiting.items;
  seen : IsSeen (length l.initial.seen) l.met.items l.seen;
  count : length l.seen ≡ length l.initial.seen;
}

abbrev pub decreases-loop-at : goal.decreases-loop-at
decreases-loop-at g l = l.count - l.at
