use Rattle.std.proofs.Common.{◌≡◌, length, map, take, nat_abs}
use Rattle.multi_hash.specs.Seen.{first_met, IsSeen}
use Rattle.multi_hash.proofs.meet.meet_run.Given as goal

abbrev pub invariant-loop-i : goal.invariant-loop-i
invariant-loop-i l = record {
  met : l.met.items ≡ first_met l.initial.met.items (map nat_abs (take l.i l.labels));
  seen : IsSeen (length l.initial.seen) l.met.items l.seen;
  count : length l.seen ≡ length l.initial.seen;
}
