use Rattle.std.proofs.Common.{◌≡◌, [], length, map, nat_abs, take}
use Rattle.std.specs.List.{All, flat_map}
use Rattle.bcodes.specs.Value.{IsPlace}
use Rattle.multi_hash.specs.Meet.{positions_on}
use Rattle.multi_hash.specs.Seen.{first_met, IsSeen}
use Rattle.multi_hash.proofs.meet.meet_lists.Given as goal

abbrev pub invariant-loop-list : goal.invariant-loop-list
invariant-loop-list g l = record {
  met : first_met l.met.items (map nat_abs l.waiting.items)
      ≡ first_met [] (flat_map (positions_on l.buckets) (take l.list-index l.lists));
  waiting : All (IsPlace l.count) l.waiting.items;
  seen : IsSeen l.count l.met.items l.seen;
  count : length l.seen ≡ l.count;
}
