use Rattle.std.proofs.Common.{◌≡◌, ◌<◌, ◌≤◌, ◌+◌, ℕ, [], length, nat_eq}
use Rattle.std.specs.List.{IsDistinct, flat_map, range_with_len}
use Rattle.std.specs.Map.{keys_of}
use Rattle.bcodes.specs.Ranges.{raised}
use Rattle.multi_hash.specs.Inside.{map_at}
use Rattle.multi_hash.specs.Meet.{asked_below, near_under}
use Rattle.multi_hash.proofs.meet.near_in_maps.Given as goal

abbrev pub invariant-loop-i : goal.invariant-loop-i
invariant-loop-i g l = record {
  near : l.near.items ≡ flat_map (near_under l.maps l.b l.nflip l.q) (range_with_len 0 l.i);
  distinct : (j : ℕ) → j < l.i → IsDistinct nat_eq (keys_of (map_at l.maps j));
  lent : l.meter.lent ≡ l.initial.meter.lent;
  asked : l.meter.asked ≡ raised l.initial.meter.asked (asked_below l.maps l.b l.nflip l.i);
  asked_least : l.initial.meter.asked ≤ l.meter.asked;
}
