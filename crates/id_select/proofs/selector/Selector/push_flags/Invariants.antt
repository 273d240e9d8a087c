use Rattle.std.proofs.Common.{◌≡◌, ◌+◌, ◌≤◌, ◌++◌, length, map, take, vec_len, vec_capacity}
use Rattle.id_select.specs.Removal.{stays}
use Rattle.id_select.proofs.selector.Selector.push_flags.Given as goal

abbrev pub invariant-loop-id : goal.invariant-loop-id
invariant-loop-id l = record {
  items : l.flags.items ≡ l.initial.flags.items ++ map (stays l.self) (take l.id-index l.ids);
  room : vec_len l.flags + length l.ids ≤ vec_capacity l.flags + l.id-index;
  capacity : vec_capacity l.flags ≡ vec_capacity l.initial.flags;
}
