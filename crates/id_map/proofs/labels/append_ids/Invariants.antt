use Rattle.std.proofs.Common.{◌≡◌, ◌+◌, ◌≤◌, ◌++◌, length, take, vec_len, vec_capacity, FitsSigned, w64}
use Rattle.std.specs.List.{All}
use Rattle.id_map.proofs.labels.append_ids.Given as goal

abbrev pub invariant-loop-id : goal.invariant-loop-id
invariant-loop-id l = record {
  items : l.ids.items ≡ l.initial.ids.items ++ take l.id-index l.more;
  fit : All (FitsSigned w64) (take l.id-index l.more);
  room : vec_len l.ids + length l.more ≤ vec_capacity l.ids + l.id-index;
}
