use Rattle.std.proofs.Common.{◌≡◌, map, vec_len, vec_capacity}
use Rattle.bcodes.specs.Value.{labels_from}
use Rattle.id_select.specs.Removal.{stays}
use Rattle.flat_index.proofs.flat.position_flags.Given as goal

abbrev pub invariant-loop-position : goal.invariant-loop-position
invariant-loop-position l = record {
  items : l.flags.items ≡ map (stays l.sel) (labels_from 0 l.position);
  len : vec_len l.flags ≡ l.position;
  room : vec_capacity l.flags ≡ l.count;
}
