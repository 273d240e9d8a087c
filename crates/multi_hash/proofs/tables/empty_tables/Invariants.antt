use Rattle.std.proofs.Common.{◌≡◌, ℕ, [], length}
use Rattle.multi_hash.specs.Inside.{map_at}
use Rattle.multi_hash.proofs.tables.empty_tables.Given as goal

abbrev pub invariant-loop-made : goal.invariant-loop-made
invariant-loop-made l = record {
  count : length l.maps.items ≡ l.made;
  empty : (i : ℕ) → map_at l.maps.items i ≡ [];
}
