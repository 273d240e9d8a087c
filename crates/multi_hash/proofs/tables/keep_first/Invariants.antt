use Rattle.std.proofs.Common.{◌≡◌, ◌<◌, ◌≤◌, ℕ, length, take, slice_index}
use Rattle.multi_hash.specs.Inside.{map_at}
use Rattle.multi_hash.proofs.tables.keep_first.Given as goal

abbrev pub invariant-loop-i : goal.invariant-loop-i
invariant-loop-i l = record {
  count : length l.maps ≡ length l.initial.maps;
  kept : (j : ℕ) → j < l.i → map_at l.maps j ≡ take (slice_index l.counts j) (map_at l.initial.maps j);
  rest : (j : ℕ) → l.i ≤ j → map_at l.maps j ≡ map_at l.initial.maps j;
}
