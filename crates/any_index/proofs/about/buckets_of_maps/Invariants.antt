use Rattle.std.proofs.Common.{◌≡◌, length, map}
use Rattle.std.specs.List.{range_with_len}
use Rattle.multi_hash.specs.Maps.{map_keys}
use Rattle.any_index.proofs.about.buckets_of_maps.Given as goal

abbrev pub invariant-loop-map : goal.invariant-loop-map
invariant-loop-map l = l.numbers.items ≡ map (λ i. length (map_keys l.index i)) (range_with_len 0 l.map)
