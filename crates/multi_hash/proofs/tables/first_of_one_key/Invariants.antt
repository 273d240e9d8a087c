use Rattle.std.proofs.Common.{◌≡◌, ◌-◌, length, nat_eq, find}
use Rattle.std.specs.List.{range_with_len}
use Rattle.multi_hash.specs.Inside.{map_at}
use Rattle.multi_hash.proofs.tables.first_of_one_key.Given as goal

abbrev pub invariant-loop-i : goal.invariant-loop-i
invariant-loop-i l = find (λ i. nat_eq (length (map_at l.maps i)) 1) (range_with_len 0 (length l.maps))
    ≡ find (λ i. nat_eq (length (map_at l.maps i)) 1) (range_with_len l.i (length l.maps - l.i))
