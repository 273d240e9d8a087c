use Rattle.std.proofs.Common.{◌≤◌, take}
use Rattle.std.specs.List.{All}
use Rattle.row_lists.proofs.room.span_of.Given as goal

abbrev pub invariant-loop-number : goal.invariant-loop-number
invariant-loop-number l = record {
  least : All (λ n. l.first ≤ n) (take l.number-index l.numbers);
  most : All (λ n. n ≤ l.last) (take l.number-index l.numbers);
}
