use Rattle.std.proofs.Common.{◌≤◌, length, take}
use Rattle.std.specs.List.{All}
use Rattle.code_pool.specs.Lists.{list_at}
use Rattle.list_scan.proofs.query.longest.Given as goal

abbrev pub invariant-loop-list : goal.invariant-loop-list
invariant-loop-list g l = All (λ n. length (list_at l.pool n).rows ≤ l.longest) (take l.list-index l.lists)
