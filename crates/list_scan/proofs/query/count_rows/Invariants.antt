use Rattle.std.proofs.Common.{◌≡◌, length, take}
use Rattle.list_scan.specs.Visited.{rows_at}
use Rattle.list_scan.proofs.query.count_rows.Given as goal

abbrev pub invariant-loop-list : goal.invariant-loop-list
invariant-loop-list g l = l.count ≡ length (rows_at l.pool (take l.list-index l.lists))
