use Rattle.std.proofs.Common.{◌+◌, arith}
use Rattle.list_scan.proofs.ListLemmas.{length-rows_at, rows_at-le}
use Rattle.list_scan.proofs.query.count_rows.Goals as goal

pub overflow_add-count : goal.overflow_add-count
overflow_add-count g c = omega (
  arith,
  c.loop-list.invariant,
  c.len.ensures.value,
  c.requires.few,
  length-rows_at c.args.pool.now c.args.lists.now c.loop-list.list-index c.loop-list-test.true,
  rows_at-le c.args.pool.now c.args.lists.now (c.loop-list.list-index + 1),
)
