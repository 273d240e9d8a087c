use Rattle.std.proofs.Common.{◌≡◌}
use Rattle.code_pool.specs.Chains.{IsAhead, list_of}
use Rattle.code_pool.specs.Inside.{IsPool, pool_in}
use Rattle.code_pool.specs.Lists.{list_at, with_list}
use Rattle.code_pool.proofs.NumberLemmas.{list_to}
use Rattle.code_pool.proofs.number.number_list.Given as goal

abbrev pub invariant-loop-at : goal.invariant-loop-at
invariant-loop-at l = record {
  end : l.at-end ≡ (list_of l.blocks l.list).len;
  pool : IsPool l.rows l.blocks;
  rows : pool_in l.rows l.blocks
      ≡ with_list (pool_in l.initial.rows l.blocks) l.list (list_to l.at (list_at (pool_in l.initial.rows l.blocks) l.list));
  ahead : IsAhead (list_of l.blocks l.list).blocks l.ahead.first l.ahead.count l.ahead.numbers;
}
