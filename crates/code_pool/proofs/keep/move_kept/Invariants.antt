use Rattle.std.proofs.Common.{◌≡◌, length}
use Rattle.code_pool.specs.Chains.{IsAhead, list_of}
use Rattle.code_pool.specs.Inside.{IsPool, pool_in}
use Rattle.code_pool.specs.Lists.{list_at, with_list}
use Rattle.code_pool.proofs.KeepLemmas.{IsKeeping}
use Rattle.code_pool.proofs.keep.move_kept.Given as goal

abbrev pub invariant-loop-at : goal.invariant-loop-at
invariant-loop-at l = record {
  end : l.at-end ≡ length l.keep;
  pool : IsPool l.rows l.blocks;
  others : pool_in l.rows l.blocks ≡ with_list (pool_in l.initial.rows l.blocks) l.list (record {
    rows = (list_at (pool_in l.rows l.blocks) l.list).rows;
    spare = (list_at (pool_in l.initial.rows l.blocks) l.list).spare;
  });
  keeping : IsKeeping (list_at (pool_in l.initial.rows l.blocks) l.list).rows
      (list_at (pool_in l.rows l.blocks) l.list).rows l.keep l.at l.kept;
  sources : IsAhead (list_of l.blocks l.list).blocks l.sources.first l.sources.count l.sources.numbers;
  targets : IsAhead (list_of l.blocks l.list).blocks l.targets.first l.targets.count l.targets.numbers;
}
