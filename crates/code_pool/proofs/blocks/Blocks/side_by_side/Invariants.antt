use Rattle.std.proofs.Common.{◌≡◌, ◌+◌, ◌-◌, ◌≤◌}
use Rattle.code_pool.specs.Chains.{IsTied, chain_at}
use Rattle.code_pool.proofs.blocks.Blocks.side_by_side.Given as goal

abbrev pub invariant-loop-count : goal.invariant-loop-count
invariant-loop-count l = record {
  some : 1 ≤ l.count;
  most : l.count ≤ l.end;
  last : l.last ≡ l.block + (l.count - 1);
  tied : IsTied (chain_at l.self (l.list + 1)).blocks l.at l.count;
}

abbrev pub decreases-loop-count : goal.decreases-loop-count
decreases-loop-count l = l.end - l.count
