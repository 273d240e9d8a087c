use Rattle.std.proofs.Common.{◌≡◌, ℕ, ◌+◌, ◌<◌, ◌≤◌, get_or}
use Rattle.code_pool.specs.Chains.{chain_at}
use Rattle.code_pool.proofs.blocks.Blocks.look_ahead.Given as goal

abbrev pub invariant-loop-i : goal.invariant-loop-i
invariant-loop-i l = record {
  low : l.i < l.count;
  block : l.block ≡ get_or (chain_at l.self (l.list + 1)).blocks (l.at + l.i) 0;
  each : (k : ℕ) → l.i ≤ k → k < l.count
      → get_or l.ahead.numbers k 0 ≡ get_or (chain_at l.self (l.list + 1)).blocks (l.at + k) 0;
}

abbrev pub decreases-loop-i : goal.decreases-loop-i
decreases-loop-i l = l.i
