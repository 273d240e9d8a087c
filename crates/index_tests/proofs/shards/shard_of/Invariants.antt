use Rattle.std.proofs.Common.{◌≡◌, length}
use Rattle.index_tests.proofs.shards.shard_of.Given as goal

abbrev pub invariant-loop-code : goal.invariant-loop-code
invariant-loop-code l = record {
  dim : l.codes.dim ≡ 16;
  count : length l.codes.codes ≡ l.code-index;
}
