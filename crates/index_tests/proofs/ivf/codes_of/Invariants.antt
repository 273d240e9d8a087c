use Rattle.std.proofs.Common.{◌≡◌}
use Rattle.index_tests.proofs.ivf.codes_of.Given as goal

abbrev pub invariant-loop-byte : goal.invariant-loop-byte
invariant-loop-byte l = l.codes.dim ≡ 8
