use Rattle.std.proofs.Common.{◌≡◌}
use Rattle.part_tests.proofs.bits.check.Given as goal

abbrev pub invariant-loop-x : goal.invariant-loop-x
invariant-loop-x g l = l.writer.room ≡ l.room
