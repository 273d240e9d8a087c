use Rattle.std.proofs.Common.{◌≡◌, length}
use Rattle.part_tests.proofs.pool.add.Given as goal

abbrev pub invariant-loop-first : goal.invariant-loop-first
invariant-loop-first g l = (length l.pool.lists ≡ length l.initial.pool.lists) × (l.pool.code_size ≡ 2)
