use Rattle.std.proofs.Common.{◌≡◌, length}
use Rattle.index_tests.proofs.multi.marks_positions_of_several_pages_once.Given as goal

abbrev pub invariant-loop-position : goal.invariant-loop-position
invariant-loop-position g l = length l.seen ≡ 10000

abbrev pub invariant-loop-position-2 : goal.invariant-loop-position-2
invariant-loop-position-2 g l = length l.seen ≡ 10000
