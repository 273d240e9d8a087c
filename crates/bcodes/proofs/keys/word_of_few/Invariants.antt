use Rattle.std.proofs.Common.{◌≡◌, ◌*◌}
use Rattle.bcodes.specs.Bits.{key}
use Rattle.bcodes.proofs.keys.word_of_few.Given as goal

abbrev pub invariant-loop-j : goal.invariant-loop-j
invariant-loop-j l = l.word ≡ key l.bytes 0 (8 * l.j)
