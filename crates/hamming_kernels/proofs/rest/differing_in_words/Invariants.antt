use Rattle.std.proofs.Common.{◌≡◌, ◌-◌, ◌*◌}
use Rattle.bcodes.specs.Bits.{differing}
use Rattle.hamming_kernels.proofs.rest.differing_in_words.Given as goal

abbrev pub invariant-loop-i : goal.invariant-loop-i
invariant-loop-i l = l.total ≡ differing l.code l.query (64 * l.from) (64 * (l.i - l.from))
