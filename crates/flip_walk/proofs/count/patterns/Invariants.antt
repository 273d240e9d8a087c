use Rattle.flip_walk.proofs.CountLemmas.{IsCounted}
use Rattle.flip_walk.proofs.count.patterns.Given as goal

abbrev pub invariant-loop-i : goal.invariant-loop-i
invariant-loop-i l = IsCounted l.b l.i l.with_ones l.sum
