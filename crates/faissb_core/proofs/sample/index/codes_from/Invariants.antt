use Rattle.std.proofs.Common.{◌≡◌}
use Rattle.faissb_core.specs.Machine.Sample.{codes_from}
use Rattle.faissb_core.proofs.sample.index.codes_from.Given as goal

abbrev pub invariant-loop-i : goal.invariant-loop-i
invariant-loop-i l = l.codes ≡ record { dim = 64; codes = codes_from l.seed l.from l.i }
