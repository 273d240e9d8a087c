use Rattle.std.proofs.Common.{◌≡◌, length}
use Rattle.faissb_core.specs.Machine.Sample.{with_flips}
use Rattle.faissb_core.proofs.sample.queries.with_flips.Given as goal

abbrev pub invariant-loop-i : goal.invariant-loop-i
invariant-loop-i l = (l.code ≡ with_flips l.i l.initial.code) × (length l.code ≡ 8)
