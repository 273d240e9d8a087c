use Rattle.std.proofs.Common.{◌∙◌}
use Rattle.index_tests.proofs.BuildingLemmas.{numbers_more}
use Rattle.index_tests.proofs.building.numbers_below.Goals as goal

pub loop-number-preserved : goal.loop-number-preserved
loop-number-preserved c =
    c.in_ok-push.ensures.items ∙ numbers_more c.loop-number.numbers.items c.loop-number.number c.loop-number.invariant
