use Rattle.std.proofs.Common.{arith}
use Rattle.factory_text.proofs.NumeralLemmas.{one_digit}
use Rattle.factory_text.proofs.numerals.saturated_value.Goals as goal

pub loop-b-preserved : goal.loop-b-preserved
loop-b-preserved c =
    let step = one_digit c.args.digits.now c.loop-b.b-index c.loop-b.value c.requires c.loop-b-test.true
    c.loop-b.invariant in
    omega (arith, step.value, step.is_digit)
