use Rattle.std.proofs.Common.{arith}
use Rattle.faissb_core.proofs.LanguageLemmas.NumberLemmas.{one_digit}
use Rattle.faissb_core.proofs.language.number.value_of.Goals as goal

pub overflow_mul-value : goal.overflow_mul-value
overflow_mul-value c =
    let step = one_digit c.args.digits.now c.loop-b.b-index c.loop-b.value c.requires.digits c.requires.few
    c.loop-b-test.true c.loop-b.invariant.value c.loop-b.invariant.small in
    omega (arith, step.room)

pub overflow_add-value : goal.overflow_add-value
overflow_add-value c =
    let step = one_digit c.args.digits.now c.loop-b.b-index c.loop-b.value c.requires.digits c.requires.few
    c.loop-b-test.true c.loop-b.invariant.value c.loop-b.invariant.small in
    omega (arith, step.room, c.from.ensures)

pub loop-b-preserved : goal.loop-b-preserved
loop-b-preserved c =
    let step = one_digit c.args.digits.now c.loop-b.b-index c.loop-b.value c.requires.digits c.requires.few
    c.loop-b-test.true c.loop-b.invariant.value c.loop-b.invariant.small in
    record {
      value = omega (arith, step.value, c.from.ensures);
      small = omega (arith, step.small, c.from.ensures);
    }
