use Rattle.std.proofs.Common.{◌≡◌, ◌+◌, ◌-◌, ◌*◌, ◌/◌, ◌<◌, length, refl, ap, ◌∙◌, arith}
use Rattle.flip_walk.specs.Patterns.{by_ones}
use Rattle.flip_walk.proofs.CountLemmas.{IsCounted, counted_none, counted_more, step_fits, sum_fits}
use Rattle.flip_walk.proofs.count.patterns.Goals as goal

pub loop-i-init : goal.loop-i-init
loop-i-init c = counted_none c.args.b

pub loop-i-preserved : goal.loop-i-preserved
loop-i-preserved c =
    let below : c.loop-i.i < c.args.b = omega (arith, c.loop-i-test.true, c.requires.flips_most) in
    counted_more c.args.b c.loop-i.i c.loop-i.with_ones c.loop-i.sum _ below c.requires.most c.loop-i.invariant
    (rw (c.from.ensures, c.from-in-loop-i.ensures) refl)

pub overflow_mul-with_ones : goal.overflow_mul-with_ones
overflow_mul-with_ones c =
    let below : c.loop-i.i < c.args.b = omega (arith, c.loop-i-test.true, c.requires.flips_most) in
    rw c.from.ensures
    (omega (arith, step_fits c.args.b c.loop-i.i c.loop-i.with_ones below c.requires.most c.loop-i.invariant.many))

pub overflow_add-sum : goal.overflow_add-sum
overflow_add-sum c =
    let below : c.loop-i.i < c.args.b = omega (arith, c.loop-i-test.true, c.requires.flips_most) in
    let next : IsCounted c.args.b (c.loop-i.i + 1) (c.loop-i.with_ones * (c.args.b - c.loop-i.i) / (c.loop-i.i + 1))
    (c.loop-i.sum + c.loop-i.with_ones * (c.args.b - c.loop-i.i) / (c.loop-i.i + 1))
    = counted_more c.args.b c.loop-i.i c.loop-i.with_ones c.loop-i.sum _ below c.requires.most c.loop-i.invariant refl in
    rw (c.from.ensures, c.from-in-loop-i.ensures)
    (omega (arith, sum_fits c.args.b (c.loop-i.i + 1) _ _ c.requires.most (omega arith) next))

pub returns : goal.returns
returns c =
    let e : c.loop-i.i ≡ c.args.nflip = omega (arith, c.loop-i-test.false, c.loop-i.auto.i-end) in
    c.loop-i.invariant.sum ∙ ap (λ n. length (by_ones c.args.b 0 (n + 1))) e
