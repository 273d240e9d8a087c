use Rattle.std.proofs.Common.{◌+◌, ◌-◌, ◌<◌, ◌^◌, refl, arith}
use Rattle.flip_walk.proofs.JumpLemmas.{last_zero, run_from, ends_below, last_of, next_of, jump_fits}
use Rattle.flip_walk.proofs.flips.following.Goals as goal

pub returns-then-x-eq0 : goal.returns-then-x-eq0
returns-then-x-eq0 c = last_zero c.args.b c.args.x c.if-x-eq0.true

pub returns-then-zeros-run : goal.returns-then-zeros-run
returns-then-zeros-run c =
    let run = run_from c.args.x c.zeros_below-zeros.result c.run_of_ones-run.result _ refl
    c.zeros_below-zeros.ensures.zeros c.run_of_ones-run.ensures.least c.run_of_ones-run.ensures.run
    c.run_of_ones-run.ensures.end in
    last_of c.args.b c.args.x c.zeros_below-zeros.result c.run_of_ones-run.result _ run c.requires.below
    c.if-zeros-run.true

pub overflow_add-result : goal.overflow_add-result
overflow_add-result c =
    let z = c.zeros_below-zeros.result in
    let r = c.run_of_ones-run.result in
    let run = run_from c.args.x z r _ refl c.zeros_below-zeros.ensures.zeros c.run_of_ones-run.ensures.least
    c.run_of_ones-run.ensures.run c.run_of_ones-run.ensures.end in
    let below : z + r < c.args.b = omega (arith, ends_below c.args.x z r _ c.args.b run c.requires.below) in
    let fits : c.args.x + 2 ^ z + (2 ^ (r - 1) - 1) < 2 ^ 64 = jump_fits c.args.b c.args.x z r _ run c.requires.below
    below c.requires.most in
    omega (arith, fits, c.power.ensures)

pub overflow_add-result-else-zeros-run : goal.overflow_add-result-else-zeros-run
overflow_add-result-else-zeros-run c =
    let z = c.zeros_below-zeros.result in
    let r = c.run_of_ones-run.result in
    let run = run_from c.args.x z r _ refl c.zeros_below-zeros.ensures.zeros c.run_of_ones-run.ensures.least
    c.run_of_ones-run.ensures.run c.run_of_ones-run.ensures.end in
    let below : z + r < c.args.b = omega (arith, ends_below c.args.x z r _ c.args.b run c.requires.below) in
    let fits : c.args.x + 2 ^ z + (2 ^ (r - 1) - 1) < 2 ^ 64 = jump_fits c.args.b c.args.x z r _ run c.requires.below
    below c.requires.most in
    omega (arith, fits, c.power.ensures, c.power-else-zeros-run.ensures)

pub returns-else-zeros-run : goal.returns-else-zeros-run
returns-else-zeros-run c =
    let z = c.zeros_below-zeros.result in
    let r = c.run_of_ones-run.result in
    let run = run_from c.args.x z r _ refl c.zeros_below-zeros.ensures.zeros c.run_of_ones-run.ensures.least
    c.run_of_ones-run.ensures.run c.run_of_ones-run.ensures.end in
    let below : z + r < c.args.b = omega (arith, ends_below c.args.x z r _ c.args.b run c.requires.below) in
    next_of c.args.b c.args.x _ z r _ run c.requires.below below
    (rw (c.power.ensures, c.power-else-zeros-run.ensures) refl)
