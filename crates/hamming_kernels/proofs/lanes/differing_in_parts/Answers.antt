use Rattle.std.proofs.Common.{◌≡◌, ◌+◌, ◌*◌, refl, ap, ◌∙◌, arith}
use Rattle.bcodes.specs.Bits.{differing}
use Rattle.bcodes.proofs.BitLemmas.{differing-le}
use Rattle.hamming_kernels.proofs.LaneLemmas.{differing_rest}
use Rattle.hamming_kernels.proofs.lanes.differing_in_parts.Goals as goal

pub loop-i-init : goal.loop-i-init
unfolding differing
loop-i-init c = refl

pub loop-i-preserved : goal.loop-i-preserved
loop-i-preserved c =
    let i = c.loop-i.i in
    let before : 256 * i ≡ 8 * (32 * i) = omega arith in
    let next : 8 * (32 * i) + 256 ≡ 256 * (i + 1) = omega arith in
    differing_rest c.args.code.now c.args.query.now (32 * i) 256 c.loop-i.total c.differing_in_part-total.result
    (c.loop-i.invariant ∙ ap (differing c.args.code.now c.args.query.now 0) before) c.differing_in_part-total.ensures
    ∙ ap (differing c.args.code.now c.args.query.now 0) next

pub overflow_add-total : goal.overflow_add-total
overflow_add-total c = omega (
  arith,
  loop-i-preserved c,
  differing-le c.args.code.now c.args.query.now 0
      (256 * (c.loop-i.i + 1)),
)
