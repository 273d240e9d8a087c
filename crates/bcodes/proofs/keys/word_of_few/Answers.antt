use Rattle.std.proofs.Common.{◌<◌, ◌^◌, arith, refl}
use Rattle.bcodes.specs.Bits.{key}
use Rattle.bcodes.proofs.KeyLemmas.{byte_more}
use Rattle.bcodes.proofs.keys.word_of_few.Goals as goal

pub loop-j-init : goal.loop-j-init
unfolding key
loop-j-init c = refl

pub overflow_add-word : goal.overflow_add-word
overflow_add-word c =
    let small : c.from.result < 2 ^ 8 = omega (arith, c.from.ensures, c.type_inv.bytes c.loop-j.j) in
    let step = byte_more c.args.bytes.now c.loop-j.j c.from.result c.from.ensures small (omega arith) in
    omega (arith, step.fits, c.loop-j.invariant)

pub loop-j-preserved : goal.loop-j-preserved
loop-j-preserved c =
    let small : c.from.result < 2 ^ 8 = omega (arith, c.from.ensures, c.type_inv.bytes c.loop-j.j) in
    let step = byte_more c.args.bytes.now c.loop-j.j c.from.result c.from.ensures small (omega arith) in
    omega (arith, step.next, c.loop-j.invariant)
