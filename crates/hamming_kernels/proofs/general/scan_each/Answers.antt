use Rattle.std.proofs.Common.{length, arith}
use Rattle.hamming_kernels.proofs.ScanLemmas.{scanned}
use Rattle.hamming_kernels.proofs.general.scan_each.Goals as goal

pub returns : goal.returns
returns c =
    rw (← c.size-size.ensures.value)
    (scanned c.size-size.result (length c.args.out.now) c.args.run.now c.loop-i.out c.args.kernel.now (omega arith)
    (λ k low. c.loop-i.invariant k (omega arith)))
