use Rattle.std.proofs.Common.{◌≡◌, ℕ, ◌*◌, ◌<◌, get_or, take, drop}
use Rattle.bcodes.specs.Bits.{dist}
use Rattle.hamming_kernels.proofs.general.scan_each.Given as goal

abbrev pub invariant-loop-i : goal.invariant-loop-i
invariant-loop-i l = (k : ℕ) → k < l.i → get_or l.out k 0 ≡ dist (take l.size (drop (k * l.size) l.run)) l.kernel
