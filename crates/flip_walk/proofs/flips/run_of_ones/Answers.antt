use Rattle.std.proofs.Common.{arith}
use Rattle.flip_walk.proofs.BitsLemmas.{ones_of}
use Rattle.flip_walk.proofs.flips.run_of_ones.Goals as goal

pub returns-else-x-eq18446744073709551615 : goal.returns-else-x-eq18446744073709551615
returns-else-x-eq18446744073709551615 c =
    let o = ones_of c.args.x c.trailing_ones.result (omega arith) c.requires (λ e. omega arith) c.trailing_ones.ensures
    in
    record { least = o.least; most = omega (arith, o.most); run = o.run; end = o.end }
