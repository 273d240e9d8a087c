use Rattle.std.proofs.Common.{◌≡◌, arith}
use Rattle.ivf_index.specs.Near.{count_in}
use Rattle.ivf_index.proofs.NearLemmas.{front_full}
use Rattle.ivf_index.proofs.near.front_within.Goals as goal

pub returns-else-wanted-gt0 : goal.returns-else-wanted-gt0
returns-else-wanted-gt0 g c =
    let none : c.loop-n.wanted ≡ 0 = omega (arith, c.if-wanted-gt0.false) in
    front_full (count_in c.args.pool.now) c.args.max_codes c.loop-n.wanted c.loop-n.n c.args.lists.now
    c.loop-n.invariant.front none
