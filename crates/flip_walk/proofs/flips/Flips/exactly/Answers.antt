use Rattle.std.proofs.Common.{arith}
use Rattle.std.proofs.lemmas.Nat.{pow_pos}
use Rattle.flip_walk.proofs.WalkLemmas.{rest-exactly, stands_lowest}
use Rattle.flip_walk.proofs.flips.Flips.exactly.Goals as goal

pub invariant_of-result : goal.invariant_of-result
invariant_of-result c = record {
  some = c.requires.some;
  most = c.requires.most;
  flips_most = c.requires.flips_most;
  ones_most = omega arith;
  stands = stands_lowest c.args.b c.args.f c.lowest.result c.lowest.ensures c.requires.flips_most;
}

pub returns : goal.returns
returns c = rest-exactly c.args.b c.args.f c.lowest.result (omega (arith, c.lowest.ensures, pow_pos c.args.f))
    c.requires.flips_most
