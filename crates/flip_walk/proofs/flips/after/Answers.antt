use Rattle.std.proofs.Common.{◌+◌, arith}
use Rattle.std.proofs.lemmas.Nat.{pow_pos}
use Rattle.flip_walk.proofs.WalkLemmas.{rest-next, rest-more, rest-end, stands_lowest}
use Rattle.flip_walk.proofs.flips.after.Goals as goal

pub returns-in-Some-clause-rest : goal.returns-in-Some-clause-rest
returns-in-Some-clause-rest c = rest-next c.args.b c.args.nflip c.args.ones c.args.x c.in-Some.y c.requires.stands
    c.in-Some.ensures

pub returns-then-ones-nflip-clause-walk : goal.returns-then-ones-nflip-clause-walk
returns-then-ones-nflip-clause-walk c = record {
  some = c.requires.some;
  most = c.requires.most;
  flips_most = c.requires.flips_most;
  ones_most = omega (arith, c.if-ones-nflip.true);
  stands = stands_lowest c.args.b (c.args.ones + 1) c.lowest.result c.lowest.ensures
      (omega (arith, c.if-ones-nflip.true, c.requires.flips_most));
}

pub returns-then-ones-nflip-clause-rest : goal.returns-then-ones-nflip-clause-rest
returns-then-ones-nflip-clause-rest c =
    rest-more c.args.b c.args.nflip c.args.ones c.args.x c.lowest.result c.requires.stands c.in-None.ensures
    c.if-ones-nflip.true c.requires.flips_most
    (omega (arith, c.lowest.ensures, pow_pos (c.args.ones + 1)))

pub returns-else-ones-nflip-clause-rest : goal.returns-else-ones-nflip-clause-rest
returns-else-ones-nflip-clause-rest c =
    rest-end c.args.b c.args.nflip c.args.ones c.args.x c.requires.stands c.in-None.ensures c.if-ones-nflip.false
