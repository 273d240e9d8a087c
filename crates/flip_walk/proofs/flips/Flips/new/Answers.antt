use Rattle.std.proofs.Common.{subst, sym, arith}
use Rattle.std.proofs.lemmas.Nat.{pow_pos}
use Rattle.flip_walk.specs.Patterns.{HasEachOnce}
use Rattle.flip_walk.proofs.OnceLemmas.{each_once}
use Rattle.flip_walk.proofs.OnesLemmas.{ones-zero}
use Rattle.flip_walk.proofs.WalkLemmas.{rest-first}
use Rattle.flip_walk.proofs.flips.Flips.new.Goals as goal

pub invariant_of-result : goal.invariant_of-result
invariant_of-result c = record {
  some = c.requires.some;
  most = c.requires.most;
  flips_most = c.requires.flips_most;
  ones_most = omega arith;
  stands = record { below = pow_pos c.args.b; ones = ones-zero };
}

pub returns-clause-value : goal.returns-clause-value
returns-clause-value c = rest-first c.args.b c.args.nflip c.requires.flips_most

pub returns-clause-each_once : goal.returns-clause-each_once
returns-clause-each_once c =
    subst (HasEachOnce c.args.b c.args.nflip) (sym (rest-first c.args.b c.args.nflip c.requires.flips_most))
    (each_once c.args.b c.args.nflip)
