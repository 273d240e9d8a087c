use Rattle.std.proofs.Common.{◌≡◌, ◌*◌, ◌/◌, ◌≤◌, ℕ, List, [], length, ap, ◌∙◌, arith, subst, sym}
use Rattle.bcodes.proofs.BitLemmas.{differing-le}
use Rattle.multi_hash.proofs.compare.hit_at.Goals as goal

pub returns-clause-bits : goal.returns-clause-bits
returns-clause-bits g c =
    let code : List ℕ = c.code.result.now in
    let size : length code ≡ c.args.storage.now.dim / 8 = ap length c.code.ensures.code
    ∙ (c.dim-dim.ensures.legal.codes c.args.position [] c.requires.known).size in
    omega (
      arith,
      c.distance-distance.ensures,
      differing-le code c.args.kernel.now 0 (8 * length code),
      size,
      c.requires.size,
    )
