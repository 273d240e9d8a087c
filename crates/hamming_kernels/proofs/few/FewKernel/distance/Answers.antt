use Rattle.std.proofs.Common.{◌≡◌, ℕ, ◌*◌, ◌≤◌, List, length, sym, ap, ◌∙◌, arith}
use Rattle.bcodes.specs.Bits.{differing}
use Rattle.bcodes.proofs.BitLemmas.{differing-le}
use Rattle.hamming_kernels.proofs.LaneLemmas.{differing_front}
use Rattle.hamming_kernels.proofs.few.FewKernel.distance.Goals as goal

pub returns : goal.returns
returns g c =
    let code = c.args.code.now in
    let bytes = c.self.inside.bytes.now in
    let same : length code ≡ length bytes = c.requires ∙ ap length (sym c.self.view_is) in
    let most : 8 * g.row.W ≤ length code = omega (arith, same, c.self.invariant.2) in
    differing_front code bytes c.self.inside.front g.row.W c.distance-in_words.result c.differing_in_last.result
    c.self.invariant.4 most
    (omega (arith, same, c.self.invariant.3)) c.distance-in_words.ensures c.differing_in_last.ensures
    ∙ ap (λ (y : List ℕ). differing code y 0 (8 * length code)) c.self.view_is

pub overflow_add-result : goal.overflow_add-result
overflow_add-result g c =
    let same : length c.args.code.now ≡ length c.self.inside.bytes.now = c.requires ∙ ap length (sym c.self.view_is) in
    omega (
      arith,
      returns g c,
      differing-le c.args.code.now c.args.self.now 0 (8 * length c.args.code.now),
      same,
      c.self.invariant.1,
      c.self.invariant.3,
    )
