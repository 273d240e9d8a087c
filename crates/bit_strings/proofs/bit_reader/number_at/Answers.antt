use Rattle.std.proofs.Common.{◌*◌, ◌+◌, ◌≤◌, length, sym, ap, ◌∙◌, arith}
use Rattle.bcodes.specs.Bits.{key}
use Rattle.bcodes.proofs.KeyLemmas.{key-none}
use Rattle.bit_strings.proofs.NumberLemmas.{key_behind}
use Rattle.bit_strings.proofs.bit_reader.number_at.Goals as goal

pub returns-then-n-eq0 : goal.returns-then-n-eq0
returns-then-n-eq0 c =
    let at = 8 * c.args.byte + c.args.bit in
    sym (ap (key c.args.bytes.now at) c.if-n-eq0.true ∙ key-none c.args.bytes.now at)

pub returns : goal.returns
returns c =
    let le : c.args.byte ≤ length c.args.bytes.now = omega (arith, c.requires.within) in
    c.number_in.ensures ∙ key_behind c.args.bytes.now c.args.byte c.args.bit c.args.n le
