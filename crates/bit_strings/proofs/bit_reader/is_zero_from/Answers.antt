use Rattle.std.proofs.Common.{◌+◌, ◌*◌, ◌<◌, ◌≤◌, length, eq-eqb, ◌∙◌, arith}
use Rattle.bit_strings.proofs.NumberLemmas.{none_left, first_zero, first_not_zero}
use Rattle.bit_strings.proofs.bit_reader.is_zero_from.Goals as goal

pub returns-then-byte-bytes : goal.returns-then-byte-bytes
returns-then-byte-bytes c =
    let end : 8 * length c.args.bytes.now ≤ 8 * c.args.byte + c.args.bit = omega (arith, c.if-byte-bytes.true) in
    eq-eqb _ _ c.if-byte-bytes.true ∙ none_left c.args.bytes.now c.args.byte c.args.bit end

pub returns-then-bytes-byte-eq0 : goal.returns-then-bytes-byte-eq0
returns-then-bytes-byte-eq0 c =
    let here : c.args.byte < length c.args.bytes.now = omega (arith, c.requires.within) in
    first_zero c.args.bytes.now c.args.byte c.args.bit c.are_zero.result (λ i. omega (arith, c.type_inv.bytes i)) c.requires.low here
    c.if-bytes-byte-eq0.true c.are_zero.ensures

pub returns-else-bytes-byte-eq0 : goal.returns-else-bytes-byte-eq0
returns-else-bytes-byte-eq0 c =
    let here : c.args.byte < length c.args.bytes.now = omega (arith, c.requires.within) in
    first_not_zero c.args.bytes.now c.args.byte c.args.bit (λ i. omega (arith, c.type_inv.bytes i)) c.requires.low here
    c.if-bytes-byte-eq0.false
