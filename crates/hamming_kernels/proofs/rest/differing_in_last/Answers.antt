use Rattle.std.proofs.Common.{◌≡◌, ℕ, ◌+◌, ◌-◌, ◌*◌, List, length, take, drop, sym, ap, ◌∙◌, arith}
use Rattle.std.proofs.lemmas.List.{length-drop, take_rest}
use Rattle.byteorder.specs.Endian.{little_number}
use Rattle.bcodes.specs.Bits.{differing}
use Rattle.hamming_kernels.proofs.WordLemmas.{AreBytes-fits, shifted_differing}
use Rattle.hamming_kernels.proofs.LaneLemmas.{differing-drop}
use Rattle.hamming_kernels.proofs.rest.differing_in_last.Goals as goal

pub returns-then-bytes-eq0 : goal.returns-then-bytes-eq0
unfolding differing
returns-then-bytes-eq0 c =
    let code = c.args.code.now in
    let none : 8 * c.args.bytes ≡ 0 = omega arith in
    sym (ap (differing code c.args.query.now (8 * (length code - c.args.bytes))) none)

pub returns-then-size-lt-WORD : goal.returns-then-size-lt-WORD
returns-then-size-lt-WORD c =
    let code = c.args.code.now in
    let query = c.args.query.now in
    let at = length code - c.args.bytes in
    let left = take (length code - at) (drop at code) in
    let right = take (length query - at) (drop at query) in
    let bits : 8 * length left ≡ 8 * c.args.bytes = omega (arith, ap length (take_rest code at), length-drop at code) in
    let from : 8 * at + 0 ≡ 8 * at = omega arith in
    c.distance_plain.ensures.value ∙ ap (differing left right 0) bits
    ∙ ap (λ (xs : List ℕ). differing xs right 0 (8 * c.args.bytes)) (take_rest code at)
    ∙ ap (λ (ys : List ℕ). differing (drop at code) ys 0 (8 * c.args.bytes)) (take_rest query at)
    ∙ differing-drop code query at 0 (8 * c.args.bytes)
    ∙ ap (λ (j : ℕ). differing code query j (8 * c.args.bytes)) from

pub returns-else-size-lt-WORD : goal.returns-else-size-lt-WORD
returns-else-size-lt-WORD c =
    let code = c.args.code.now in
    let query = c.args.query.now in
    let bytes = c.args.bytes in
    let last = length code - 8 in
    let all : (8 - bytes) + bytes ≡ 8 = omega arith in
    let from : 8 * (last + (8 - bytes)) ≡ 8 * (length code - bytes) = omega arith in
    shifted_differing code query (8 - bytes) bytes last c.read_u64-word.result c.read_u64.result all
    (AreBytes-fits code c.type_inv.code) (AreBytes-fits query c.type_inv.query)
    (c.read_u64-word.ensures ∙ ap (little_number 8) (take_rest code last))
    (c.read_u64.ensures ∙ ap (little_number 8) (take_rest query last))
    ∙ ap (λ (j : ℕ). differing code query j (8 * bytes)) from
