use Rattle.std.proofs.Common.{◌≡◌, ◌+◌, ◌-◌, ◌*◌, ◌≤◌, drop, sym, ap, ◌∙◌, arith, bit_xor, count_ones}
use Rattle.std.proofs.lemmas.List.{take_rest}
use Rattle.byteorder.specs.Endian.{little_number}
use Rattle.bcodes.specs.Bits.{differing}
use Rattle.bcodes.proofs.BitLemmas.{differing-add, differing-le}
use Rattle.hamming_kernels.proofs.WordLemmas.{AreBytes-fits, word_differing}
use Rattle.hamming_kernels.proofs.rest.differing_in_words.Goals as goal

pub loop-i-init : goal.loop-i-init
unfolding differing
loop-i-init c =
    let none : 64 * (c.args.from - c.args.from) ≡ 0 = omega arith in
    sym (ap (differing c.args.code.now c.args.query.now (64 * c.args.from)) none)

pub loop-i-preserved : goal.loop-i-preserved
loop-i-preserved c =
    let code = c.args.code.now in
    let query = c.args.query.now in
    let from = 64 * c.args.from in
    let i = c.loop-i.i in
    let before = 64 * (i - c.args.from) in
    let later : c.args.from ≤ i = omega arith in
    let of_code : c.read_u64-word.result ≡ little_number 8 (drop (8 * i) code) = c.read_u64-word.ensures
    ∙ ap (little_number 8) (take_rest code (8 * i)) in
    let of_query : c.read_u64.result ≡ little_number 8 (drop (8 * i) query) = c.read_u64.ensures ∙ ap (little_number 8)
    (take_rest query (8 * i)) in
    let word : count_ones (bit_xor c.read_u64-word.result c.read_u64.result) ≡ differing code query (8 * (8 * i)) 64 =
    word_differing code query 8 (8 * i) c.read_u64-word.result c.read_u64.result
    (AreBytes-fits code c.type_inv.code) (AreBytes-fits query c.type_inv.query) of_code of_query in
    let here : from + before ≡ 8 * (8 * i) = omega arith in
    let next : 64 * (i + 1 - c.args.from) ≡ before + 64 = omega arith in
    let both : differing code query from (64 * (i + 1 - c.args.from)) ≡ differing code query from before + differing
    code query (8 * (8 * i)) 64 =
    ap (differing code query from) next ∙ differing-add code query from before 64
    ∙ ap (λ j. differing code query from before + differing code query j 64) here in
    omega (arith, word, both, c.loop-i.invariant)

pub overflow_add-total : goal.overflow_add-total
overflow_add-total c =
    omega (
      arith,
      loop-i-preserved c,
      differing-le c.args.code.now c.args.query.now (64 * c.args.from)
          (64 * (c.loop-i.i + 1 - c.args.from)),
    )
