use Rattle.std.proofs.Common.{◌≡◌, ℕ, ◌+◌, ◌-◌, ◌*◌, ◌/◌, ◌%◌, ◌^◌, ◌≤◌, get_or, ap, ◌∙◌, arith}
use Rattle.bcodes.specs.Bits.{key}
use Rattle.bcodes.proofs.KeyLemmas.{IsKeySum, key_in_word, key_past_word}
use Rattle.bit_strings.proofs.bit_reader.number_in.Goals as goal
use Rattle.bit_strings.proofs.bit_reader.number_in.Goals.{After-lowest_bits-else-from-n-le-WORD_BITS}

pub returns-then-from-n-le-WORD_BITS : goal.returns-then-from-n-le-WORD_BITS
returns-then-from-n-le-WORD_BITS c =
    let x = c.args.bytes.now in
    let m = 8 * c.min.result in
    let none : 0 * m ≡ 0 = omega arith in
    let fits : c.args.from + c.args.n ≤ m = omega (arith, c.requires.within) in
    c.lowest_bits.ensures
    ∙ key_in_word x (0 * m) m c.args.from c.args.n c.chunk-word.result c.chunk-word.ensures fits
    ∙ ap (λ (j : ℕ). key x j c.args.n) (omega (arith, none))

-- the bits in the word and those in the byte after it
sum_of : (c : After-lowest_bits-else-from-n-le-WORD_BITS)
    → IsKeySum c.args.bytes.now c.args.from c.args.n (c.chunk-word.result / 2 ^ c.args.from)
    ((c.lowest_bits-else-from-n-le-WORD_BITS.result * 2 ^ (c.args.n - (c.args.from + c.args.n - 64)))
    % 18446744073709551616)
sum_of c =
    let x = c.args.bytes.now in
    let left = c.args.from + c.args.n - 64 in
    let whole : 8 * c.min.result ≡ 64 = omega (arith, c.requires.within) in
    let start : 0 * (8 * c.min.result) ≡ 8 * 0 = omega arith in
    let word : c.chunk-word.result ≡ key x (8 * 0) 64 = c.chunk-word.ensures
    ∙ ap (λ (j : ℕ). key x j (8 * c.min.result)) start ∙ ap (key x (8 * 0)) whole in
    let bits : c.lowest_bits-else-from-n-le-WORD_BITS.result ≡ get_or x (0 + 8) 0 % 2 ^ left =
    c.lowest_bits-else-from-n-le-WORD_BITS.ensures ∙ ap (λ (byte : ℕ). byte % 2 ^ left) c.from.ensures in
    let count : left + 64 ≡ c.args.from + c.args.n = omega arith in
    let few : c.args.from ≤ 7 = omega (arith, c.requires.bit) in
    key_past_word x c.args.from 0 c.args.from c.args.n left c.chunk-word.result
    c.lowest_bits-else-from-n-le-WORD_BITS.result (omega arith) count c.requires.most few word bits

pub overflow_add-result : goal.overflow_add-result
overflow_add-result c = let sum = sum_of c in omega (arith, sum.fits)

pub returns-else-from-n-le-WORD_BITS : goal.returns-else-from-n-le-WORD_BITS
returns-else-from-n-le-WORD_BITS c = let sum = sum_of c in sum.is
