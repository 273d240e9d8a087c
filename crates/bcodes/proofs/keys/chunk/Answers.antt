use Rattle.std.proofs.Common.{◌≡◌, ℕ, ◌+◌, ◌-◌, ◌*◌, ◌/◌, ◌%◌, ◌^◌, ◌≤◌, length, get_or, min, ap, ◌∙◌, arith}
use Rattle.bcodes.specs.Bits.{key}
use Rattle.bcodes.proofs.KeyLemmas.{IsKeySum, key_in_word, key_past_word, word_from}
use Rattle.bcodes.proofs.keys.chunk.Goals as goal
use Rattle.bcodes.proofs.keys.chunk.Goals.{After-lowest_bits-else-shift-b-le-WORD_BITS}

pub returns-then-shift-b-le-WORD_BITS : goal.returns-then-shift-b-le-WORD_BITS
returns-then-shift-b-le-WORD_BITS c =
    let x = c.args.x.now in
    let b = c.args.b in
    let from = c.args.i * b in
    let at = c.min-at.result in
    let m = min 64 (8 * (length x - at)) in
    let within : from + b ≤ 8 * length x = omega (arith, c.requires.within) in
    let word = word_from x at c.word.result (omega arith) c.word.ensures in
    let place : 8 * at + (from - 8 * at) ≡ from = omega arith in
    let fits : (from - 8 * at) + b ≤ m = omega arith in
    c.lowest_bits.ensures ∙ key_in_word x (8 * at) m (from - 8 * at) b c.word.result word fits
    ∙ ap (λ (j : ℕ). key x j b) place

-- the bits in the word and those in the byte after it
sum_of : (c : After-lowest_bits-else-shift-b-le-WORD_BITS)
    → IsKeySum c.args.x.now (c.args.i * c.args.b) c.args.b
    (c.word.result / 2 ^ (c.args.i * c.args.b - 8 * c.min-at.result))
    ((c.lowest_bits-else-shift-b-le-WORD_BITS.result * 2 ^
    (c.args.b - (c.args.i * c.args.b - 8 * c.min-at.result + c.args.b - 64))) % 18446744073709551616)
sum_of c =
    let x = c.args.x.now in
    let b = c.args.b in
    let from = c.args.i * b in
    let at = c.min-at.result in
    let shift = from - 8 * at in
    let left = shift + b - 64 in
    let within : from + b ≤ 8 * length x = omega (arith, c.requires.within) in
    let place : 8 * at + shift ≡ from = omega arith in
    let whole : min 64 (8 * (length x - at)) ≡ 64 = omega arith in
    let word : c.word.result ≡ key x (8 * at) 64 = word_from x at c.word.result (omega arith) c.word.ensures
    ∙ ap (key x (8 * at)) whole in
    let bits : c.lowest_bits-else-shift-b-le-WORD_BITS.result ≡ get_or x (at + 8) 0 % 2 ^ left =
    c.lowest_bits-else-shift-b-le-WORD_BITS.ensures ∙ ap (λ (byte : ℕ). byte % 2 ^ left) c.from.ensures in
    let count : left + 64 ≡ shift + b = omega arith in
    let few : shift ≤ 7 = omega arith in
    key_past_word x from at shift b left c.word.result c.lowest_bits-else-shift-b-le-WORD_BITS.result place count
    c.requires.most few word bits

pub overflow_add-result : goal.overflow_add-result
overflow_add-result c = let sum = sum_of c in omega (arith, sum.fits)

pub returns-else-shift-b-le-WORD_BITS : goal.returns-else-shift-b-le-WORD_BITS
returns-else-shift-b-le-WORD_BITS c = let sum = sum_of c in sum.is
