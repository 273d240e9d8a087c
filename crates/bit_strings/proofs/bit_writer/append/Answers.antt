use Rattle.std.proofs.Common.{◌≡◌, ◌+◌, ◌*◌, ◌%◌, ◌^◌, ap, ◌∙◌, ◌++◌, arith}
use Rattle.bit_strings.proofs.WordLemmas.{IsHeld, held, IsFlushed, flushed, shifted}
use Rattle.bit_strings.proofs.bit_writer.append.Goals as goal
use Rattle.bit_strings.proofs.bit_writer.append.Goals.{Then-filled-lt-WORD_BITS, After-push_bytes}

-- the word and the number above it
held_of : (c : Then-filled-lt-WORD_BITS)
    → IsHeld c.args.bytes.now.items c.args.filled c.args.n c.args.word c.args.x c.low_word-low.result
held_of c =
    let above : c.from-2.result * 2 ^ c.args.filled % 2 ^ 128 ≡ c.args.x * 2 ^ c.args.filled
    = ap (λ x. x * 2 ^ c.args.filled % 2 ^ 128) c.from-2.ensures
    ∙ shifted c.args.filled c.args.n c.args.x c.requires.number (omega (arith, c.requires.few, c.requires.width)) in
    held _ c.args.filled c.args.n c.args.word c.args.x _ c.low_word-low.result c.requires.below c.requires.number
    c.if-filled-lt-WORD_BITS.true (omega (arith, c.from.ensures, above)) c.low_word-low.ensures

pub returns-then-filled-lt-WORD_BITS-clause-bits : goal.returns-then-filled-lt-WORD_BITS-clause-bits
returns-then-filled-lt-WORD_BITS-clause-bits c = let word = held_of c in word.bits

pub returns-then-filled-lt-WORD_BITS-clause-below : goal.returns-then-filled-lt-WORD_BITS-clause-below
returns-then-filled-lt-WORD_BITS-clause-below c = let word = held_of c in word.below

flushed_of : (c : After-push_bytes)
    → IsFlushed c.args.bytes.now.items c.push_bytes.new.bytes.items c.args.filled c.args.n c.args.word c.args.x
    (c.from.result + c.from-2.result * 2 ^ c.args.filled % 340282366920938463463374607431768211456)
flushed_of c =
    let above : c.from-2.result * 2 ^ c.args.filled % 2 ^ 128 ≡ c.args.x * 2 ^ c.args.filled
    = ap (λ x. x * 2 ^ c.args.filled % 2 ^ 128) c.from-2.ensures
    ∙ shifted c.args.filled c.args.n c.args.x c.requires.number (omega (arith, c.requires.few, c.requires.width)) in
    flushed _ _ c.args.filled c.args.n c.args.word c.args.x _ c.low_word-low.result c.requires.below
    c.requires.number c.if-filled-lt-WORD_BITS.false (omega (arith, c.from.ensures, above)) c.low_word-low.ensures
    (c.push_bytes.ensures.items ∙ ap (λ more. c.args.bytes.now.items ++ more) c.to_le_bytes.ensures)

pub returns-clause-bits : goal.returns-clause-bits
returns-clause-bits c = let word = flushed_of c in word.bits

pub returns-clause-below : goal.returns-clause-below
returns-clause-below c = let word = flushed_of c in word.below
