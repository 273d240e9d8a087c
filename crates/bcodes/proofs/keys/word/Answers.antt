use Rattle.std.proofs.Common.{◌≡◌, ℕ, ◌*◌, ◌^◌, ◌<◌, length, get_or, min, ap, ◌∙◌, arith}
use Rattle.bcodes.specs.Bits.{key}
use Rattle.bcodes.proofs.KeyLemmas.{key-bytes, key-none}
use Rattle.bcodes.proofs.keys.word.Goals as goal

pub returns-then-bytes-lt-WORD : goal.returns-then-bytes-lt-WORD
returns-then-bytes-lt-WORD c =
    let all : 8 * length c.args.bytes.now ≡ min 64 (8 * length c.args.bytes.now) = omega arith in
    c.word_of_few.ensures ∙ ap (key c.args.bytes.now 0) all

pub returns : goal.returns
returns c =
    let bytes = c.args.bytes.now in
    let whole : min 64 (8 * length bytes) ≡ 64 = omega arith in
    let small : (j : ℕ) → get_or bytes j 0 < 2 ^ 8 = λ j. omega (arith, c.type_inv.bytes j) in
    let first = key-bytes bytes 0 (small 0) in
    let second = key-bytes bytes 1 (small 1) in
    let third = key-bytes bytes 2 (small 2) in
    let fourth = key-bytes bytes 3 (small 3) in
    let fifth = key-bytes bytes 4 (small 4) in
    let sixth = key-bytes bytes 5 (small 5) in
    let seventh = key-bytes bytes 6 (small 6) in
    let eighth = key-bytes bytes 7 (small 7) in
    omega (
      arith,
      key-none bytes 0,
      first,
      second,
      third,
      fourth,
      fifth,
      sixth,
      seventh,
      eighth,
      ap
          (key bytes 0) whole,
      c.from_le_bytes.ensures,
    )
