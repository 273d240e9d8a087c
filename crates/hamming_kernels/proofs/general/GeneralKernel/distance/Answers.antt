use Rattle.std.proofs.Common.{◌≡◌, ℕ, ◌+◌, ◌-◌, ◌*◌, ◌/◌, ◌%◌, List, length, sym, ap, ◌∙◌, arith}
use Rattle.bcodes.specs.Bits.{differing}
use Rattle.bcodes.proofs.BitLemmas.{differing-add, differing-le}
use Rattle.hamming_kernels.proofs.general.GeneralKernel.distance.Goals as goal

-- the bits of the parts, those of the words after them, and those of the last bytes
all_parts : (x y : List ℕ) (n parts words last : ℕ) → parts ≡ differing x y 0 (256 * (n / 32))
    → words ≡ differing x y (64 * (4 * (n / 32))) (64 * (n / 8 - 4 * (n / 32)))
    → last ≡ differing x y (8 * (n - n % 8)) (8 * (n % 8)) → parts + words + last ≡ differing x y 0 (8 * n)
all_parts x y n parts words last ep ew el =
    let a = 256 * (n / 32) in
    let b = 64 * (n / 8 - 4 * (n / 32)) in
    let c = 8 * (n % 8) in
    let from_words : 64 * (4 * (n / 32)) ≡ 0 + a = omega arith in
    let from_last : 8 * (n - n % 8) ≡ 0 + (a + b) = omega arith in
    let all : 8 * n ≡ (a + b) + c = omega arith in
    let in_words : words ≡ differing x y (0 + a) b = ew ∙ ap (λ (j : ℕ). differing x y j b) from_words in
    let in_last : last ≡ differing x y (0 + (a + b)) c = el ∙ ap (λ (j : ℕ). differing x y j c) from_last in
    ap (λ (k : ℕ). k + words + last) ep ∙ ap (λ (k : ℕ). differing x y 0 a + k + last) in_words
    ∙ ap (λ (k : ℕ). k + last) (sym (differing-add x y 0 a b)) ∙ ap (λ (k : ℕ). differing x y 0 (a + b) + k) in_last
    ∙ sym (differing-add x y 0 (a + b) c) ∙ sym (ap (differing x y 0) all)

pub returns : goal.returns
returns c =
    let code = c.args.code.now in
    let query = c.self.inside.bytes.now in
    all_parts code query (length code) c.differing_in_parts.result c.differing_in_words.result
    c.differing_in_last.result
    c.differing_in_parts.ensures c.differing_in_words.ensures c.differing_in_last.ensures
    ∙ ap (λ (y : List ℕ). differing code y 0 (8 * length code)) c.self.view_is

pub overflow_add-result : goal.overflow_add-result
overflow_add-result c =
    let code = c.args.code.now in
    let query = c.self.inside.bytes.now in
    let n = length code in
    let parts = differing-le code query 0 (256 * (n / 32)) in
    let words = differing-le code query (64 * (4 * (n / 32))) (64 * (n / 8 - 4 * (n / 32))) in
    omega (
      arith,
      parts,
      words,
      c.differing_in_parts.ensures,
      c.differing_in_words.ensures,
      c.requires,
      ap length
          c.self.view_is,
    )

pub overflow_add-result-2 : goal.overflow_add-result-2
overflow_add-result-2 c =
    omega (
      arith,
      returns c,
      differing-le c.args.code.now c.args.self.now 0 (8 * length c.args.code.now),
      c.requires,
      ap
          length c.self.view_is,
    )
