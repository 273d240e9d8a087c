-- The bits in which two keys differ.
use Rattle.std.proofs.Common.{◌≡◌, ℕ, zero, suc, ◌+◌, ◌*◌, ◌^◌, ◌<◌, ◌⊎◌, inl, inr, cond, nat_eq, List, refl, ap, ◌∙◌}
use Rattle.std.proofs.Common.{arith, bit_xor}
use Rattle.std.specs.Int.RustNames.{count_ones}
use Rattle.std.proofs.lemmas.Nat.{ones_cat, xor_block, xor_lt}
use Rattle.bcodes.specs.Bits.{bit, differs_at, differing, key}
use Rattle.bcodes.proofs.KeyLemmas.{key_below}

bit_cases : (t : ℕ) → t < 2 → (t ≡ 0) ⊎ (t ≡ 1)
bit_cases zero h = inl refl
bit_cases (suc zero) h = inr refl
bit_cases (suc (suc t)) h = absurd (omega arith)

bit_is : (x : List ℕ) (j : ℕ) → (bit x j ≡ 0) ⊎ (bit x j ≡ 1)
bit_is x j = bit_cases (bit x j) (omega arith)

-- one bit of a difference
xor_bits : (m n : ℕ) → (m ≡ 0) ⊎ (m ≡ 1) → (n ≡ 0) ⊎ (n ≡ 1) → count_ones (bit_xor m n) ≡ cond (nat_eq m n) 0 1
unfolding count_ones
xor_bits m n (inl e) (inl f) = rw (e, f) refl
xor_bits m n (inl e) (inr f) = rw (e, f) refl
xor_bits m n (inr e) (inl f) = rw (e, f) refl
xor_bits m n (inr e) (inr f) = rw (e, f) refl

-- two keys differ in as many bits as the codes differ in among the bits of the keys
pub ones-key_xor : (x y : List ℕ) (from b : ℕ) → count_ones (bit_xor (key x from b) (key y from b)) ≡ differing x y from b
unfolding key differing count_ones
ones-key_xor x y from zero = refl
ones-key_xor x y from (suc t) =
    let a = bit x (from + t) in
    let b = bit y (from + t) in
    let r = key x from t in
    let s = key y from t in
    let small : bit_xor r s < 2 ^ t = xor_lt t r s (key_below x from t) (key_below y from t) in
    let turn_x : r + a * 2 ^ t ≡ a * 2 ^ t + r = omega arith in
    let turn_y : s + b * 2 ^ t ≡ b * 2 ^ t + s = omega arith in
    let block : bit_xor (a * 2 ^ t + r) (b * 2 ^ t + s) ≡ bit_xor a b * 2 ^ t + bit_xor r s = xor_block t a b r s
    (key_below x from t) (key_below y from t) in
    ap (λ n. count_ones (bit_xor n (s + b * 2 ^ t))) turn_x ∙ ap (λ n. count_ones (bit_xor (a * 2 ^ t + r) n)) turn_y
    ∙ ap count_ones block
    ∙ ones_cat t (bit_xor a b) (bit_xor r s) small
    ∙ ap (λ n. n + count_ones (bit_xor r s)) (xor_bits a b (bit_is x (from + t)) (bit_is y (from + t)))
    ∙ ap (λ n. differs_at x y (from + t) + n) (ones-key_xor x y from t)
    ∙ omega arith
