-- Lemmas on the lowest bits of a number.
use Rattle.std.proofs.Common.{◌≡◌, ℕ, zero, suc, ◌+◌, ◌-◌, ◌*◌, ◌/◌, ◌%◌, ◌^◌, ◌<◌, ◌≤◌, sym, ap, ◌∙◌, arith}
use Rattle.std.specs.Int.{bit_at, w64, trailing_zeros, trailing_ones}
use Rattle.std.proofs.lemmas.Nat.{pow_pos, mod_below}
use Rattle.std.proofs.lemmas.Nat.Bits.{same_from_bits_below, bit_at-zero, bit_at_ones, bit_at_cat_low}
use Rattle.std.proofs.lemmas.Nat.Bits.{bit_at-trailing_zeros, bit_at-trailing_ones}

-- the k lowest bits of n
low_bit : (n k i : ℕ) → i < k → bit_at (n % 2 ^ k) i ≡ bit_at n i
low_bit n k i h =
    let whole : n ≡ n / 2 ^ k * 2 ^ k + n % 2 ^ k = omega (arith, pow_pos k) in
    sym (ap (λ m. bit_at m i) whole ∙ bit_at_cat_low (n / 2 ^ k) k (n % 2 ^ k) i h)

pub low_zeros : (n k : ℕ) → ((i : ℕ) → i < k → bit_at n i ≡ 0) → n % 2 ^ k ≡ 0
low_zeros n k h = same_from_bits_below k (n % 2 ^ k) 0 (mod_below n (2 ^ k) (pow_pos k)) (pow_pos k)
    (λ i l. low_bit n k i l ∙ h i l ∙ sym (bit_at-zero i))

pub low_ones : (n k : ℕ) → ((i : ℕ) → i < k → bit_at n i ≡ 1) → n % 2 ^ k ≡ 2 ^ k - 1
low_ones n k h = same_from_bits_below k (n % 2 ^ k) (2 ^ k - 1) (mod_below n (2 ^ k) (pow_pos k))
    (omega (arith, pow_pos k)) (λ i l. low_bit n k i l ∙ h i l ∙ sym (bit_at_ones k i l))

pub record Zeros (n k : ℕ) : Type 0 where
  pub most : k < 64
  pub zeros : n % 2 ^ k ≡ 0
  pub end : n / 2 ^ k % 2 ≡ 1

pub zeros_of : (n k : ℕ) → 0 < n → n < 2 ^ 64 → k ≡ trailing_zeros w64 n → Zeros n k
zeros_of n k some small e =
    let t = bit_at-trailing_zeros w64 n some small in
    record {
      most = rw e t.0;
      zeros = rw e (low_zeros n (trailing_zeros w64 n) t.2);
      end = rw e t.1;
    }

pub record Ones (n k : ℕ) : Type 0 where
  pub least : 1 ≤ k
  pub most : k < 64
  pub run : n % 2 ^ k ≡ 2 ^ k - 1
  pub end : n / 2 ^ k % 2 ≡ 0

some_ones : (n k : ℕ) → n % 2 ≡ 1 → n / 2 ^ k % 2 ≡ 0 → 1 ≤ k
some_ones n zero odd end =
    let e : n / 2 ^ 0 ≡ n = omega arith in
    absurd (omega (arith, ap (λ m. m % 2) e))
some_ones n (suc k) odd end = omega arith

pub ones_of : (n k : ℕ) → n < 2 ^ 64 → n % 2 ≡ 1 → (n ≡ 18446744073709551615 → ⊥) → k ≡ trailing_ones w64 n → Ones n k
ones_of n k small odd not_all e =
    let room : n + 1 < 2 ^ 64 = omega arith in
    let t = bit_at-trailing_ones w64 n room in
    record {
      least = some_ones n k odd (rw e t.1);
      most = rw e t.0;
      run = rw e (low_ones n (trailing_ones w64 n) t.2);
      end = rw e t.1;
    }
