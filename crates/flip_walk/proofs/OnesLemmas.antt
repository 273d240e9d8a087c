-- Lemmas on the number of one bits.
use Rattle.std.proofs.Common.{◌≡◌, ℕ, zero, suc, ◌+◌, ◌*◌, ◌/◌, ◌%◌, ◌^◌, ◌<◌, ◌≤◌, ◌⊎◌, inl, inr, refl, sym, ap, ◌∙◌}
use Rattle.std.proofs.Common.{arith}
use Rattle.std.specs.Int.RustNames.{count_ones}
use Rattle.std.proofs.lemmas.Nat.{ones_cat, ones-le, pow_pos}
use Rattle.std.proofs.Math.Nat.{two-pow-succ}

pub ones-zero : count_ones 0 ≡ 0
unfolding count_ones
ones-zero = refl

pub ones-one : count_ones 1 ≡ 1
unfolding count_ones
ones-one = refl

low_ones : (t : ℕ) → t < 2 ^ 1 → count_ones t ≡ t
low_ones zero h = ones-zero
low_ones (suc zero) h = ones-one
low_ones (suc (suc t)) h = absurd (omega arith)

-- the bits of a number but the lowest, and the lowest
pub record Low (n m t : ℕ) : Type 0 where
  pub bit : (t ≡ 0) ⊎ (t ≡ 1)
  pub whole : n ≡ m * 2 + t
  pub ones : count_ones n ≡ count_ones m + t

bit_cases : (t : ℕ) → t < 2 ^ 1 → (t ≡ 0) ⊎ (t ≡ 1)
bit_cases zero h = inl refl
bit_cases (suc zero) h = inr refl
bit_cases (suc (suc t)) h = absurd (omega arith)

pub low_of : (n : ℕ) → Low n (n / 2) (n % 2)
low_of n =
    let low : n % 2 < 2 ^ 1 = omega arith in
    let whole : n ≡ n / 2 * 2 + n % 2 = omega arith in
    record {
      bit = bit_cases (n % 2) low;
      whole = whole;
      ones = ap count_ones whole ∙ ones_cat 1 (n / 2) (n % 2) low ∙ ap (λ k. count_ones (n / 2) + k)
          (low_ones (n % 2) low);
    }

pub pow_same : (m n : ℕ) → n ≡ m + 0 → 2 ^ n ≡ 2 ^ m
pow_same m n e = let f : n ≡ m = omega arith in ap (λ (k : ℕ). 2 ^ k) f

pub pow_double : (m n : ℕ) → n ≡ m + 1 → 2 ^ n ≡ 2 ^ m + 2 ^ m
pow_double m n e = let f : n ≡ suc m = omega arith in ap (λ (k : ℕ). 2 ^ k) f ∙ two-pow-succ m

least_step : (l m t n o : ℕ) → (t ≡ 0) ⊎ (t ≡ 1) → l ≡ m * 2 + t → n ≡ o + t → 2 ^ o ≤ m + 1 → 2 ^ n ≤ l + 1
least_step l m t n o (inl z) w e h = let f : n ≡ o + 0 = omega arith in omega (arith, pow_same o n f)
least_step l m t n o (inr z) w e h = let f : n ≡ o + 1 = omega arith in omega (arith, pow_double o n f)

half_below : (l m t k : ℕ) → l ≡ m * 2 + t → l < 2 ^ suc k → m < 2 ^ k
half_below l m t k w h = omega (arith, two-pow-succ k)

-- a number with r one bits is at least that of the r lowest bits
pub least_ones : (k l : ℕ) → l < 2 ^ k → 2 ^ count_ones l ≤ l + 1
least_ones zero l h =
    let none : l ≡ 0 = omega arith in
    let ones : count_ones l ≡ 0 = ap count_ones none ∙ ones-zero in
    omega (arith, ap (λ (m : ℕ). 2 ^ m) ones)
least_ones (suc k) l h =
    let low = low_of l in
    least_step l (l / 2) (l % 2) (count_ones l) (count_ones (l / 2)) low.bit low.whole low.ones
    (least_ones k (l / 2) (half_below l (l / 2) (l % 2) k low.whole h))

most_step : (n l m t k o : ℕ) → (t ≡ 0) ⊎ (t ≡ 1) → l ≡ m * 2 + t → k + (o + t) ≡ suc n → m < 2 ^ n → o ≤ n
    → ((j : ℕ) → j + o ≡ n → m + 2 ^ j ≤ 2 ^ n) → l + 2 ^ k ≤ 2 ^ suc n
most_step n l m t zero o (inl z) w e below few step = absurd (omega arith)
most_step n l m t (suc k) o (inl z) w e below few step =
    let f : k + o ≡ n = omega arith in
    omega (arith, step k f, two-pow-succ k, two-pow-succ n)
most_step n l m t k o (inr z) w e below few step =
    let f : k + o ≡ n = omega arith in
    omega (arith, step k f, two-pow-succ n, pow_pos k)

-- a number below 2 ^ n with n - k one bits is at most that of the highest of the n bits
pub most_ones : (n l k : ℕ) → l < 2 ^ n → k + count_ones l ≡ n → l + 2 ^ k ≤ 2 ^ n
most_ones zero l k h e =
    let none : l ≡ 0 = omega arith in
    let k_none : k ≡ 0 = omega arith in
    omega (arith, ap (λ (m : ℕ). 2 ^ m) k_none)
most_ones (suc n) l k h e =
    let low = low_of l in
    let below = half_below l (l / 2) (l % 2) n low.whole h in
    most_step n l (l / 2) (l % 2) k (count_ones (l / 2)) low.bit low.whole (sym (ap (λ o. k + o) low.ones) ∙ e) below
    (ones-le n (l / 2) below) (λ j f. most_ones n (l / 2) j below f)
