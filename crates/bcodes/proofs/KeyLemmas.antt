-- Lemmas on the keys of runs of bits.
use Rattle.std.proofs.Common.{◌≡◌, ℕ, zero, suc, ◌+◌, ◌-◌, ◌*◌, ◌/◌, ◌%◌, ◌^◌, ◌<◌, ◌≤◌, ◌⊎◌, inl, inr, List, length}
use Rattle.std.proofs.Common.{get_or, take, drop, min, refl, sym, ap, ◌∙◌, arith, add-zero, lit<}
use Rattle.std.specs.Int.{bit_at}
use Rattle.std.proofs.lemmas.Nat.{div-mul-add, pow-add, mod-pow-add}
use Rattle.std.proofs.lemmas.Nat.Bits.{bit_at-lt}
use Rattle.std.proofs.lemmas.List.{get_or-drop, length-drop, take_rest}
use Rattle.std.proofs.Math.Nat.{add-mul-mod_self_right, lt_of_lt_of_le, mod-eq_of_lt, pow-le-pow_right, two-pow-succ}
use Rattle.bcodes.specs.Bits.{bit, key}
use Rattle.bcodes.proofs.BitLemmas.{bit-byte}

bit_cases : (t : ℕ) → t < 2 → (t ≡ 0) ⊎ (t ≡ 1)
bit_cases zero h = inl refl
bit_cases (suc zero) h = inr refl
bit_cases (suc (suc t)) h = absurd (omega arith)

-- a key of b bits is below 2 ^ b
pub key_below : (x : List ℕ) (from b : ℕ) → key x from b < 2 ^ b
unfolding key
key_below x from zero = omega arith
key_below x from (suc t) =
    elim (bit_cases (bit x (from + t)) (bit_at-lt (get_or x ((from + t) / 8) 0) ((from + t) % 8))) [
      | inl z ↦ omega (arith, key_below x from t, two-pow-succ t, ap (λ n. n * 2 ^ t) z)
      | inr o ↦ omega (arith, key_below x from t, two-pow-succ t, ap (λ n. n * 2 ^ t) o)
    ]

-- the first m bits and the n bits after them
pub key-add : (x : List ℕ) (from m n : ℕ) → key x from (m + n) ≡ key x from m + key x (from + m) n * 2 ^ m
unfolding key
key-add x from m zero = rw (add-zero m) (omega arith)
key-add x from m (suc n) =
    let one : m + suc n ≡ suc (m + n) = omega arith in
    let here : from + (m + n) ≡ from + m + n = omega arith in
    let power : bit x (from + (m + n)) * 2 ^ (m + n) ≡ bit x (from + m + n) * (2 ^ m * 2 ^ n) =
    ap (λ k. bit x (from + (m + n)) * k) (pow-add 2 m n) ∙ ap (λ j. bit x j * (2 ^ m * 2 ^ n)) here in
    ap (key x from) one ∙ omega (arith, key-add x from m n, power)

-- the lowest bits of a key
pub key-lowest : (x : List ℕ) (from m n : ℕ) → n ≤ m → key x from m % 2 ^ n ≡ key x from n
key-lowest x from m n le =
    let all : m ≡ n + (m - n) = omega arith in
    let rest = key x (from + n) (m - n) in
    ap (λ k. k % 2 ^ n) (ap (key x from) all ∙ key-add x from n (m - n))
    ∙ add-mul-mod_self_right (key x from n) rest (2 ^ n) ∙ mod-eq_of_lt (key_below x from n)

-- a key without its lowest bits
pub key-shifted : (x : List ℕ) (from m s : ℕ) → s ≤ m → key x from m / 2 ^ s ≡ key x (from + s) (m - s)
key-shifted x from m s le =
    let all : m ≡ s + (m - s) = omega arith in
    let low = key x from s in
    let rest = key x (from + s) (m - s) in
    let turn : low + rest * 2 ^ s ≡ rest * 2 ^ s + low = omega arith in
    ap (λ k. k / 2 ^ s) (ap (key x from) all ∙ key-add x from s (m - s) ∙ turn)
    ∙ div-mul-add rest (2 ^ s) low (key_below x from s)

pub bit-drop : (x : List ℕ) (k j : ℕ) → bit (drop k x) j ≡ bit x (8 * k + j)
bit-drop x k j =
    let e : (8 * k + j) / 8 ≡ k + j / 8 = omega arith in
    let f : (8 * k + j) % 8 ≡ j % 8 = omega arith in
    rw (e, f) (ap (λ (b : ℕ). bit_at b (j % 8)) (get_or-drop k x (j / 8) 0))

-- a key of the bytes from place k on
pub key-drop : (x : List ℕ) (k from n : ℕ) → key (drop k x) from n ≡ key x (8 * k + from) n
unfolding key
key-drop x k from zero = refl
key-drop x k from (suc n) =
    let here : bit (drop k x) (from + n) ≡ bit x (8 * k + from + n) = bit-drop x k (from + n)
    ∙ ap (bit x) (omega arith) in
    let top : bit (drop k x) (from + n) * 2 ^ n ≡ bit x (8 * k + from + n) * 2 ^ n = ap (λ b. b * 2 ^ n) here in
    omega (arith, top, key-drop x k from n)

key-low_bits : (x : List ℕ) (i n : ℕ) → n ≤ 8 → key x (8 * i) n ≡ get_or x i 0 % 2 ^ n
unfolding key
key-low_bits x i zero le = omega arith
key-low_bits x i (suc n) le =
    let byte = get_or x i 0 in
    let one : suc n ≡ 1 + n = omega arith in
    let here : bit x (8 * i + n) * 2 ^ n ≡ bit_at byte n * 2 ^ n = ap (λ b. b * 2 ^ n) (bit-byte x i n (omega arith)) in
    let split : byte % 2 ^ suc n ≡ (byte / 2 ^ n % 2 ^ 1) * 2 ^ n + byte % 2 ^ n = ap (λ k. byte % 2 ^ k) one
    ∙ mod-pow-add byte 1 n in
    omega (arith, here, split, key-low_bits x i n (omega arith))

-- byte i as a key
pub key-byte : (x : List ℕ) (i : ℕ) → get_or x i 0 < 2 ^ 8 → key x (8 * i) 8 ≡ get_or x i 0
key-byte x i small = key-low_bits x i 8 (omega arith) ∙ omega arith

-- the bytes up to byte i, and that byte
pub key-bytes : (x : List ℕ) (i : ℕ) → get_or x i 0 < 2 ^ 8 → key x 0 (8 * (i + 1)) ≡ key x 0 (8 * i) + get_or x i 0 *
    2 ^ (8 * i)
key-bytes x i small =
    let next : 8 * (i + 1) ≡ 8 * i + 8 = omega arith in
    ap (key x 0) next ∙ key-add x 0 (8 * i) 8 ∙ ap (λ k. key x 0 (8 * i) + k * 2 ^ (8 * i))
    (ap (λ j. key x j 8) (omega arith) ∙ key-byte x i small)

-- one more byte of a word
pub record IsByteStep (x : List ℕ) (i w : ℕ) : Type 0 where
  pub fits : key x 0 (8 * i) + w < 2 ^ 64
  pub next : key x 0 (8 * i) + w ≡ key x 0 (8 * (i + 1))

pub byte_more : (x : List ℕ) (i v : ℕ) → v ≡ get_or x i 0 → v < 2 ^ 8 → i < 8
    → IsByteStep x i ((v * 2 ^ (8 * i)) % 18446744073709551616)
byte_more x i v is small low =
    let bits : 8 * (i + 1) ≤ 64 = omega arith in
    let all : key x 0 (8 * (i + 1)) < 2 ^ 64 = lt_of_lt_of_le (key_below x 0 (8 * (i + 1)))
    (pow-le-pow_right (lit< tt) bits) in
    let more : key x 0 (8 * (i + 1)) ≡ key x 0 (8 * i) + v * 2 ^ (8 * i) =
    key-bytes x i (omega arith) ∙ ap (λ b. key x 0 (8 * i) + b * 2 ^ (8 * i)) (sym is) in
    let whole : (v * 2 ^ (8 * i)) % 18446744073709551616 ≡ v * 2 ^ (8 * i) = omega (arith, more, all) in
    record { fits = omega (arith, whole, more, all); next = omega (arith, whole, more) }

-- the word that begins at byte `at`
pub word_from : (x : List ℕ) (at w : ℕ) → at ≤ length x
    → w ≡ key (take (length x - at) (drop at x)) 0 (min 64 (8 * length (take (length x - at) (drop at x))))
    → w ≡ key x (8 * at) (min 64 (8 * (length x - at)))
word_from x at w le e =
    let here : 8 * at + 0 ≡ 8 * at = omega arith in
    e ∙ ap (λ (ys : List ℕ). key ys 0 (min 64 (8 * length ys))) (take_rest x at)
    ∙ key-drop x at 0 (min 64 (8 * length (drop at x))) ∙ ap (λ j. key x j (min 64 (8 * length (drop at x)))) here
    ∙ ap (λ n. key x (8 * at) (min 64 (8 * n))) (length-drop at x)

-- the b bits of a word of m bits after its `shift` lowest
pub key_in_word : (x : List ℕ) (first m shift b w : ℕ) → w ≡ key x first m → shift + b ≤ m
    → w / 2 ^ shift % 2 ^ b ≡ key x (first + shift) b
key_in_word x first m shift b w e le =
    ap (λ k. k / 2 ^ shift % 2 ^ b) e ∙ ap (λ k. k % 2 ^ b) (key-shifted x first m shift (omega arith))
    ∙ key-lowest x (first + shift) (m - shift) b (omega arith)

-- the b bits after the `shift` lowest of a word of 64 bits that begins at byte `at`, with those of the byte after it
pub record IsKeySum (x : List ℕ) (from b low high : ℕ) : Type 0 where
  pub fits : low + high < 2 ^ 64
  pub is : low + high ≡ key x from b

pub key_past_word : (x : List ℕ) (from at shift b left w bits : ℕ) → 8 * at + shift ≡ from → left + 64 ≡ shift + b
    → b ≤ 64 → shift ≤ 7
    → w ≡ key x (8 * at) 64 → bits ≡ get_or x (at + 8) 0 % 2 ^ left
    → IsKeySum x from b (w / 2 ^ shift) ((bits * 2 ^ (b - left)) % 18446744073709551616)
key_past_word x from at shift b left w bits place count most few ew eb =
    let top = 64 - shift in
    let low : w / 2 ^ shift ≡ key x from top =
    ap (λ k. k / 2 ^ shift) ew ∙ key-shifted x (8 * at) 64 shift (omega arith) ∙ ap (λ j. key x j top) place in
    let after : 8 * (at + 8) ≡ from + top = omega arith in
    let high : bits ≡ key x (from + top) left =
    eb ∙ sym (key-low_bits x (at + 8) left (omega arith)) ∙ ap (λ j. key x j left) after in
    let shifted : b - left ≡ top = omega arith in
    let all : b ≡ top + left = omega arith in
    let split : key x from b ≡ key x from top + key x (from + top) left * 2 ^ top = ap (key x from) all
    ∙ key-add x from top left in
    let below : key x from b < 2 ^ 64 = lt_of_lt_of_le (key_below x from b) (pow-le-pow_right (lit< tt) most) in
    let product : bits * 2 ^ (b - left) ≡ key x (from + top) left * 2 ^ top =
    ap (λ k. k * 2 ^ (b - left)) high ∙ ap (λ t. key x (from + top) left * 2 ^ t) shifted in
    let whole : (bits * 2 ^ (b - left)) % 18446744073709551616 ≡ key x (from + top) left * 2 ^ top = omega
    (arith, product, split, below) in
    record { fits = omega (arith, low, whole, split, below); is = omega (arith, low, whole, split) }

-- no bits make no key
pub key-none : (x : List ℕ) (from : ℕ) → key x from 0 ≡ 0
unfolding key
key-none x from = refl
