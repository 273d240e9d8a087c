-- Numbers read from bytes.
use Rattle.std.proofs.Common.{◌≡◌, ℕ, zero, suc, ◌+◌, ◌-◌, ◌*◌, ◌/◌, ◌^◌, ◌<◌, ◌≤◌, List, [], ◌∷◌, length, take, drop}
use Rattle.std.proofs.Common.{get_or, Bool, true, false, eqb, refl, sym, ap, ◌∙◌, arith, length-drop, lit<}
use Rattle.std.specs.Prelude.{◌&&◌}
use Rattle.std.specs.List.{list_all}
use Rattle.std.proofs.lemmas.Bool.Decides.{nat_tests}
use Rattle.std.proofs.lemmas.List.{take_rest, get_or-drop}
use Rattle.std.proofs.Math.Nat.{two-pow-succ}
use Rattle.bcodes.specs.Bits.{key}
use Rattle.bcodes.proofs.KeyLemmas.{key-add, key-drop, key-byte, key-none, key-shifted}

-- the bytes from a place on
pub key_behind : (bytes : List ℕ) (byte bit n : ℕ) → byte ≤ length bytes
    → key (take (length bytes - byte) (drop byte bytes)) bit n ≡ key bytes (8 * byte + bit) n
key_behind bytes byte bit n le =
    ap (λ (rest : List ℕ). key rest bit n) (take_rest bytes byte) ∙ key-drop bytes byte bit n

-- ---- bits that are all 0

abbrev pub IsSmall : List ℕ → Type 0
IsSmall bytes = (i : ℕ) → get_or bytes i 0 < 2 ^ 8

key-first : (b : ℕ) (bytes : List ℕ) (m : ℕ) → b < 2 ^ 8 → key (b ∷ bytes) 0 (8 + m) ≡ b + key bytes 0 m * 2 ^ 8
key-first b bytes m small =
    let rest : key (b ∷ bytes) 8 m ≡ key bytes 0 m = sym (key-drop (b ∷ bytes) 1 0 m) in
    omega (arith, key-add (b ∷ bytes) 0 8 m, key-byte (b ∷ bytes) 0 small, ap (λ k. k * 2 ^ 8) rest)

pow-pos : (n : ℕ) → 0 < 2 ^ n
pow-pos zero = omega arith
pow-pos (suc n) = omega (arith, pow-pos n, two-pow-succ n)

not_zero : (n : ℕ) → 0 < n → eqb n 0 ≡ false
not_zero n some = grind (arith, nat_tests)

-- a sum is 0 where both parts are
sum_zero : (a k p : ℕ) → 0 < p → eqb (a + k * p) 0 ≡ (eqb a 0 && eqb k 0)
sum_zero zero zero p some = grind arith
sum_zero zero (suc k) p some = grind (arith, nat_tests)
sum_zero (suc a) k p some =
    rw (not_zero (suc a + k * p) (omega arith), not_zero (suc a) (omega arith)) refl

zeros : (bytes : List ℕ) → IsSmall bytes → list_all (λ b. eqb b 0) bytes ≡ eqb (key bytes 0 (8 * length bytes)) 0
zeros [] small = ap (λ k. eqb k 0) (sym (key-none [] 0))
zeros (b ∷ bytes) small =
    let all : 8 * length (b ∷ bytes) ≡ 8 + 8 * length bytes = omega arith in
    let sum = key-first b bytes (8 * length bytes) (small 0) in
    ap (λ rest. eqb b 0 && rest) (zeros bytes (λ i. small (suc i)))
    ∙ sym (sum_zero b (key bytes 0 (8 * length bytes)) (2 ^ 8) (lit< tt))
    ∙ ap (λ k. eqb k 0) (sym (ap (key (b ∷ bytes) 0) all ∙ sum))

-- no bit is left
pub none_left : (bytes : List ℕ) (byte bit : ℕ) → 8 * length bytes ≤ 8 * byte + bit
    → true ≡ eqb (key bytes (8 * byte + bit) (8 * length bytes - (8 * byte + bit))) 0
none_left bytes byte bit end =
    let at = 8 * byte + bit in
    let none : 8 * length bytes - at ≡ 0 = omega arith in
    sym (ap (λ k. eqb k 0) (ap (key bytes at) none ∙ key-none bytes at))

-- the bits of a byte from one of them on, and the bytes behind it
pub some_left : (bytes : List ℕ) (byte bit : ℕ) → IsSmall bytes → bit < 8 → byte < length bytes
    → (eqb (get_or bytes byte 0 / 2 ^ bit) 0 && list_all (λ b. eqb b 0) (drop (byte + 1) bytes))
    ≡ eqb (key bytes (8 * byte + bit) (8 * length bytes - (8 * byte + bit))) 0
some_left bytes byte bit small low here =
    let at = 8 * byte + bit in
    let more = drop (byte + 1) bytes in
    let m = 8 * length more in
    let count : 8 * length bytes - at ≡ (8 - bit) + m = omega (arith, length-drop (byte + 1) bytes) in
    let first : key bytes at (8 - bit) ≡ get_or bytes byte 0 / 2 ^ bit
    = sym (key-shifted bytes (8 * byte) 8 bit (omega arith)) ∙ ap (λ k. k / 2 ^ bit) (key-byte bytes byte (small byte)) in
    let next : at + (8 - bit) ≡ 8 * (byte + 1) + 0 = omega arith in
    let rest : key bytes (at + (8 - bit)) m ≡ key more 0 m
    = ap (λ j. key bytes j m) next ∙ sym (key-drop bytes (byte + 1) 0 m) in
    let sum : key bytes at (8 * length bytes - at) ≡ get_or bytes byte 0 / 2 ^ bit + key more 0 m * 2 ^ (8 - bit)
    = ap (key bytes at) count ∙ key-add bytes at (8 - bit) m ∙ rw (first, rest) refl in
    ap (λ z. eqb (get_or bytes byte 0 / 2 ^ bit) 0 && z) (zeros more (λ i. rw (get_or-drop (byte + 1) bytes i 0) (small (byte + 1 + i))))
    ∙ sym (sum_zero (get_or bytes byte 0 / 2 ^ bit) (key more 0 m) (2 ^ (8 - bit)) (pow-pos (8 - bit)))
    ∙ ap (λ k. eqb k 0) (sym sum)

-- by the byte at the place and those behind it, where the first is 0 and where it is not
pub first_zero : (bytes : List ℕ) (byte bit : ℕ) (rest : Bool) → IsSmall bytes → bit < 8 → byte < length bytes
    → get_or bytes byte 0 / 2 ^ bit ≡ 0
    → rest ≡ list_all (λ b. eqb b 0) (take (length bytes - (byte + 1)) (drop (byte + 1) bytes))
    → rest ≡ eqb (key bytes (8 * byte + bit) (8 * length bytes - (8 * byte + bit))) 0
first_zero bytes byte bit rest small low here none are =
    let first : eqb (get_or bytes byte 0 / 2 ^ bit) 0 ≡ true = ap (λ n. eqb n 0) none in
    are ∙ ap (list_all (λ b. eqb b 0)) (take_rest bytes (byte + 1))
    ∙ sym (ap (λ t. t && list_all (λ b. eqb b 0) (drop (byte + 1) bytes)) first)
    ∙ some_left bytes byte bit small low here

pub first_not_zero : (bytes : List ℕ) (byte bit : ℕ) → IsSmall bytes → bit < 8 → byte < length bytes
    → (get_or bytes byte 0 / 2 ^ bit ≡ 0 → ⊥)
    → eqb (get_or bytes byte 0 / 2 ^ bit) 0
    ≡ eqb (key bytes (8 * byte + bit) (8 * length bytes - (8 * byte + bit))) 0
first_not_zero bytes byte bit small low here other =
    let first : eqb (get_or bytes byte 0 / 2 ^ bit) 0 ≡ false = grind (arith, nat_tests) in
    first ∙ sym (ap (λ t. t && list_all (λ b. eqb b 0) (drop (byte + 1) bytes)) first)
    ∙ some_left bytes byte bit small low here
