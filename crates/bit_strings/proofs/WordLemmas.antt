-- Words of bits: those that a writer holds back, and their bytes.
use Rattle.std.proofs.Common.{◌≡◌, ℕ, zero, suc, ◌+◌, ◌-◌, ◌*◌, ◌/◌, ◌%◌, ◌^◌, ◌<◌, ◌≤◌, List, [], ◌∷◌, ◌++◌}
use Rattle.std.proofs.Common.{length, take, replicate, refl, sym, ap, ◌∙◌, append_assoc, arith, pow-suc, lit<}
use Rattle.std.specs.Int.{bytes_low_first, byte_at, to_le_bytes, w64}
use Rattle.std.proofs.lemmas.Nat.{pow-add, div-mul-add}
use Rattle.std.proofs.lemmas.List.{length-append}
use Rattle.std.proofs.lemmas.List.Elements.{All-nil, All-cons, All-append}
use Rattle.std.proofs.Math.Nat.{div-div-eq-div-mul, mod-eq_of_lt, two-pow-succ, add-mul-mod_self_right, mul-le-mul_right}
use Rattle.std.proofs.Math.Nat.{pow-le-pow_right, lt_of_lt_of_le, div-eq_of_lt}
use Rattle.bit_strings.specs.Packed.{Bits, low_bits, from_bits, bits_of, bytes_of_bits, spread, packed}
use Rattle.bit_strings.specs.States.{written_bits}
use Rattle.bit_strings.proofs.PackedLemmas.{length-low, low-below, low-from, from-low, low-zeros, length-bits, bytes-of}
use Rattle.bit_strings.proofs.PackedLemmas.{bytes-zeros, length-spread, IsBytes}

-- the lowest a bits, and the b bits above them
low-add : (a b x : ℕ) → low_bits (a + b) x ≡ low_bits a x ++ low_bits b (x / 2 ^ a)
unfolding low_bits
low-add zero b x =
    let none : 0 + b ≡ b = omega arith in
    let whole : x / 2 ^ 0 ≡ x = omega arith in
    rw (none, whole) refl
low-add (suc a) b x =
    let one : suc a + b ≡ suc (a + b) = omega arith in
    let power : 2 * 2 ^ a ≡ 2 ^ suc a = omega (arith, two-pow-succ a) in
    let halves : x / 2 / 2 ^ a ≡ x / 2 ^ suc a = div-div-eq-div-mul x 2 (2 ^ a) ∙ ap (λ k. x / k) power in
    ap (λ n. low_bits n x) one ∙ ap (λ (bits : List ℕ). x % 2 ∷ bits)
    (low-add a b (x / 2) ∙ ap (λ y. low_bits a (x / 2) ++ low_bits b y) halves)

-- only the lowest bits count
low-mod : (a x : ℕ) → low_bits a (x % 2 ^ a) ≡ low_bits a x
low-mod a x =
    ap (low_bits a) (sym (from-low a x))
    ∙ ap (λ n. low_bits n (from_bits (low_bits a x))) (sym (length-low a x))
    ∙ low-from (low_bits a x) (low-below a x)

low-same : (a x y : ℕ) → x % 2 ^ a ≡ y % 2 ^ a → low_bits a x ≡ low_bits a y
low-same a x y same = sym (low-mod a x) ∙ ap (low_bits a) same ∙ low-mod a y

-- the bits of a word and then those of a number
joined : (f n word x : ℕ) → word < 2 ^ f → low_bits (f + n) (word + x * 2 ^ f) ≡ low_bits f word ++ low_bits n x
joined f n word x below =
    let turn : word + x * 2 ^ f ≡ x * 2 ^ f + word = omega arith in
    let high : (word + x * 2 ^ f) / 2 ^ f ≡ x = ap (λ k. k / 2 ^ f) turn ∙ div-mul-add x (2 ^ f) word below in
    let low : low_bits f (word + x * 2 ^ f) ≡ low_bits f word
    = low-same f _ word (add-mul-mod_self_right word x (2 ^ f)) in
    low-add f n (word + x * 2 ^ f) ∙ rw (high, low) refl

-- a number above a word
pub held_below : (f n word x : ℕ) → word < 2 ^ f → x < 2 ^ n → word + x * 2 ^ f < 2 ^ (f + n)
held_below f n word x below number =
    let power : 2 ^ (f + n) ≡ 2 ^ n * 2 ^ f = ap (λ k. 2 ^ k) (omega arith) ∙ pow-add 2 n f in
    let next : (x + 1) * 2 ^ f ≤ 2 ^ n * 2 ^ f = mul-le-mul_right (2 ^ f) (omega arith) in
    omega (arith, power, next)

-- no bit of a number is lost above a word
pub shifted : (f n x : ℕ) → x < 2 ^ n → f + n < 128 → (x * 2 ^ f) % 2 ^ 128 ≡ x * 2 ^ f
shifted f n x number few =
    let power : 2 ^ (f + n) ≡ 2 ^ n * 2 ^ f = ap (λ k. 2 ^ k) (omega arith) ∙ pow-add 2 n f in
    let next : x * 2 ^ f ≤ 2 ^ n * 2 ^ f = mul-le-mul_right (2 ^ f) (omega arith) in
    let most : 2 ^ (f + n) ≤ 2 ^ 127 = pow-le-pow_right (lit< tt) {i = f + n} {j = 127} (omega arith) in
    let room : 2 ^ 127 < 2 ^ 128 = lit< tt in
    mod-eq_of_lt (omega (arith, power, next, most, room))

-- a word that does not get full
pub record IsHeld (bytes : List ℕ) (f n word x low : ℕ) : Type 0 where
  pub below : low < 2 ^ (f + n)
  pub bits : written_bits bytes low (f + n) ≡ written_bits bytes word f ++ low_bits n x

pub held : (bytes : List ℕ) (f n word x all low : ℕ) → word < 2 ^ f → x < 2 ^ n → f + n < 64
    → all ≡ word + x * 2 ^ f → low ≡ all % 2 ^ 64 → IsHeld bytes f n word x low
held bytes f n word x all low below number few sum is =
    let fits : all < 2 ^ (f + n) = rw sum (held_below f n word x below number) in
    let most : 2 ^ (f + n) ≤ 2 ^ 64 = pow-le-pow_right (lit< tt) {i = f + n} {j = 64} (omega arith) in
    let whole : low ≡ all = is ∙ mod-eq_of_lt (lt_of_lt_of_le fits most) in
    record {
      below = rw whole fits;
      bits = rw (whole, sum) (ap (λ (more : List ℕ). bits_of bytes ++ more) (joined f n word x below)
          ∙ sym (append_assoc (bits_of bytes) (low_bits f word) (low_bits n x)));
    }

-- ---- bytes of a word

byte_is : (i v : ℕ) → byte_at i v ≡ v / 256 ^ i % 2 ^ 8
byte_is zero v = omega arith
byte_is (suc i) v = refl

bits-more : (i k v : ℕ) (rest : List ℕ) → rest ≡ low_bits (8 * k) (v / 256 ^ suc i)
    → low_bits 8 (byte_at i v) ++ rest ≡ low_bits (8 * suc k) (v / 256 ^ i)
bits-more i k v rest is =
    let y = v / 256 ^ i in
    let above : v / 256 ^ suc i ≡ y / 2 ^ 8
    = ap (λ n. v / n) (pow-suc 256 i) ∙ sym (div-div-eq-div-mul v (256 ^ i) 256) in
    let low : low_bits 8 (byte_at i v) ≡ low_bits 8 y = ap (low_bits 8) (byte_is i v) ∙ low-mod 8 y in
    let all : 8 * suc k ≡ 8 + 8 * k = omega arith in
    rw (is, above, low, all) (sym (low-add 8 (8 * k) y))

no_bits : (y : ℕ) → [] ≡ low_bits 0 y
unfolding low_bits
no_bits y = refl

bits-bytes : (i k v : ℕ) → bits_of (bytes_low_first i k v) ≡ low_bits (8 * k) (v / 256 ^ i)
bits-bytes i zero v = no_bits (v / 256 ^ i)
bits-bytes i (suc k) v = bits-more i k v (bits_of (bytes_low_first (suc i) k v)) (bits-bytes (suc i) k v)

bytes_below : (i k v : ℕ) → IsBytes (bytes_low_first i k v)
bytes_below i zero v = All-nil (λ x. x < 2 ^ 8)
bytes_below i (suc k) v = All-cons (λ x. x < 2 ^ 8) (byte_at i v) (bytes_low_first (suc i) k v)
    (omega (arith, byte_is i v)) (bytes_below (suc i) k v)

take-bytes : (i k m v : ℕ) → take k (bytes_low_first i (k + m) v) ≡ bytes_low_first i k v
take-bytes i zero m v = refl
take-bytes i (suc k) m v =
    let one : suc k + m ≡ suc (k + m) = omega arith in
    ap (λ n. take (suc k) (bytes_low_first i n v)) one
    ∙ ap (λ (bytes : List ℕ). byte_at i v ∷ bytes) (take-bytes (suc i) k m v)

length-low_first : (i k v : ℕ) → length (bytes_low_first i k v) ≡ k
length-low_first i zero v = refl
length-low_first i (suc k) v = ap suc (length-low_first (suc i) k v)

pub word_bits : (v : ℕ) → bits_of (to_le_bytes w64 v) ≡ low_bits 64 v
word_bits v = bits-bytes 0 8 v ∙ ap (low_bits 64) (omega arith)

bits-append : (xs ys : List ℕ) → bits_of (xs ++ ys) ≡ bits_of xs ++ bits_of ys
bits-append [] ys = refl
bits-append (x ∷ xs) ys = ap (λ (bits : List ℕ). low_bits 8 x ++ bits) (bits-append xs ys)
    ∙ sym (append_assoc (low_bits 8 x) (bits_of xs) (bits_of ys))

-- a word that gets full
pub record IsFlushed (bytes new : List ℕ) (f n word x all : ℕ) : Type 0 where
  pub below : all / 2 ^ 64 < 2 ^ (f + n - 64)
  pub bits : written_bits new (all / 2 ^ 64) (f + n - 64) ≡ written_bits bytes word f ++ low_bits n x

pub flushed : (bytes new : List ℕ) (f n word x all low : ℕ) → word < 2 ^ f → x < 2 ^ n → 64 ≤ f + n
    → all ≡ word + x * 2 ^ f → low ≡ all % 2 ^ 64 → new ≡ bytes ++ to_le_bytes w64 low
    → IsFlushed bytes new f n word x all
flushed bytes new f n word x all low below number many sum is pushed =
    let rest = f + n - 64 in
    let count : f + n ≡ 64 + rest = omega arith in
    let fits : all < 2 ^ (f + n) = rw sum (held_below f n word x below number) in
    let power : 2 ^ (f + n) ≡ 2 ^ 64 * 2 ^ rest = ap (λ k. 2 ^ k) count ∙ pow-add 2 64 rest in
    let front : bits_of new ≡ bits_of bytes ++ low_bits 64 all
    = ap bits_of pushed ∙ bits-append bytes (to_le_bytes w64 low)
    ∙ ap (λ (bits : List ℕ). bits_of bytes ++ bits)
    (word_bits low ∙ ap (low_bits 64) is ∙ low-mod 64 all) in
    let whole : low_bits 64 all ++ low_bits rest (all / 2 ^ 64) ≡ low_bits f word ++ low_bits n x
    = sym (low-add 64 rest all) ∙ ap (λ k. low_bits k all) (sym count)
    ∙ ap (low_bits (f + n)) sum ∙ joined f n word x below in
    record {
      below = omega (arith, fits, power);
      bits = ap (λ (bits : List ℕ). bits ++ low_bits rest (all / 2 ^ 64)) front
          ∙ append_assoc (bits_of bytes) (low_bits 64 all) (low_bits rest (all / 2 ^ 64))
          ∙ ap (λ (bits : List ℕ). bits_of bytes ++ bits) whole
          ∙ sym (append_assoc (bits_of bytes) (low_bits f word) (low_bits n x));
    }

-- ---- the last bytes

pub length-written : (bytes : List ℕ) (word f : ℕ) → length (written_bits bytes word f) ≡ 8 * length bytes + f
length-written bytes word f =
    omega (arith, length-append (bits_of bytes) (low_bits f word), length-bits bytes, length-low f word)

-- zeros stand behind the bits of a word
padded : (f m word : ℕ) → word < 2 ^ f → low_bits (f + m) word ≡ low_bits f word ++ replicate m 0
padded f m word below =
    let none : word / 2 ^ f ≡ 0 = div-eq_of_lt below in
    low-add f m word ∙ ap (λ (bits : List ℕ). low_bits f word ++ bits) (ap (low_bits m) none ∙ low-zeros m)

pub finished : (bytes rest new : List ℕ) (f k word : ℕ) → IsBytes bytes → word < 2 ^ f → f < 64 → k ≡ (f + 7) / 8
    → rest ≡ to_le_bytes w64 word → new ≡ bytes ++ take k rest
    → new ≡ bytes_of_bits ((length (written_bits bytes word f) + 7) / 8) (written_bits bytes word f)
finished bytes rest new f k word are below few is told pushed =
    let tail = bytes_low_first 0 k word in
    let eight : 8 ≡ k + (8 - k) = omega arith in
    let cut : take k (to_le_bytes w64 word) ≡ tail
    = ap (λ n. take k (bytes_low_first 0 n word)) eight ∙ take-bytes 0 k (8 - k) word in
    let m = 8 * k - f in
    let room : 8 * k ≡ f + m = omega arith in
    let zeros : bits_of (bytes ++ tail) ≡ written_bits bytes word f ++ replicate m 0
    = bits-append bytes tail
    ∙ ap (λ (bits : List ℕ). bits_of bytes ++ bits)
    (bits-bytes 0 k word ∙ ap (low_bits (8 * k)) (omega arith)
    ∙ ap (λ n. low_bits n word) room ∙ padded f m word below)
    ∙ sym (append_assoc (bits_of bytes) (low_bits f word) (replicate m 0)) in
    let size : length (bytes ++ tail) ≡ (length (written_bits bytes word f) + 7) / 8
    = omega (arith, length-append bytes tail, length-low_first 0 k word, length-written bytes word f) in
    pushed ∙ ap (λ (more : List ℕ). bytes ++ take k more) told ∙ ap (λ (more : List ℕ). bytes ++ more) cut
    ∙ sym (bytes-of (bytes ++ tail) (All-append (λ x. x < 2 ^ 8) bytes tail are (bytes_below 0 k word)))
    ∙ ap (bytes_of_bits (length (bytes ++ tail))) zeros
    ∙ bytes-zeros (length (bytes ++ tail)) (written_bits bytes word f) m
    ∙ ap (λ n. bytes_of_bits n (written_bits bytes word f)) size

-- the bits of numbers make the bytes that the numbers are packed into
pub packed_is : (bits : List ℕ) (numbers : List Bits) → bits ≡ spread numbers
    → bytes_of_bits ((length bits + 7) / 8) bits ≡ packed numbers
unfolding packed
packed_is bits numbers is =
    ap (λ (b : List ℕ). bytes_of_bits ((length b + 7) / 8) b) is
    ∙ ap (λ n. bytes_of_bits ((n + 7) / 8) (spread numbers)) (length-spread numbers)

-- nothing is written at first
pub none_written : (bytes : List ℕ) → bytes ≡ [] → written_bits bytes 0 0 ≡ []
unfolding low_bits
none_written bytes none = ap (λ (bs : List ℕ). written_bits bs 0 0) none
