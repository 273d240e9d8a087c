-- Words as the little-endian numbers of their bytes, and the bits in which two of them differ.
use Rattle.std.proofs.Common.{◌≡◌, ℕ, zero, suc, ◌+◌, ◌*◌, ◌/◌, ◌%◌, ◌^◌, ◌<◌, ◌≤◌, List, [], ◌∷◌, ◌++◌, length}
use Rattle.std.proofs.Common.{get_or, take, drop, refl, sym, ap, ◌∙◌, arith, bit_xor, count_ones, add-zero, zero-add}
use Rattle.std.proofs.Common.{add-one, Fits, w8}
use Rattle.std.specs.List.{flat_map}
use Rattle.std.specs.Int.{byte_at, bytes_low_first}
use Rattle.std.specs.Int.Count.{ones-le}
use Rattle.std.proofs.Math.Nat.{div-div-eq-div-mul, pow-suc, mul_comm}
use Rattle.std.proofs.lemmas.Nat.{ones_cat, pow-add, xor_shr, xor_block, xor_comm, xor_lt}
use Rattle.std.proofs.lemmas.List.{get_or-drop, drop_more, take-append-drop, drop_at, drop-drop, length-append}
use Rattle.std.proofs.lemmas.List.{length-drop, nil_from_length}
use Rattle.byteorder.specs.Endian.{little_from, little_number, little_bytes}
use Rattle.byteorder.specs.Numbers.{little_number-reads_back, length-bytes_low_first}
use Rattle.bcodes.specs.Bits.{differing, dist}
use Rattle.bcodes.proofs.BitLemmas.{differing-add, differing-byte}

-- every item is a byte
pub record AreBytes (xs : List ℕ) : Type 0 where
  pub small : (i : ℕ) → get_or xs i 0 < 256

-- what the type of a slice of bytes tells
pub AreBytes-fits : (xs : List ℕ) → ((i : ℕ) → Fits w8 (get_or xs i 0)) → AreBytes xs
AreBytes-fits xs fits = record { small = λ i. omega (arith, fits i) }

-- ---- words and bits

-- no more bits of two words of k bits differ than there are
pub ones_of_xor-le : (k a b : ℕ) → a < 2 ^ k → b < 2 ^ k → count_ones (bit_xor a b) ≤ k
ones_of_xor-le k a b fa fb = ones-le k (bit_xor a b) (xor_lt k a b fa fb)

-- the ones of the xor of two words of n bytes are the bits in which their bytes differ
ones_of_words : (i n : ℕ) (x y : List ℕ) → AreBytes x → AreBytes y
    → count_ones (bit_xor (little_from i n x) (little_from i n y)) ≡ differing x y (8 * i) (8 * n)
unfolding differing
ones_of_words i zero x y bx by =
    let none : bit_xor 0 0 < 2 ^ 0 = xor_lt 0 0 0 (omega arith) (omega arith) in
    omega (arith, ones-le 0 (bit_xor 0 0) none)
ones_of_words i (suc n) x y bx by =
    let a = get_or x i 0 in
    let b = get_or y i 0 in
    let u = little_from (suc i) n x in
    let v = little_from (suc i) n y in
    let low : bit_xor a b < 2 ^ 8 = xor_lt 8 a b (bx.small i) (by.small i) in
    let cut : bit_xor (a + 256 * u) (b + 256 * v) ≡ bit_xor u v * 2 ^ 8 + bit_xor a b =
    let eu : a + 256 * u ≡ u * 2 ^ 8 + a = omega arith in
    let ev : b + 256 * v ≡ v * 2 ^ 8 + b = omega arith in
    rw (eu, ev) (xor_block 8 u v a b (bx.small i) (by.small i)) in
    let one : differing x y (8 * i) 8 ≡ count_ones (bit_xor a b) = differing-byte x y i low in
    let rest : count_ones (bit_xor u v) ≡ differing x y (8 * suc i) (8 * n) = ones_of_words (suc i) n x y bx by in
    let next : 8 * i + 8 ≡ 8 * suc i = omega arith in
    let all : 8 * suc n ≡ 8 + 8 * n = omega arith in
    let parts : differing x y (8 * i) (8 * suc n) ≡ differing x y (8 * i) 8 + differing x y (8 * suc i) (8 * n) =
    ap (differing x y (8 * i)) all ∙ differing-add x y (8 * i) 8 (8 * n)
    ∙ ap (λ (j : ℕ). differing x y (8 * i) 8 + differing x y j (8 * n)) next in
    let cat : count_ones (bit_xor u v * 2 ^ 8 + bit_xor a b) ≡ count_ones (bit_xor u v) + count_ones
    (bit_xor a b) = ones_cat 8 (bit_xor u v) (bit_xor a b) low in
    ap count_ones cut ∙ cat ∙ omega arith

-- the word in the bytes that are left from place k on
pub little_from-drop : (i n k : ℕ) (xs : List ℕ) → little_from i n (drop k xs) ≡ little_from (k + i) n xs
little_from-drop i zero k xs = refl
little_from-drop i (suc n) k xs =
    let e : k + suc i ≡ suc (k + i) = omega arith in
    let rest : little_from (suc i) n (drop k xs) ≡ little_from (suc (k + i)) n xs = little_from-drop (suc i) n k xs
    ∙ ap (λ (j : ℕ). little_from j n xs) e in
    omega (arith, get_or-drop k xs i 0, rest)

-- the word of n bytes of a code x from place `at`, and that of a query y
pub word_differing : (x y : List ℕ) (n at a b : ℕ) → AreBytes x → AreBytes y
    → a ≡ little_number n (drop at x) → b ≡ little_number n (drop at y)
    → count_ones (bit_xor a b) ≡ differing x y (8 * at) (8 * n)
word_differing x y n at a b bx by ea eb =
    let fa : a ≡ little_from at n x = ea ∙ little_from-drop 0 n at x ∙ ap (λ (j : ℕ). little_from j n x)
    (add-zero at) in
    let fb : b ≡ little_from at n y = eb ∙ little_from-drop 0 n at y ∙ ap (λ (j : ℕ). little_from j n y)
    (add-zero at) in
    ap (λ (u : ℕ). count_ones (bit_xor u b)) fa ∙ ap (λ (v : ℕ). count_ones (bit_xor (little_from at n x) v)) fb
    ∙ ones_of_words at n x y bx by

-- one word more
pub differing_word : (x y : List ℕ) (n at a b total : ℕ) → AreBytes x → AreBytes y
    → a ≡ little_number n (drop at x) → b ≡ little_number n (drop at y) → total ≡ differing x y 0 (8 * at)
    → total + count_ones (bit_xor b a) ≡ differing x y 0 (8 * (at + n))
differing_word x y n at a b total bx by ea eb h =
    let all : 8 * (at + n) ≡ 8 * at + 8 * n = omega arith in
    let parts : differing x y 0 (8 * (at + n)) ≡ differing x y 0 (8 * at) + differing x y (8 * at) (8 * n) =
    ap (differing x y 0) all ∙ differing-add x y 0 (8 * at) (8 * n)
    ∙ ap (λ (j : ℕ). differing x y 0 (8 * at) + differing x y j (8 * n)) (zero-add (8 * at)) in
    let ones : count_ones (bit_xor b a) ≡ differing x y (8 * at) (8 * n) =
    ap count_ones (xor_comm b a) ∙ word_differing x y n at a b bx by ea eb in
    omega arith

-- ---- the last bytes of a word

-- a shift drops the bytes at the start
little_from-shifted : (m n i : ℕ) (xs : List ℕ) → AreBytes xs → little_from i (m + n) xs / 2 ^ (8 * m) ≡ little_from
    (i + m) n xs
little_from-shifted zero n i xs bs =
    let all : zero + n ≡ n = omega arith in
    let here : i + zero ≡ i = omega arith in
    rw (all, here) (omega arith)
little_from-shifted (suc m) n i xs bs =
    let first = get_or xs i 0 in
    let rest = little_from (suc i) (m + n) xs in
    let small : first < 256 = bs.small i in
    let count : suc m + n ≡ suc (m + n) = omega arith in
    let bits : 8 * suc m ≡ 8 + 8 * m = omega arith in
    let power : 2 ^ (8 * suc m) ≡ 256 * 2 ^ (8 * m) = ap (λ (k : ℕ). 2 ^ k) bits ∙ pow-add 2 8 (8 * m) in
    let tail : (first + 256 * rest) / 256 ≡ rest = omega arith in
    let next : suc i + m ≡ i + suc m = omega arith in
    ap (λ (k : ℕ). little_from i k xs / 2 ^ (8 * suc m)) count ∙ ap (λ (k : ℕ). (first + 256 * rest) / k) power
    ∙ sym (div-div-eq-div-mul (first + 256 * rest) 256 (2 ^ (8 * m))) ∙ ap (λ (k : ℕ). k / 2 ^ (8 * m)) tail
    ∙ little_from-shifted m n (suc i) xs bs ∙ ap (λ (j : ℕ). little_from j n xs) next

-- the last n bytes of two words of 8 bytes from place `at`
pub shifted_differing : (x y : List ℕ) (m n at a b : ℕ) → m + n ≡ 8 → AreBytes x → AreBytes y
    → a ≡ little_number 8 (drop at x) → b ≡ little_number 8 (drop at y)
    → count_ones (bit_xor a b / 2 ^ (8 * m)) ≡ differing x y (8 * (at + m)) (8 * n)
shifted_differing x y m n at a b all bx by ea eb =
    let word : (xs : List ℕ) (w : ℕ) → AreBytes xs → w ≡ little_number 8 (drop at xs) → w / 2 ^ (8 * m) ≡ little_from
    (at + m) n xs =
    λ xs w bs e. let read : w ≡ little_from at (m + n) xs = e ∙ little_from-drop 0 8 at xs
    ∙ ap (λ (j : ℕ). little_from j 8 xs) (add-zero at) ∙ ap (λ (k : ℕ). little_from at k xs) (sym all) in
    ap (λ (k : ℕ). k / 2 ^ (8 * m)) read ∙ little_from-shifted m n at xs bs in
    ap count_ones (xor_shr a b (8 * m) ∙ ap (λ (u : ℕ). bit_xor u (b / 2 ^ (8 * m))) (word x a bx ea)
    ∙ ap (bit_xor (little_from (at + m) n x)) (word y b by eb))
    ∙ ones_of_words (at + m) n x y bx by

-- the words of all bytes are counted: these are the bytes of the query q
pub dist_from_words : (code bytes q : List ℕ) (n total : ℕ) → bytes ≡ q → length code ≡ length q → length bytes ≡ n
    → total ≡ differing code bytes 0 (8 * n) → total ≡ dist code q
dist_from_words code bytes q n total same size long h =
    let all : n ≡ length code = sym long ∙ ap length same ∙ sym size in
    h ∙ ap (λ (y : List ℕ). differing code y 0 (8 * n)) same ∙ ap (λ (k : ℕ). differing code q 0 (8 * k)) all

-- ---- words and their bytes

-- byte j + 1 of a number is byte j of the number without its lowest byte
byte_at-above : (j a r : ℕ) → a < 256 → byte_at (suc j) (a + 256 * r) ≡ byte_at j r
byte_at-above zero a r h = omega arith
byte_at-above (suc j) a r h =
    let e : (a + 256 * r) / 256 ≡ r = omega arith in
    let p : 256 ^ suc (suc j) ≡ 256 * 256 ^ suc j = pow-suc 256 (suc j) ∙ mul_comm (256 ^ suc j) 256 in
    let q : (a + 256 * r) / 256 ^ suc (suc j) ≡ r / 256 ^ suc j =
    ap (λ (k : ℕ). (a + 256 * r) / k) p ∙ sym (div-div-eq-div-mul (a + 256 * r) 256 (256 ^ suc j))
    ∙ ap (λ (k : ℕ). k / 256 ^ suc j) e in
    ap (λ (k : ℕ). k % 256) q

-- and so are the n bytes from there on
bytes_low_first-above : (j n a r : ℕ) → a < 256 → bytes_low_first (suc j) n (a + 256 * r) ≡ bytes_low_first j n r
bytes_low_first-above j zero a r h = refl
bytes_low_first-above j (suc n) a r h =
    let head = byte_at-above j a r h in
    let rest = bytes_low_first-above (suc j) n a r h in
    cc

-- the bytes of a word that stands from place i on
bytes_of_read : (i n : ℕ) (xs : List ℕ) → AreBytes xs → i + n ≤ length xs → little_bytes n (little_from i n xs) ≡ take n
    (drop i xs)
bytes_of_read i zero xs bs h = refl
bytes_of_read i (suc n) xs bs h =
    let a = get_or xs i 0 in
    let r = little_from (suc i) n xs in
    let small : a < 256 = bs.small i in
    let head : (a + 256 * r) % 256 ≡ a = omega arith in
    let rest : bytes_low_first 1 n (a + 256 * r) ≡ take n (drop (suc i) xs) = bytes_low_first-above 0 n a r small
    ∙ bytes_of_read (suc i) n xs bs (omega arith) in
    let next : drop i xs ≡ a ∷ drop (suc i) xs = drop_more xs i 0 (omega arith) ∙ ap (λ (j : ℕ). a ∷ drop j xs)
    (add-one i) in
    ap (λ (b : ℕ). b ∷ bytes_low_first 1 n (a + 256 * r)) head ∙ ap (λ (bs : List ℕ). a ∷ bs) rest
    ∙ ap (take (suc n)) (sym next)

-- the bytes of a word are those that it was read from
pub bytes_of_word : (n w : ℕ) (xs : List ℕ) → AreBytes xs → n ≤ length xs → w ≡ little_number n xs
    → little_bytes n w ≡ take n xs
bytes_of_word n w xs bs h read = ap (little_bytes n) read ∙ bytes_of_read 0 n xs bs (omega arith)

-- and before the bytes that are left they make all
pub bytes_before : (n w : ℕ) (xs left : List ℕ) → AreBytes xs → n ≤ length xs → w ≡ little_number n xs
    → left ≡ drop n xs → little_bytes n w ++ left ≡ xs
bytes_before n w xs left bs h read e =
    ap (λ (p : List ℕ). p ++ left) (bytes_of_word n w xs bs h read) ∙ ap (λ (s : List ℕ). take n xs ++ s) e
    ∙ take-append-drop n xs

-- a byte is below 256
byte_at-lt : (j x : ℕ) → byte_at j x < 256
byte_at-lt zero x = omega arith
byte_at-lt (suc j) x = omega arith

-- and so is each byte of a number
get_or-bytes_low_first : (j n x i : ℕ) → get_or (bytes_low_first j n x) i 0 < 256
get_or-bytes_low_first j zero x i = omega arith
get_or-bytes_low_first j (suc n) x zero = byte_at-lt j x
get_or-bytes_low_first j (suc n) x (suc i) = get_or-bytes_low_first (suc j) n x i

-- a word gives bytes
pub AreBytes-little_bytes : (n x : ℕ) → AreBytes (little_bytes n x)
AreBytes-little_bytes n x = record { small = get_or-bytes_low_first 0 n x }

-- bytes and bytes
pub AreBytes-append : (xs ys : List ℕ) → AreBytes xs → AreBytes ys → AreBytes (xs ++ ys)
AreBytes-append [] ys bx by = by
AreBytes-append (x ∷ xs) ys bx by =
    let rest : AreBytes (xs ++ ys) = AreBytes-append xs ys (record { small = λ i. bx.small (suc i) }) by in
    record { small = elim [ zero ↦ bx.small 0 | suc i ↦ rest.small i ] }

-- the bytes that are left
pub AreBytes-drop : (n : ℕ) (xs : List ℕ) → AreBytes xs → AreBytes (drop n xs)
AreBytes-drop n xs bs = record { small = λ i. omega (arith, get_or-drop n xs i 0, bs.small (n + i)) }

-- ---- lists of words of 8 bytes

-- words give bytes
pub AreBytes-words : (ws : List ℕ) → AreBytes (flat_map (little_bytes 8) ws)
AreBytes-words [] = record { small = λ i. omega arith }
AreBytes-words (w ∷ ws) = AreBytes-append (little_bytes 8 w) (flat_map (little_bytes 8) ws) (AreBytes-little_bytes 8 w)
    (AreBytes-words ws)

-- each of them gives 8
pub length-words : (ws : List ℕ) → length (flat_map (little_bytes 8) ws) ≡ 8 * length ws
length-words [] = refl
length-words (w ∷ ws) = omega (
  arith,
  length-append (little_bytes 8 w) (flat_map (little_bytes 8) ws),
  length-bytes_low_first 0 8 w,
  length-words ws,
)

-- word i stands in the bytes from place 8 i on
pub word_in_bytes : (ws : List ℕ) (i : ℕ) → ((k : ℕ) → get_or ws k 0 < 2 ^ 64) → i < length ws
    → little_number 8 (drop (8 * i) (flat_map (little_bytes 8) ws)) ≡ get_or ws i 0
word_in_bytes [] i small h = absurd (omega arith)
word_in_bytes (w ∷ ws) zero small h = little_number-reads_back 8 w (flat_map (little_bytes 8) ws) (small 0)
word_in_bytes (w ∷ ws) (suc i) small h =
    let rest = flat_map (little_bytes 8) ws in
    let next : 8 * suc i ≡ 8 + 8 * i = omega arith in
    let past : drop (8 * suc i) (little_bytes 8 w ++ rest) ≡ drop (8 * i) rest =
    ap (λ (k : ℕ). drop k (little_bytes 8 w ++ rest)) next ∙ sym (drop-drop (8 * i) 8 (little_bytes 8 w ++ rest))
    ∙ ap (drop (8 * i)) (drop_at (little_bytes 8 w) rest 8 (length-bytes_low_first 0 8 w)) in
    ap (little_number 8) past ∙ word_in_bytes ws i (λ k. small (suc k)) (omega arith)

-- words that were read from bytes stand for these
pub bytes_of_words : (ws xs : List ℕ) → AreBytes xs → length xs ≡ 8 * length ws
    → ((k : ℕ) → k < length ws → get_or ws k 0 ≡ little_number 8 (drop (8 * k) xs)) → flat_map (little_bytes 8) ws ≡ xs
bytes_of_words [] xs bs h read = sym (nil_from_length xs (omega arith))
bytes_of_words (w ∷ ws) xs bs h read =
    let shift : (k : ℕ) → drop (8 * suc k) xs ≡ drop (8 * k) (drop 8 xs) =
    λ k. let next : 8 * suc k ≡ 8 + 8 * k = omega arith in ap (λ (j : ℕ). drop j xs) next
    ∙ sym (drop-drop (8 * k) 8 xs) in
    let rest : flat_map (little_bytes 8) ws ≡ drop 8 xs =
    bytes_of_words ws (drop 8 xs) (AreBytes-drop 8 xs bs) (omega (arith, length-drop 8 xs))
    (λ k l. read (suc k) (omega arith) ∙ ap (little_number 8) (shift k)) in
    bytes_before 8 w xs (flat_map (little_bytes 8) ws) bs (omega arith) (read 0 (omega arith)) rest
