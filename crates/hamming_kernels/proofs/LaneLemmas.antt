-- Parts of 32 bytes as vectors of words, and the bits in which what is left of two codes differs.
use Rattle.std.proofs.Common.{◌≡◌, ℕ, zero, suc, ◌+◌, ◌-◌, ◌*◌, ◌/◌, ◌%◌, ◌^◌, ◌<◌, ◌≤◌, List, [], ◌∷◌, length}
use Rattle.std.proofs.Common.{get_or, take, drop, refl, sym, ap, ◌∙◌, arith, bit_xor, count_ones, Fits, w8}
use Rattle.std.specs.Int.{bit_at}
use Rattle.std.specs.Simd.Lanes.{Each1, zip2, number_l, digits_l}
use Rattle.std.proofs.lemmas.List.{get_or-take, drop-take, length-drop, length-take, take_rest}
use Rattle.std.proofs.lemmas.Simd.{get_or_wider, get_or-zip2, chunk-fits, below_from_Fits}
use Rattle.byteorder.specs.Endian.{little_from, little_number}
use Rattle.bcodes.proofs.KeyLemmas.{bit-drop}
use Rattle.bcodes.specs.Bits.{bit, differs_at, differing, dist}
use Rattle.bcodes.proofs.BitLemmas.{differing-add}
use Rattle.hamming_kernels.proofs.WordLemmas.{AreBytes, differing_word, little_from-drop}

-- ---- the words of a part

-- the number that lanes of bytes make
number_taken : (n : ℕ) (xs : List ℕ) → n ≤ length xs → number_l 256 (take n xs) ≡ little_number n xs
number_taken zero xs h = refl
number_taken (suc n) [] h = absurd (omega arith)
number_taken (suc n) (x ∷ xs) h = omega (arith, number_taken n xs (omega arith), little_from-drop 0 n 1 (x ∷ xs))

-- it stands in any longer stretch of the bytes
little_from-take : (i n m : ℕ) (xs : List ℕ) → i + n ≤ m → little_from i n (take m xs) ≡ little_from i n xs
little_from-take i zero m xs h = refl
little_from-take i (suc n) m xs h = omega (
  arith,
  get_or-take m xs i 0 (omega arith),
  little_from-take (suc i) n m xs
      (omega arith),
)

-- lane j of the words of 32 bytes
pub word_of_part : (xs : List ℕ) → 32 ≤ length xs → ((k : ℕ) → Fits w8 (get_or xs k 0)) → (j : ℕ) → j < 4
    → get_or (digits_l (2 ^ 64) 4 (number_l 256 (take 32 xs))) j 0 ≡ little_number 8 (drop (8 * j) xs)
word_of_part xs h fits j lt =
    let part = take 32 xs in
    let small : Each1 (λ x. x < 256) part = below_from_Fits w8 part (chunk-fits w8 0 32 xs fits) in
    let m = 32 - 8 * j in
    let whole : 32 ≡ 8 * j + m = omega arith in
    let left : drop (8 * j) part ≡ take m (drop (8 * j) xs) = ap (λ (k : ℕ). drop (8 * j) (take k xs)) whole
    ∙ drop-take (8 * j) m xs in
    let long : 8 ≤ length (drop (8 * j) part) = rw left
    (omega (arith, length-take m (drop (8 * j) xs), length-drop (8 * j) xs)) in
    get_or_wider 256 8 (2 ^ 64) 4 part j refl small lt ∙ number_taken 8 (drop (8 * j) part) long
    ∙ ap (little_number 8) left ∙ little_from-take 0 8 m (drop (8 * j) xs) (omega arith)

-- ---- what is left of two codes

pub differing-drop : (x y : List ℕ) (k from n : ℕ)
    → differing (drop k x) (drop k y) from n ≡ differing x y (8 * k + from) n
unfolding differing
differing-drop x y k from zero = refl
differing-drop x y k from (suc n) =
    let here : 8 * k + (from + n) ≡ (8 * k + from) + n = omega arith in
    let bx : bit (drop k x) (from + n) ≡ bit x ((8 * k + from) + n) = bit-drop x k (from + n) ∙ ap (bit x) here in
    let by : bit (drop k y) (from + n) ≡ bit y ((8 * k + from) + n) = bit-drop y k (from + n) ∙ ap (bit y) here in
    let one : differs_at (drop k x) (drop k y) (from + n) ≡ differs_at x y ((8 * k + from) + n) = rw (bx, by) in
    omega (arith, one, differing-drop x y k from n)

bit-take : (x : List ℕ) (m j : ℕ) → j < 8 * m → bit (take m x) j ≡ bit x j
bit-take x m j low =
    let here : j / 8 < m = omega arith in
    ap (λ (b : ℕ). bit_at b (j % 8)) (get_or-take m x (j / 8) 0 here)

differing-take : (x y : List ℕ) (m from n : ℕ) → from + n ≤ 8 * m
    → differing (take m x) (take m y) from n ≡ differing x y from n
unfolding differing
differing-take x y m from zero low = refl
differing-take x y m from (suc n) low =
    let inside : from + n < 8 * m = omega arith in
    let one : differs_at (take m x) (take m y) (from + n) ≡ differs_at x y (from + n) =
    rw (bit-take x m (from + n) inside, bit-take y m (from + n) inside) refl in
    omega (arith, one, differing-take x y m from n (omega arith))

-- the bits of the first w words, and those of the bytes after them, fewer than a word has
pub differing_front : (x y front : List ℕ) (w a b : ℕ) → front ≡ take (8 * w) y → 8 * w ≤ length x → length x < 8 * w + 8
    → a ≡ dist (take (8 * w) x) front → b ≡ differing x y (8 * (length x - length x % 8)) (8 * (length x % 8))
    → a + b ≡ differing x y 0 (8 * length x)
differing_front x y front w a b ef most few ea eb =
    let bits : 8 * length (take (8 * w) x) ≡ 64 * w = omega (arith, length-take (8 * w) x) in
    let from : 8 * (length x - length x % 8) ≡ 0 + 64 * w = omega arith in
    let all : 8 * length x ≡ 64 * w + 8 * (length x % 8) = omega arith in
    let low : a ≡ differing x y 0 (64 * w) =
    ea ∙ ap (dist (take (8 * w) x)) ef ∙ ap (differing (take (8 * w) x) (take (8 * w) y) 0) bits
    ∙ differing-take x y (8 * w) 0 (64 * w) (omega arith) in
    let high : b ≡ differing x y (0 + 64 * w) (8 * (length x % 8)) = eb
    ∙ ap (λ (j : ℕ). differing x y j (8 * (length x % 8))) from in
    ap (λ (k : ℕ). k + b) low ∙ ap (λ (k : ℕ). differing x y 0 (64 * w) + k) high
    ∙ sym (differing-add x y 0 (64 * w) (8 * (length x % 8))) ∙ sym (ap (differing x y 0) all)

-- n bits more, of what is left from place k on
pub differing_rest : (x y : List ℕ) (k n total more : ℕ) → total ≡ differing x y 0 (8 * k)
    → more ≡ differing (take (length x - k) (drop k x)) (take (length y - k) (drop k y)) 0 n
    → total + more ≡ differing x y 0 (8 * k + n)
differing_rest x y k n total more h e =
    let none : 8 * k + 0 ≡ 0 + 8 * k = omega arith in
    let whole : more ≡ differing (drop k x) (drop k y) 0 n =
    e ∙ ap (λ (xs : List ℕ). differing xs (take (length y - k) (drop k y)) 0 n) (take_rest x k)
    ∙ ap (λ (ys : List ℕ). differing (drop k x) ys 0 n) (take_rest y k) in
    let rest : more ≡ differing x y (0 + 8 * k) n = whole ∙ differing-drop x y k 0 n
    ∙ ap (λ (j : ℕ). differing x y j n) none in
    omega (arith, h, rest, differing-add x y 0 (8 * k) n)

-- ---- a part

-- the words of a part of a code x and of a query y
pub differing_part : (x y us vs : List ℕ) → AreBytes x → AreBytes y → length us ≡ 4 → length vs ≡ 4
    → ((j : ℕ) → j < 4 → get_or us j 0 ≡ little_number 8 (drop (8 * j) x))
    → ((j : ℕ) → j < 4 → get_or vs j 0 ≡ little_number 8 (drop (8 * j) y))
    → count_ones (get_or (zip2 bit_xor vs us) 0 0) + count_ones (get_or (zip2 bit_xor vs us) 1 0) + count_ones
    (get_or (zip2 bit_xor vs us) 2 0)
    + count_ones (get_or (zip2 bit_xor vs us) 3 0) ≡ differing x y 0 256
unfolding differing
differing_part x y us vs bx by lu lv eu ev =
    let lane : (j : ℕ) → j < 4 → get_or (zip2 bit_xor vs us) j 0 ≡ bit_xor (get_or vs j 0) (get_or us j 0) =
    λ j lt. get_or-zip2 bit_xor vs us j 0 0 0 (omega arith) (omega arith) in
    let word : (j total : ℕ) → j < 4 → total ≡ differing x y 0 (8 * (8 * j))
    → total + count_ones (get_or (zip2 bit_xor vs us) j 0) ≡ differing x y 0 (8 * (8 * j + 8)) =
    λ j total lt h. rw (lane j lt) (differing_word x y 8 (8 * j) (get_or us j 0) (get_or vs j 0) total bx by (eu j lt)
    (ev j lt) h) in
    let one = word 0 0 (omega arith) refl in
    let two = word 1 _ (omega arith) one in
    let three = word 2 _ (omega arith) two in
    omega (arith, word 3 _ (omega arith) three)
