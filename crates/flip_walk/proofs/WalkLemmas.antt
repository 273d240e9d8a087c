-- Lemmas on the patterns that are still to come.
use Rattle.std.proofs.Common.{◌≡◌, ℕ, zero, suc, ◌+◌, ◌-◌, ◌^◌, ◌<◌, ◌≤◌, Bool, true, false, cond, [], ◌∷◌, ◌++◌}
use Rattle.std.proofs.Common.{refl, sym, ap, ◌∙◌, arith, lit<}
use Rattle.std.specs.Int.RustNames.{count_ones}
use Rattle.std.specs.List.{filter, flat_map, range_with_len}
use Rattle.std.proofs.lemmas.List.{append-nil}
use Rattle.std.proofs.lemmas.Nat.{pow_pos}
use Rattle.std.proofs.lemmas.Bool.{ne_eqb, eq-eqb}
use Rattle.std.proofs.Math.Nat.{pow-le-pow_right}
use Rattle.flip_walk.specs.Patterns.{has_ones, with_ones, by_ones, flips}
use Rattle.flip_walk.specs.Walk.{rest_from, IsAt, IsNext, IsLast}
use Rattle.flip_walk.proofs.OnesLemmas.{least_ones}
use Rattle.flip_walk.proofs.JumpLemmas.{ones-low_bits}

-- numbers that the test refuses are left out
pub skip : (p : ℕ → Bool) (k a m : ℕ) → ((v : ℕ) → a ≤ v → v < a + k → p v ≡ false)
    → filter p (range_with_len a (k + m)) ≡ filter p (range_with_len (a + k) m)
skip p zero a m none =
    let e : 0 + m ≡ m = omega arith in
    let f : a + 0 ≡ a = omega arith in
    ap (λ n. filter p (range_with_len a n)) e ∙ sym (ap (λ n. filter p (range_with_len n m)) f)
skip p (suc k) a m none =
    let e : suc k + m ≡ suc (k + m) = omega arith in
    let f : (a + 1) + k ≡ a + suc k = omega arith in
    let head : p a ≡ false = none a (omega arith) (omega arith) in
    ap (λ n. filter p (range_with_len a n)) e
    ∙ ap (λ b. cond b (a ∷ filter p (range_with_len (a + 1) (k + m))) (filter p (range_with_len (a + 1) (k + m)))) head
    ∙ skip p k (a + 1) m (λ v l h. none v (omega arith) (omega arith))
    ∙ ap (λ n. filter p (range_with_len n m)) f

pub skip_to : (p : ℕ → Bool) (a c m n : ℕ) → a ≤ c → m ≡ (c - a) + n → ((v : ℕ) → a ≤ v → v < c → p v ≡ false)
    → filter p (range_with_len a m) ≡ filter p (range_with_len c n)
skip_to p a c m n le e none =
    let f : a + (c - a) ≡ c = omega arith in
    ap (λ k. filter p (range_with_len a k)) e ∙ skip p (c - a) a n (λ v l h. none v l (omega arith))
    ∙ ap (λ k. filter p (range_with_len k n)) f

pub other_ones : (n v : ℕ) → (count_ones v ≡ n → ⊥) → has_ones n v ≡ false
other_ones n v ne = ne_eqb (count_ones v) n ne

pub take_one : (n x m k : ℕ) → count_ones x ≡ n → m ≡ suc k → filter (has_ones n) (range_with_len x m) ≡ x ∷ filter
    (has_ones n) (range_with_len (x + 1) k)
take_one n x m k ones e =
    let test : has_ones n x ≡ true = eq-eqb (count_ones x) n ones in
    ap (λ i. filter (has_ones n) (range_with_len x i)) e
    ∙ ap (λ b. cond b (x ∷ filter (has_ones n) (range_with_len (x + 1) k))
    (filter (has_ones n) (range_with_len (x + 1) k))) test

-- the next pattern has as many one bits
pub rest-next : (b nflip n x y : ℕ) → IsAt b n x → IsNext b x y → rest_from b nflip n x ≡ x ∷ rest_from b nflip n y
unfolding rest_from
rest-next b nflip n x y here next =
    let left : 2 ^ b - x ≡ suc (2 ^ b - x - 1) = omega (arith, here.below) in
    let most : 2 ^ b - x - 1 ≡ (y - (x + 1)) + (2 ^ b - y) = omega (arith, next.more, next.below) in
    let from : x + 1 ≤ y = omega (arith, next.more) in
    ap (λ l. l ++ by_ones b (n + 1) (nflip - n))
    (take_one n x (2 ^ b - x) (2 ^ b - x - 1) here.ones left
    ∙ ap (λ l. x ∷ l) (skip_to (has_ones n) (x + 1) y (2 ^ b - x - 1) (2 ^ b - y) from most
    (λ v l h. other_ones n v (λ same. next.none v (omega arith) h (same ∙ sym here.ones)))))

-- no further pattern has as many one bits
pub rest-last : (b nflip n x : ℕ) → IsAt b n x → IsLast b x → rest_from b nflip n x ≡ x ∷ by_ones b (n + 1) (nflip - n)
unfolding rest_from
rest-last b nflip n x here last =
    let left : 2 ^ b - x ≡ suc (2 ^ b - x - 1) = omega (arith, here.below) in
    let most : 2 ^ b - x - 1 ≡ (2 ^ b - (x + 1)) + 0 = omega arith in
    let from : x + 1 ≤ 2 ^ b = omega (arith, here.below) in
    ap (λ l. l ++ by_ones b (n + 1) (nflip - n))
    (take_one n x (2 ^ b - x) (2 ^ b - x - 1) here.ones left
    ∙ ap (λ l. x ∷ l) (skip_to (has_ones n) (x + 1) (2 ^ b) (2 ^ b - x - 1) 0 from most
    (λ v l h. other_ones n v (λ same. last.none v (omega arith) h (same ∙ sym here.ones)))))

pub by_ones-none : (b n many : ℕ) → many ≡ 0 → by_ones b n many ≡ []
unfolding by_ones
by_ones-none b n many e = ap (λ m. flat_map (with_ones b) (range_with_len n m)) e

pub by_ones-some : (b n many k : ℕ) → many ≡ suc k → by_ones b n many ≡ with_ones b n ++ by_ones b (n + 1) k
unfolding by_ones
by_ones-some b n many k e = ap (λ m. flat_map (with_ones b) (range_with_len n m)) e

-- the patterns with n one bits begin at the lowest
pub with_ones-lowest : (b n x : ℕ) → x + 1 ≡ 2 ^ n → n ≤ b → with_ones b n ≡ filter (has_ones n)
    (range_with_len x (2 ^ b - x))
unfolding with_ones
with_ones-lowest b n x e le =
    let small : 2 ^ n ≤ 2 ^ b = pow-le-pow_right (lit< tt) le in
    skip_to (has_ones n) 0 x (2 ^ b) (2 ^ b - x) (omega arith) (omega arith)
    (λ v l h. other_ones n v (λ same. omega (arith, least_ones b v (omega arith), ap (λ (k : ℕ). 2 ^ k) same)))

pub rest-lowest : (b nflip n x : ℕ) → x + 1 ≡ 2 ^ n → n ≤ nflip → nflip ≤ b
    → by_ones b n (nflip + 1 - n) ≡ rest_from b nflip n x
unfolding rest_from
rest-lowest b nflip n x e le most =
    let some : nflip + 1 - n ≡ suc (nflip - n) = omega arith in
    by_ones-some b n (nflip + 1 - n) (nflip - n) some ∙ ap (λ l. l ++ by_ones b (n + 1) (nflip - n))
    (with_ones-lowest b n x e (omega arith))

-- no level follows the only one
pub rest-exactly : (b n x : ℕ) → x + 1 ≡ 2 ^ n → n ≤ b → rest_from b n n x ≡ with_ones b n
rest-exactly b n x e most =
    let one : n + 1 - n ≡ suc 0 = omega arith in
    sym (rest-lowest b n n x e (omega arith) most) ∙ by_ones-some b n (n + 1 - n) 0 one
    ∙ ap (λ l. with_ones b n ++ l) (by_ones-none b (n + 1) 0 refl) ∙ append-nil (with_ones b n)

pub rest-first : (b nflip : ℕ) → nflip ≤ b → rest_from b nflip 0 0 ≡ flips b nflip
rest-first b nflip most =
    let e : nflip + 1 ≡ nflip + 1 - 0 = omega arith in
    sym (ap (by_ones b 0) e ∙ rest-lowest b nflip 0 0 refl (omega arith) most)

-- on to the next number of one bits
pub rest-more : (b nflip n x y : ℕ) → IsAt b n x → IsLast b x → n < nflip → nflip ≤ b → y + 1 ≡ 2 ^ (n + 1)
    → rest_from b nflip n x ≡ x ∷ rest_from b nflip (n + 1) y
rest-more b nflip n x y here last more most e =
    let many : nflip - n ≡ nflip + 1 - (n + 1) = omega arith in
    rest-last b nflip n x here last ∙ ap (λ m. x ∷ by_ones b (n + 1) m) many
    ∙ ap (λ l. x ∷ l) (rest-lowest b nflip (n + 1) y e (omega arith) most)

pub rest-end : (b nflip n x : ℕ) → IsAt b n x → IsLast b x → nflip ≤ n → rest_from b nflip n x ≡ x ∷ []
rest-end b nflip n x here last no_more =
    rest-last b nflip n x here last ∙ ap (λ l. x ∷ l) (by_ones-none b (n + 1) (nflip - n) (omega arith))

pub stands_lowest : (b n x : ℕ) → x ≡ 2 ^ n - 1 → n ≤ b → IsAt b n x
stands_lowest b n x e le =
    let small : 2 ^ n ≤ 2 ^ b = pow-le-pow_right (lit< tt) le in
    record {
      below = omega (arith, pow_pos n);
      ones = ap count_ones e ∙ ones-low_bits n;
    }
