-- How many patterns there are.
use Rattle.std.proofs.Common.{◌≡◌, ℕ, zero, suc, ◌+◌, ◌-◌, ◌*◌, ◌/◌, ◌^◌, ◌<◌, ◌≤◌, Bool, true, false, cond, nat_eq}
use Rattle.std.proofs.Common.{List, [], ◌∷◌, length, refl, sym, ap, ◌∙◌, arith, length-append, inl, inr, lit<}
use Rattle.std.specs.Int.RustNames.{count_ones}
use Rattle.std.specs.List.{filter, range_with_len}
use Rattle.std.proofs.lemmas.Nat.{pow_pos, ones_cat, mul-le}
use Rattle.std.proofs.lemmas.Bool.{ne_eqb, eq-eqb}
use Rattle.std.proofs.lemmas.Bool.Decides.{eqb_tells}
use Rattle.std.proofs.Math.Nat.{two-pow-succ, pow-le-pow_right, le_trans, mul-div_cancel}
use Rattle.flip_walk.specs.Patterns.{has_ones, with_ones, by_ones}
use Rattle.flip_walk.proofs.OnesLemmas.{ones-zero, ones-one}

suc_eq : (a c n : ℕ) → a ≡ suc c → nat_eq a (suc n) ≡ nat_eq c n
suc_eq a c n e =
    elim (eqb_tells c n) [
      | inl y ↦ eq-eqb a (suc n) (omega (arith, y.1)) ∙ sym y.0
      | inr y ↦ ne_eqb a (suc n) (λ f. y.1 (omega arith)) ∙ sym y.0
    ]

-- the binomial coefficient
unfoldable pub choose : ℕ → ℕ → ℕ
choose b zero = 1
choose zero (suc n) = 0
choose (suc b) (suc n) = choose b (suc n) + choose b n

-- the next one in a row
pub choose-next : (b n : ℕ) → choose b (suc n) * suc n + choose b n * n ≡ choose b n * b
unfolding choose
choose-next zero zero = refl
choose-next zero (suc n) = omega arith
choose-next (suc b) zero = omega (arith, choose-next b zero)
choose-next (suc b) (suc n) = omega (arith, choose-next b (suc n), choose-next b n)

split_step : (a : ℕ) (t : Bool) (xs ys : List ℕ) (n : ℕ) → length xs ≡ length ys + n
    → length (cond t (a ∷ xs) xs) ≡ length (cond t (a ∷ ys) ys) + n
split_step a true xs ys n h = omega arith
split_step a false xs ys n h = h

pub split : (p : ℕ → Bool) (k a m : ℕ) → length (filter p (range_with_len a (k + m))) ≡ length
    (filter p (range_with_len a k)) + length (filter p (range_with_len (a + k) m))
split p zero a m =
    let e : 0 + m ≡ m = omega arith in
    let f : a + 0 ≡ a = omega arith in
    let g = ap (λ n. length (filter p (range_with_len a n))) e in
    let h = ap (λ n. length (filter p (range_with_len n m))) f in
    omega (arith, g, h)
split p (suc k) a m =
    let e : suc k + m ≡ suc (k + m) = omega arith in
    let f : (a + 1) + k ≡ a + suc k = omega arith in
    let h : length (filter p (range_with_len (a + 1) (k + m))) ≡ length (filter p (range_with_len (a + 1) k)) + length
    (filter p (range_with_len (a + suc k) m))
    = split p k (a + 1) m
    ∙ ap (λ n. length (filter p (range_with_len (a + 1) k)) + length (filter p (range_with_len n m))) f in
    ap (λ n. length (filter p (range_with_len a n))) e ∙ split_step a (p a) (filter p (range_with_len (a + 1) (k + m)))
    (filter p (range_with_len (a + 1) k)) (length (filter p (range_with_len (a + suc k) m))) h

same_step : (a c : ℕ) (t u : Bool) (xs ys : List ℕ) → t ≡ u → length xs ≡ length ys
    → length (cond t (a ∷ xs) xs) ≡ length (cond u (c ∷ ys) ys)
same_step a c true true xs ys e h = omega arith
same_step a c true false xs ys e h = cc
same_step a c false true xs ys e h = cc
same_step a c false false xs ys e h = h

-- a test over the upper half of a range
pub same_many : (p q : ℕ → Bool) (up m a : ℕ) → ((v : ℕ) → v < a + m → p (up + v) ≡ q v)
    → length (filter p (range_with_len (up + a) m)) ≡ length (filter q (range_with_len a m))
same_many p q up zero a h = refl
same_many p q up (suc m) a h =
    let e : (up + a) + 1 ≡ up + (a + 1) = omega arith in
    let here : p (up + a) ≡ q a = h a (omega arith) in
    let rest : length (filter p (range_with_len ((up + a) + 1) m)) ≡ length (filter q (range_with_len (a + 1) m))
    = ap (λ n. length (filter p (range_with_len n m))) e ∙ same_many p q up m (a + 1) (λ v l. h v (omega arith)) in
    same_step (up + a) a (p (up + a)) (q a) (filter p (range_with_len ((up + a) + 1) m))
    (filter q (range_with_len (a + 1) m)) here rest

ones_up : (b v : ℕ) → v < 2 ^ b → count_ones (2 ^ b + v) ≡ suc (count_ones v)
ones_up b v l =
    let e : 2 ^ b + v ≡ 1 * 2 ^ b + v = omega arith in
    ap count_ones e ∙ ones_cat b 1 v l ∙ ap (λ n. n + count_ones v) ones-one ∙ omega arith

pub halves : (b n : ℕ) → length (with_ones (suc b) n) ≡ length (with_ones b n) + length
    (filter (has_ones n) (range_with_len (2 ^ b + 0) (2 ^ b)))
unfolding with_ones
halves b n =
    let e : 0 + 2 ^ b ≡ 2 ^ b + 0 = omega arith in
    ap (λ m. length (filter (has_ones n) (range_with_len 0 m))) (two-pow-succ b) ∙ split (has_ones n) (2 ^ b) 0 (2 ^ b)
    ∙ ap (λ m. length (filter (has_ones n) (range_with_len 0 (2 ^ b))) + length
    (filter (has_ones n) (range_with_len m (2 ^ b)))) e

pub many_more : (b n : ℕ) → length (with_ones (suc b) (suc n)) ≡ length (with_ones b (suc n)) + length (with_ones b n)
unfolding with_ones
many_more b n =
    halves b (suc n) ∙ ap (λ m. length (with_ones b (suc n)) + m)
    (same_many (has_ones (suc n)) (has_ones n) (2 ^ b) (2 ^ b) 0
    (λ v l. suc_eq (count_ones (2 ^ b + v)) (count_ones v) n (ones_up b v (omega arith))))

none_pass : (xs : List ℕ) → length (filter (λ _. false) xs) ≡ 0
none_pass [] = refl
none_pass (x ∷ xs) = none_pass xs

pub many_none : (b : ℕ) → length (with_ones (suc b) 0) ≡ length (with_ones b 0)
unfolding with_ones
many_none b =
    halves b 0 ∙ ap (λ m. length (with_ones b 0) + m)
    (same_many (has_ones 0) (λ _. false) (2 ^ b) (2 ^ b) 0
    (λ v l. ne_eqb (count_ones (2 ^ b + v)) 0 (λ f. omega (arith, ones_up b v (omega arith))))
    ∙ none_pass (range_with_len 0 (2 ^ b)))
    ∙ omega arith

pub many_is : (b n : ℕ) → length (with_ones b n) ≡ choose b n
unfolding with_ones choose
many_is zero zero = ap (λ (t : Bool). length {A = ℕ} (cond t (0 ∷ []) [])) (eq-eqb (count_ones 0) 0 ones-zero)
many_is zero (suc n) = ap (λ (t : Bool). length {A = ℕ} (cond t (0 ∷ []) []))
    (ne_eqb (count_ones 0) (suc n) (λ f. omega (arith, ones-zero)))
many_is (suc b) zero = many_none b ∙ many_is b zero
many_is (suc b) (suc n) = many_more b n ∙ ap (λ m. m + length (with_ones b n)) (many_is b (suc n))
    ∙ ap (λ m. choose b (suc n) + m) (many_is b n)

-- bounds, and the sum over the numbers of one bits
choose_pow : (b n : ℕ) → choose b n ≤ 2 ^ b
unfolding choose
choose_pow b zero = pow_pos b
choose_pow zero (suc n) = omega arith
choose_pow (suc b) (suc n) = omega (arith, choose_pow b (suc n), choose_pow b n, two-pow-succ b)

pub by_ones-more : (b from m : ℕ) → length (by_ones b from (m + 1)) ≡ length (by_ones b from m) + choose b (from + m)
unfolding by_ones
by_ones-more b from zero =
    let e : from + 0 ≡ from = omega arith in
    let l = length-append (with_ones b from) [] in
    omega (arith, l, many_is b from, ap (choose b) e)
by_ones-more b from (suc m) =
    let e : suc m + 1 ≡ suc (m + 1) = omega arith in
    let f : (from + 1) + m ≡ from + suc m = omega arith in
    let l = length-append (with_ones b from) (by_ones b (from + 1) (m + 1)) in
    let k = length-append (with_ones b from) (by_ones b (from + 1) m) in
    omega (arith, ap (λ n. length (by_ones b from n)) e, l, k, by_ones-more b (from + 1) m, ap (choose b) f)

-- what a count of the patterns has come to before those with more than i one bits
pub record IsCounted (b i n total : ℕ) : Type 0 where
  pub many : n ≡ choose b i
  pub sum : total ≡ length (by_ones b 0 (i + 1))
  pub most : total ≤ (i + 1) * 2 ^ b

pub counted_none : (b : ℕ) → IsCounted b 0 1 1
unfolding choose by_ones
counted_none b = record {
  many = refl;
  sum = sym (length-append (with_ones b 0) [] ∙ ap (λ n. n + 0) (many_is b 0));
  most = omega (arith, pow_pos b);
}

pub step_exact : (b i many : ℕ) → i < b → many ≡ choose b i → many * (b - i) ≡ choose b (i + 1) * (i + 1)
step_exact b i many l e =
    let n = choose-next b i in
    let f : suc i ≡ i + 1 = omega arith in
    let g : choose b (suc i) * suc i ≡ choose b (i + 1) * (i + 1) = ap (λ k. choose b k * k) f in
    let h : (b - i) + i ≡ b = omega arith in
    let p : choose b i * ((b - i) + i) ≡ choose b i * b = ap (λ k. choose b i * k) h in
    let q : many * (b - i) ≡ choose b i * (b - i) = ap (λ k. k * (b - i)) e in
    omega (arith, n, g, p, q)

pub step_fits : (b i many : ℕ) → i < b → b ≤ 64 → many ≡ choose b i → many * (b - i) < 2 ^ 128
step_fits b i many l most e =
    let small : choose b i ≤ 2 ^ 64 = le_trans (choose_pow b i) (pow-le-pow_right (lit< tt) most) in
    let few : b - i ≤ 64 = omega arith in
    let p : many * (b - i) ≤ 2 ^ 64 * 64 = mul-le many (b - i) (2 ^ 64) 64 (omega arith) few in
    omega (arith, p)

pub counted_more : (b i many sum next : ℕ) → i < b → b ≤ 64 → IsCounted b i many sum → next ≡ many * (b - i) / (i + 1)
    → IsCounted b (i + 1) next (sum + next)
counted_more b i many sum next l most so e =
    let exact = step_exact b i many l so.many in
    let is : next ≡ choose b (i + 1) = e ∙ ap (λ n. n / (i + 1)) exact ∙ mul-div_cancel (choose b (i + 1))
    (omega arith) in
    let z : 0 + (i + 1) ≡ i + 1 = omega arith in
    record {
      many = is;
      sum = omega (arith, so.sum, is, by_ones-more b 0 (i + 1), ap (choose b) z);
      most = omega (arith, so.most, is, choose_pow b (i + 1));
    }

pub sum_fits : (b i many sum : ℕ) → b ≤ 64 → i ≤ b → IsCounted b i many sum → sum < 2 ^ 128
sum_fits b i many sum most l so =
    let p : (i + 1) * 2 ^ b ≤ 65 * 2 ^ 64 = mul-le (i + 1) (2 ^ b) 65 (2 ^ 64) (omega arith)
    (pow-le-pow_right (lit< tt) most) in
    omega (arith, so.most, p)
