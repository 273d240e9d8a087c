-- Each pattern comes once.
use Rattle.std.proofs.Common.{◌≡◌, ℕ, zero, suc, ◌+◌, ◌^◌, ◌<◌, ◌≤◌, ◌⊎◌, inl, inr, Bool, true, false, cond, nat_eq}
use Rattle.std.proofs.Common.{List, [], ◌∷◌, ◌++◌, refl, sym, ap, ◌∙◌, arith}
use Rattle.std.specs.Int.RustNames.{count_ones}
use Rattle.std.specs.List.{filter, range_with_len}
use Rattle.std.proofs.lemmas.Bool.{ne_eqb, cases_lt}
use Rattle.std.proofs.lemmas.Bool.Decides.{eqb_tells}
use Rattle.flip_walk.specs.Patterns.{has_ones, with_ones, by_ones, flips, times, HasEachOnce}

pub times-append : (x : ℕ) (xs ys : List ℕ) → times x (xs ++ ys) ≡ times x xs + times x ys
times-append x [] ys = omega arith
times-append x (y ∷ xs) ys = omega (arith, times-append x xs ys)

filter_same : (p : ℕ → Bool) (x y : ℕ) (ys : List ℕ) (t : Bool) → p x ≡ t → y ≡ x → nat_eq y x ≡ true
    → times x (filter p ys) ≡ cond (p x) (times x ys) 0 → times x (filter p (y ∷ ys)) ≡ cond (p x) (times x (y ∷ ys)) 0
filter_same p x y ys true e same test h =
    let f : p y ≡ true = ap p same ∙ e in
    let g : times x (filter p ys) ≡ times x ys = rw e at h in
    rw (f, e) (ap (λ n. cond (nat_eq y x) 1 0 + n) g)
filter_same p x y ys false e same test h =
    let f : p y ≡ false = ap p same ∙ e in
    let g : times x (filter p ys) ≡ 0 = rw e at h in
    rw (f, e) g

filter_other : (p : ℕ → Bool) (x y : ℕ) (ys : List ℕ) (t u : Bool) → nat_eq y x ≡ false → times x (filter p ys) ≡ cond u
    (times x ys) 0 → times x (cond t (y ∷ filter p ys) (filter p ys)) ≡ cond u (times x (y ∷ ys)) 0
filter_other p x y ys true true n h = ap (λ k. cond (nat_eq y x) 1 0 + k) h
filter_other p x y ys true false n h = omega (arith, h, ap (λ (t : Bool). cond {A = ℕ} t 1 0 + times x (filter p ys)) n)
filter_other p x y ys false true n h = omega (arith, h, ap (λ (t : Bool). cond {A = ℕ} t 1 0 + times x ys) n)
filter_other p x y ys false false n h = h

none_either : (t : Bool) → 0 ≡ cond {A = ℕ} t 0 0
none_either true = refl
none_either false = refl

pub times-filter : (p : ℕ → Bool) (x : ℕ) (xs : List ℕ) → times x (filter p xs) ≡ cond (p x) (times x xs) 0
times-filter p x [] = none_either (p x)
times-filter p x (y ∷ ys) =
    elim (eqb_tells y x) [
      | inl e ↦ filter_same p x y ys (p x) refl e.1 e.0 (times-filter p x ys)
      | inr n ↦ filter_other p x y ys (p y) (p x) n.0 (times-filter p x ys)
    ]

pub times-range_below : (x a m : ℕ) → x < a → times x (range_with_len a m) ≡ 0
times-range_below x a zero h = refl
times-range_below x a (suc m) h =
    let n : nat_eq a x ≡ false = ne_eqb a x (λ e. omega arith) in
    ap (λ t. cond t 1 0 + times x (range_with_len (a + 1) m)) n
    ∙ ap (λ n. 0 + n) (times-range_below x (a + 1) m (omega arith))

pub times-range_above : (x a m : ℕ) → a + m ≤ x → times x (range_with_len a m) ≡ 0
times-range_above x a zero h = refl
times-range_above x a (suc m) h =
    let n : nat_eq a x ≡ false = ne_eqb a x (λ e. omega arith) in
    ap (λ t. cond t 1 0 + times x (range_with_len (a + 1) m)) n
    ∙ ap (λ n. 0 + n) (times-range_above x (a + 1) m (omega arith))

range_on : (x a : ℕ) → a ≤ x → (a ≡ x → ⊥) → a + 1 ≤ x
range_on x a l n = omega arith

pub times-range : (x a m : ℕ) → a ≤ x → x < a + m → times x (range_with_len a m) ≡ 1
times-range x a zero l h = absurd (omega arith)
times-range x a (suc m) l h =
    elim (eqb_tells a x) [
      | inl e ↦ ap (λ t. cond t 1 0 + times x (range_with_len (a + 1) m)) e.0
          ∙ ap (λ n. 1 + n) (times-range_below x (a + 1) m (omega (arith, e.1)))
      | inr n ↦ ap (λ t. cond t 1 0 + times x (range_with_len (a + 1) m)) n.0
          ∙ ap (λ n. 0 + n) (times-range x (a + 1) m (range_on x a l n.1) (omega arith))
    ]

pub times-with_ones : (b n x : ℕ) → x < 2 ^ b → times x (with_ones b n) ≡ cond (nat_eq (count_ones x) n) 1 0
unfolding with_ones
times-with_ones b n x l =
    times-filter (has_ones n) x (range_with_len 0 (2 ^ b)) ∙ ap (λ k. cond (nat_eq (count_ones x) n) k 0)
    (times-range x 0 (2 ^ b) (omega arith) (omega arith))

pub times-with_ones_above : (b n x : ℕ) → 2 ^ b ≤ x → times x (with_ones b n) ≡ 0
unfolding with_ones
times-with_ones_above b n x l =
    times-filter (has_ones n) x (range_with_len 0 (2 ^ b)) ∙ ap (λ k. cond (nat_eq (count_ones x) n) k 0)
    (times-range_above x 0 (2 ^ b) (omega arith))
    ∙ sym (none_either (nat_eq (count_ones x) n))

pub by_ones-above : (b from many x : ℕ) → 2 ^ b ≤ x → times x (by_ones b from many) ≡ 0
unfolding by_ones
by_ones-above b from zero x l = refl
by_ones-above b from (suc many) x l =
    omega (
      arith,
      times-append x (with_ones b from) (by_ones b (from + 1) many),
      times-with_ones_above b from x l,
      by_ones-above b (from + 1) many x l,
    )

out : (n from many : ℕ) → n ≡ from → (n < from) ⊎ (from + suc many ≤ n) → ⊥
out n from many e (inl l) = omega arith
out n from many e (inr l) = omega arith

out_more : (n from many : ℕ) → (n < from) ⊎ (from + suc many ≤ n) → (n < from + 1) ⊎ ((from + 1) + many ≤ n)
out_more n from many (inl l) = inl (omega arith)
out_more n from many (inr l) = inr (omega arith)

once_on : {n from : ℕ} → (n ≡ from → ⊥) → from ≤ n → from + 1 ≤ n
once_on ne l = omega arith

pub by_ones-other : (b from many x : ℕ) → x < 2 ^ b → (count_ones x < from) ⊎ (from + many ≤ count_ones x)
    → times x (by_ones b from many) ≡ 0
unfolding by_ones
by_ones-other b from zero x l h = refl
by_ones-other b from (suc many) x l h =
    let n : nat_eq (count_ones x) from ≡ false = ne_eqb (count_ones x) from (λ e. out (count_ones x) from many e h) in
    omega (
      arith,
      times-append x (with_ones b from) (by_ones b (from + 1) many),
      times-with_ones b from x l
          ∙ ap (λ t. cond t 1 0) n,
      by_ones-other b (from + 1) many x l (out_more (count_ones x) from many h),
    )

pub by_ones-once : (b from many x : ℕ) → x < 2 ^ b → from ≤ count_ones x → count_ones x < from + many
    → times x (by_ones b from many) ≡ 1
unfolding by_ones
by_ones-once b from zero x l least most = absurd (omega arith)
by_ones-once b from (suc many) x l least most =
    elim (eqb_tells (count_ones x) from) [
      | inl e ↦ omega (
        arith,
        times-append x (with_ones b from) (by_ones b (from + 1) many),
        times-with_ones b from x l
            ∙ ap (λ t. cond t 1 0) e.0,
        by_ones-other b (from + 1) many x l (inl (omega (arith, e.1))),
      )
      | inr n ↦ omega (
        arith,
        times-append x (with_ones b from) (by_ones b (from + 1) many),
        times-with_ones b from x l
            ∙ ap (λ t. cond t 1 0) n.0,
        by_ones-once b (from + 1) many x l (once_on n.1 least) (omega arith),
      )
    ]

others_of : (b nflip x : ℕ) → nflip < count_ones x → times x (flips b nflip) ≡ 0
others_of b nflip x more =
    elim (cases_lt x (2 ^ b)) [
      | inl l ↦ by_ones-other b 0 (nflip + 1) x l (inr (omega arith))
      | inr l ↦ by_ones-above b 0 (nflip + 1) x l
    ]

pub each_once : (b nflip : ℕ) → HasEachOnce b nflip (flips b nflip)
each_once b nflip = record {
  each = λ x l few. by_ones-once b 0 (nflip + 1) x l (omega arith) (omega arith);
  others = λ x more. others_of b nflip x more;
  below = λ x l. by_ones-above b 0 (nflip + 1) x l;
}
