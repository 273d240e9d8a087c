-- Lemmas on whether some item of a list passes a test.
use Rattle.std.proofs.Common.{◌≡◌, ℕ, zero, suc, ◌+◌, Bool, true, false, ◌||◌, cond, nat_eq, nat_lt}
use Rattle.std.proofs.Common.{List, []}
use Rattle.std.proofs.Common.{◌∷◌, ◌++◌, refl, sym, ap, ◌∙◌, arith, add-zero, zero-add, inl, inr}
use Rattle.std.specs.List.{list_any, range_with_len, sum_by}
use Rattle.std.proofs.lemmas.List.Folds.{list_any-append}
use Rattle.std.proofs.lemmas.List.Sums.{sum_by_push}
use Rattle.std.proofs.lemmas.Bool.{eq-eqb, ne_eqb, lt-ltb}
use Rattle.std.proofs.lemmas.Bool.Decides.{eqb_tells}
use Rattle.flip_walk.specs.Patterns.{times}

pub or_assoc : (s t u : Bool) → ((s || t) || u) ≡ (s || (t || u))
or_assoc true t u = refl
or_assoc false t u = refl

pub or_false : (s : Bool) → (s || false) ≡ s
or_false true = refl
or_false false = refl

or_middle : (s t u v : Bool) → ((s || t) || (u || v)) ≡ ((s || u) || (t || v))
or_middle true t u v = refl
or_middle false true true v = refl
or_middle false true false v = refl
or_middle false false u v = refl

pub range_more : (a n : ℕ) → range_with_len a (n + 1) ≡ range_with_len a n ++ (a + n) ∷ []
range_more a zero = ap (λ (m : ℕ). m ∷ []) (sym (add-zero a))
range_more a (suc n) =
    let e : suc n + 1 ≡ suc (n + 1) = omega arith in
    let f : (a + 1) + n ≡ a + suc n = omega arith in
    ap (range_with_len a) e
    ∙ ap (λ (l : List ℕ). a ∷ l) (range_more (a + 1) n
    ∙ ap (λ (m : ℕ). range_with_len (a + 1) n ++ m ∷ []) f)

-- one more number
pub any_more : (t : ℕ → Bool) (n : ℕ)
    → list_any t (range_with_len 0 (n + 1)) ≡ (list_any t (range_with_len 0 n) || t n)
any_more t n =
    ap (list_any t) (range_more 0 n)
    ∙ list_any-append t (range_with_len 0 n) ((0 + n) ∷ [])
    ∙ ap (λ (s : Bool). list_any t (range_with_len 0 n) || s) (or_false (t (0 + n)) ∙ ap t (zero-add n))

pub sum_more : (f : ℕ → ℕ) (n : ℕ) → sum_by f (range_with_len 0 (n + 1))
    ≡ sum_by f (range_with_len 0 n) + f n
sum_more f n =
    ap (sum_by f) (range_more 0 n) ∙ sum_by_push f (range_with_len 0 n) (0 + n)
    ∙ ap (λ (m : ℕ). sum_by f (range_with_len 0 n) + f m) (zero-add n)

-- one test or the other
pub any_either : (s t u : ℕ → Bool) → ((i : ℕ) → (s i || t i) ≡ u i) → (xs : List ℕ)
    → (list_any s xs || list_any t xs) ≡ list_any u xs
any_either s t u e [] = refl
any_either s t u e (x ∷ xs) =
    or_middle (s x) (list_any s xs) (t x) (list_any t xs)
    ∙ ap (λ (b : Bool). b || (list_any s xs || list_any t xs)) (e x)
    ∙ ap (λ (b : Bool). u x || b) (any_either s t u e xs)

pub any_none : (t : ℕ → Bool) → ((i : ℕ) → t i ≡ false) → (xs : List ℕ) → list_any t xs ≡ false
any_none t e [] = refl
any_none t e (x ∷ xs) = ap (λ (b : Bool). b || list_any t xs) (e x) ∙ any_none t e xs

-- a number stands in a list where it stands there at least once
pub any_times : (x : ℕ) (xs : List ℕ) → list_any (nat_eq x) xs ≡ nat_lt 0 (times x xs)
any_times x [] = refl
any_times x (y ∷ ys) =
    elim (eqb_tells x y) [
      | inl t ↦ ap (λ (b : Bool). b || list_any (nat_eq x) ys) t.0
          ∙ sym (lt-ltb 0 (times x (y ∷ ys))
          (omega (arith, ap (λ (b : Bool). cond {A = ℕ} b 1 0) (eq-eqb y x (sym t.1)))))
      | inr t ↦ ap (λ (b : Bool). b || list_any (nat_eq x) ys) t.0 ∙ any_times x ys
          ∙ sym (ap (nat_lt 0) (ap (λ (b : Bool). cond {A = ℕ} b 1 0 + times x ys) (ne_eqb y x (λ e. t.1 (sym e)))
          ∙ zero-add (times x ys)))
    ]
