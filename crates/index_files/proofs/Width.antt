-- The least width that holds a number, and the greatest of some numbers.
use Rattle.std.proofs.Common.{◌≡◌, inl, inr, ℕ, zero, suc, ◌+◌, ◌^◌, ◌<◌, ◌≤◌, max, Bool}
use Rattle.std.proofs.Common.{true, false, cond, leb, List, [], ◌∷◌, All, refl, sym, ap, subst, ◌∙◌, arith}
use Rattle.std.specs.Prelude.{count_by, fold}
use Rattle.std.proofs.lemmas.Bool.{cases_Bool, cases_eq, cases_lt, leb-true, leb-false, le-leb}
use Rattle.std.proofs.Math.Nat.{two-pow-succ}
use Rattle.std.proofs.lemmas.List.Sums.{sum_by-cons}
use Rattle.std.proofs.lemmas.List.Elements.{All-nil, All-cons, All-head, All-tail}
use Rattle.std.specs.List.{range_with_len}
use Rattle.index_files.specs.Canon.{bit_length}

-- a test that passes up to a place and not from there on
record Stops (p : ℕ → Bool) (a n c : ℕ) : Type 0 where
  at_most : c ≤ n
  before : (k : ℕ) → a ≤ k → k < a + c → p k ≡ true
  stop : c < n → p (a + c) ≡ false

count-stops : (p : ℕ → Bool) → ((k : ℕ) → p (k + 1) ≡ true → p k ≡ true) → (n a : ℕ)
    → Stops p a n (count_by p (range_with_len a n))
count-stops p down zero a = record {
  at_most = omega arith;
  before = λ k le lt. absurd (omega (arith, le, lt));
  stop = λ h. absurd (omega (arith, h));
}
count-stops p down (suc n) a =
    let ih = count-stops p down n (a + 1) in
    let c = count_by p (range_with_len (a + 1) n) in
    let cons : count_by p (a ∷ range_with_len (a + 1) n) ≡ cond (p a) 1 0 + c =
    sum_by-cons (λ k. cond (p k) 1 0) a (range_with_len (a + 1) n) in
    elim (cases_Bool (p a)) [
      | inl e ↦
          let is : count_by p (a ∷ range_with_len (a + 1) n) ≡ 1 + c = cons ∙ rw e refl in
          subst (Stops p a (suc n)) (sym is) (record {
            at_most = omega (arith, ih.at_most);
            before = λ k le lt. (elim (cases_eq k a) [
              | inl here ↦ ap p here ∙ e
              | inr ne ↦ ih.before k (omega (arith, le, ne)) (omega (arith, lt))
            ]);
            stop = λ h. (let move : a + (1 + c) ≡ (a + 1) + c = omega arith in
                ap p move ∙ ih.stop (omega (arith, h)));
          })
      | inr e ↦
          let none : c ≡ 0 = elim (cases_eq c 0) [
            | inl z ↦ z
            | inr ne ↦ absurd (let up = ih.before (a + 1) (omega arith) (omega (arith, ne)) in let h =
                down a up in clash (p a) e h)
          ] in
          let is : count_by p (a ∷ range_with_len (a + 1) n) ≡ 0 = cons ∙ rw (e, none) refl in
          subst (Stops p a (suc n)) (sym is) (record {
            at_most = omega arith;
            before = λ k le lt. absurd (omega (arith, le, lt));
            stop = λ h. (let z : a + 0 ≡ a = omega arith in ap p z ∙ e);
          })
    ]
  where
    clash : (b : Bool) → b ≡ false → b ≡ true → ⊥
    clash true e f = absurd cc
    clash false e f = absurd cc

pub record Width (x n : ℕ) : Type 0 where
  pub holds : x < 2 ^ n
  pub least : (m : ℕ) → x < 2 ^ m → n ≤ m

pub width-is : (x : ℕ) → x < 2 ^ 64 → Width x (bit_length x)
unfolding bit_length
width-is x lt =
    let s = count-stops (λ n. leb (2 ^ n) x)
    (λ k e. (let h : 2 ^ (k + 1) ≤ x = leb-true (2 ^ (k + 1)) x e in
    le-leb (2 ^ k) x (omega (arith, h, power k)))) 64 0 in
    let c = count_by (λ n. leb (2 ^ n) x) (range_with_len 0 64) in
    record {
      holds = elim (cases_lt c 64) [
        | inl less ↦ (let h = leb-false (2 ^ (0 + c)) x (s.stop less) in let z : 2 ^ (0 + c) ≡ 2 ^ c =
            (let e : 0 + c ≡ c = omega arith in ap (λ k. 2 ^ k) e) in omega (arith, h, z))
        | inr more ↦ (let e : c ≡ 64 = omega (arith, more, s.at_most) in let z : 2 ^ c ≡ 2 ^ 64 =
            ap (λ k. 2 ^ k) e in omega (arith, z, lt))
      ];
      least = λ m h. (elim (cases_lt m c) [
        | inl less ↦ absurd (let b = leb-true (2 ^ m) x (s.before m (omega arith) (omega (arith, less))) in
            omega (arith, b, h))
        | inr more ↦ more
      ]);
    }
  where
    power : (k : ℕ) → 2 ^ k ≤ 2 ^ (k + 1)
    power k = (let e : 2 ^ (k + 1) ≡ 2 ^ suc k =
        (let one : k + 1 ≡ suc k = omega arith in ap (λ n. 2 ^ n) one) in omega (arith, e, two-pow-succ k))

-- there is one least width
pub width-only : (x n : ℕ) → x < 2 ^ 64 → Width x n → n ≡ bit_length x
width-only x n lt h = (let w = width-is x lt in omega (arith, h.least (bit_length x) w.holds, w.least n h.holds))

-- ---- the greatest

pub max-below : (a y : ℕ) (xs : List ℕ) → fold max a xs < y → (a < y) × All (λ x. x < y) xs
max-below a y [] h = (h, All-nil (λ x. x < y))
max-below a y (x ∷ xs) h = (let ih = max-below (max a x) y xs h in
    (omega (arith, ih.0), All-cons (λ x. x < y) x xs (omega (arith, ih.0)) ih.1))

pub below-max : (a y : ℕ) (xs : List ℕ) → a < y → All (λ x. x < y) xs → fold max a xs < y
below-max a y [] lt h = lt
below-max a y (x ∷ xs) lt h = below-max (max a x) y xs (omega (arith, lt, All-head (λ x. x < y) x xs h))
    (All-tail (λ x. x < y) x xs h)
