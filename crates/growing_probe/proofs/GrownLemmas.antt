-- Lemmas on the least number of flips at which a search is exact.
use Rattle.std.proofs.Common.{◌≡◌, ℕ, zero, suc, ◌+◌, ◌<◌, ◌≤◌, inl, inr, Bool, true, false, cond}
use Rattle.std.proofs.Common.{List}
use Rattle.std.proofs.Common.{Some, refl, sym, ap, ◌∙◌, arith, subst, find, true≢false, zero-add}
use Rattle.std.specs.List.{range_with_len}
use Rattle.std.specs.Option.{unwrap_or}
use Rattle.std.proofs.lemmas.Bool.{cases_lt}
use Rattle.std.proofs.lemmas.Bool.Decides.{eqb_tells}
use Rattle.bcodes.specs.Value.{MultiValue}
use Rattle.bcodes.specs.Marks.{search_mark}
use Rattle.growing_probe.specs.Grown.{flipped, grown}

-- r is the first of n numbers from a on that passes the test, or the number behind them where none does
record IsFirst (t : ℕ → Bool) (a n r : ℕ) : Type 0 where
  least : a ≤ r
  most : r ≤ a + n
  none : (i : ℕ) → a ≤ i → i < r → t i ≡ false
  found : r < a + n → t r ≡ true

first_step : (t : ℕ → Bool) (a n : ℕ) (b : Bool) → t a ≡ b
    → IsFirst t (a + 1) n (unwrap_or (find t (range_with_len (a + 1) n)) ((a + 1) + n))
    → IsFirst t a (suc n) (unwrap_or (cond b (Some a) (find t (range_with_len (a + 1) n))) (a + suc n))
first_step t a n true e h = record {
  least = omega arith;
  most = omega arith;
  none = λ i l m. absurd (omega arith);
  found = λ l. e;
}
first_step t a n false e h =
    let same : (a + 1) + n ≡ a + suc n = omega arith in
    let first : ℕ = unwrap_or (find t (range_with_len (a + 1) n)) ((a + 1) + n) in
    let here : IsFirst t a (suc n) first = record {
      least = omega (arith, h.least);
      most = omega (arith, h.most);
      none = λ i l m. elim (eqb_tells i a) [
        | inl x ↦ ap t x.1 ∙ e
        | inr x ↦ h.none i (above i a l x.1) m
      ];
      found = λ l. h.found (omega arith);
    } in
    subst (λ (d : ℕ). IsFirst t a (suc n) (unwrap_or (find t (range_with_len (a + 1) n)) d)) same here
  where
    above : (i a : ℕ) → a ≤ i → (i ≡ a → ⊥) → a + 1 ≤ i
    above i a l ne = omega arith

first_of : (t : ℕ → Bool) (a n : ℕ) → IsFirst t a n (unwrap_or (find t (range_with_len a n)) (a + n))
first_of t a zero = record {
  least = omega arith;
  most = omega arith;
  none = λ i l m. absurd (omega arith);
  found = λ l. absurd (omega arith);
}
first_of t a (suc n) = first_step t a n (t a) refl (first_of t (a + 1) n)

first_is : (t : ℕ → Bool) (n r s : ℕ) → IsFirst t 0 n r → s ≤ n
    → ((i : ℕ) → i < s → t i ≡ false) → t s ≡ true → r ≡ s
first_is t n r s h most none passes =
    elim (cases_lt r s) [
      | inl below ↦ absurd (true≢false (sym (h.found (omega arith)) ∙ none r below))
      | inr above ↦ elim (cases_lt s r) [
        | inl less ↦ absurd (true≢false (sym passes ∙ h.none s (omega arith) less))
        | inr same ↦ omega arith
      ]
    ]

module _ (v : MultiValue) (q : List ℕ) (k : ℕ) where
  marks : ℕ → Bool
  marks flips = search_mark (flipped v flips) q k

  grown_first : IsFirst marks 0 v.b (grown v q k)
  unfolding grown marks
  grown_first = subst (λ (d : ℕ). IsFirst (λ flips. search_mark (flipped v flips) q k) 0 v.b
      (unwrap_or (find (λ flips. search_mark (flipped v flips) q k) (range_with_len 0 v.b)) d)) (zero-add v.b)
      (first_of (λ flips. search_mark (flipped v flips) q k) 0 v.b)

  pub grown_most : grown v q k ≤ v.b
  grown_most = omega (arith, grown_first.most)

  pub grown_least : (flips : ℕ) → flips < grown v q k → search_mark (flipped v flips) q k ≡ false
  unfolding marks
  grown_least flips low = grown_first.none flips (omega arith) low

  -- where it is exact with all bits flipped
  pub grown_marked : search_mark (flipped v v.b) q k ≡ true → search_mark (flipped v (grown v q k)) q k ≡ true
  unfolding marks
  grown_marked last =
      elim (cases_lt (grown v q k) v.b) [
        | inl less ↦ grown_first.found (omega (arith, less))
        | inr all ↦
            let same : grown v q k ≡ v.b = omega (arith, grown_most, all) in
            ap (λ (flips : ℕ). search_mark (flipped v flips) q k) same ∙ last
      ]

  pub grown_is : (flips : ℕ) → flips ≤ v.b
      → ((i : ℕ) → i < flips → search_mark (flipped v i) q k ≡ false)
      → search_mark (flipped v flips) q k ≡ true → grown v q k ≡ flips
  unfolding marks
  grown_is flips most none passes = first_is marks v.b (grown v q k) flips grown_first most none passes
