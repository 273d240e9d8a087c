-- A walk over keys meets each item once whose key it has once.
use Rattle.std.proofs.Common.{◌≡◌, ℕ, ◌+◌, ◌^◌, ◌<◌, inl, inr, Bool, true, false, cond, nat_eq, nat_le, List, [], ◌∷◌}
use Rattle.std.proofs.Common.{◌++◌, map, refl, sym, ap, ◌∙◌, arith, get_or}
use Rattle.std.specs.List.{filter, flat_map, All}
use Rattle.std.specs.List.Sorted.{IsPermutation}
use Rattle.std.proofs.lemmas.List.Sorted.{IsPermutation-refl, IsPermutation-cons, IsPermutation-trans}
use Rattle.std.proofs.lemmas.List.Sorted.{IsPermutation-append_right, IsPermutation-middle}
use Rattle.std.proofs.lemmas.List.Elements.{All-head, All-tail}
use Rattle.std.specs.Int.Bits.{bit_xor, xor_assoc, xor_self, xor_zero_l}
use Rattle.std.specs.Int.RustNames.{count_ones}
use Rattle.std.proofs.lemmas.Nat.{xor_lt}
use Rattle.std.proofs.lemmas.Bool.{ne_eqb, eq-eqb, cases_lt, lt-leb, le-leb}
use Rattle.std.proofs.lemmas.Bool.Decides.{eqb_tells}
use Rattle.flip_walk.specs.Patterns.{times, under, flips}
use Rattle.flip_walk.proofs.OnceLemmas.{each_once}

module _ {X : Type 0} where
  none_step : (t : Bool) (x : ℕ) (r : X) (u : ℕ → List X) (k : ℕ) (ks : List ℕ) → cond {A = ℕ} t 1 0 + times x ks ≡ 0
      → (times x ks ≡ 0 → flat_map (λ k. cond (nat_eq k x) (r ∷ u k) (u k)) ks ≡ flat_map u ks)
      → cond t (r ∷ u k) (u k) ++ flat_map (λ k. cond (nat_eq k x) (r ∷ u k) (u k)) ks ≡ u k ++ flat_map u ks
  none_step true x r u k ks h rest = absurd (omega arith)
  none_step false x r u k ks h rest = ap (λ l. u k ++ l) (rest (omega arith))

  none_added : (x : ℕ) (r : X) (u : ℕ → List X) (ks : List ℕ) → times x ks ≡ 0
      → flat_map (λ k. cond (nat_eq k x) (r ∷ u k) (u k)) ks ≡ flat_map u ks
  none_added x r u [] h = refl
  none_added x r u (k ∷ ks) h = none_step (nat_eq k x) x r u k ks h (none_added x r u ks)

  one_step : (t : Bool) (x : ℕ) (r : X) (u : ℕ → List X) (k : ℕ) (ks : List ℕ) → cond {A = ℕ} t 1 0 + times x ks ≡ 1
      → (times x ks ≡ 1 → IsPermutation (flat_map (λ k. cond (nat_eq k x) (r ∷ u k) (u k)) ks) (r ∷ flat_map u ks))
      → IsPermutation (cond t (r ∷ u k) (u k) ++ flat_map (λ k. cond (nat_eq k x) (r ∷ u k) (u k)) ks)
      (r ∷ (u k ++ flat_map u ks))
  one_step true x r u k ks h rest = rw (none_added x r u ks (omega arith))
      (IsPermutation-refl (r ∷ (u k ++ flat_map u ks)))
  one_step false x r u k ks h rest =
      IsPermutation-trans (u k ++ flat_map (λ k. cond (nat_eq k x) (r ∷ u k) (u k)) ks) (u k ++ r ∷ flat_map u ks)
      (r ∷ (u k ++ flat_map u ks))
      (IsPermutation-append_right (u k) (flat_map (λ k. cond (nat_eq k x) (r ∷ u k) (u k)) ks) (r ∷ flat_map u ks)
      (rest (omega arith)))
      (IsPermutation-middle (u k) r (flat_map u ks))

  one_added : (x : ℕ) (r : X) (u : ℕ → List X) (ks : List ℕ) → times x ks ≡ 1
      → IsPermutation (flat_map (λ k. cond (nat_eq k x) (r ∷ u k) (u k)) ks) (r ∷ flat_map u ks)
  one_added x r u [] h = absurd (omega arith)
  one_added x r u (k ∷ ks) h = one_step (nat_eq k x) x r u k ks h (one_added x r u ks)

  none_met : (ks : List ℕ) → flat_map {X = ℕ} {A = X} (λ k. []) ks ≡ []
  none_met [] = refl
  none_met (k ∷ ks) = none_met ks

  visit_step : (number : X → ℕ) (near : X → Bool) (ks : List ℕ) (x : X) (xs : List X) (t : Bool)
      → times (number x) ks ≡ cond t 1 0
      → IsPermutation (flat_map (under number xs) ks) (filter near xs)
      → IsPermutation (flat_map (under number (x ∷ xs)) ks) (cond t (x ∷ filter near xs) (filter near xs))
  visit_step number near ks x xs true h rest =
      IsPermutation-trans (flat_map (under number (x ∷ xs)) ks) (x ∷ flat_map (under number xs) ks) (x ∷ filter near xs)
      (one_added (number x) x (under number xs) ks h)
      (IsPermutation-cons x (flat_map (under number xs) ks) (filter near xs) rest)
  visit_step number near ks x xs false h rest = rw (none_added (number x) x (under number xs) ks h) rest

  pub visited_once : (number : X → ℕ) (near : X → Bool) (ks : List ℕ) (xs : List X)
      → All (λ x. times (number x) ks ≡ cond (near x) 1 0) xs
      → IsPermutation (flat_map (under number xs) ks) (filter near xs)
  visited_once number near ks [] h = rw (none_met ks) (IsPermutation-refl [])
  visited_once number near ks (x ∷ xs) h =
      visit_step number near ks x xs (near x) (All-head (λ x. times (number x) ks ≡ cond (near x) 1 0) x xs h)
      (visited_once number near ks xs (All-tail (λ x. times (number x) ks ≡ cond (near x) 1 0) x xs h))

-- the keys that differ from q by the patterns
xor_twice : (q y : ℕ) → bit_xor q (bit_xor q y) ≡ y
xor_twice q y = sym (xor_assoc q q y) ∙ ap (λ (n : ℕ). bit_xor n y) (xor_self q) ∙ xor_zero_l y

same_flip : (q x y : ℕ) → nat_eq (bit_xor q y) x ≡ nat_eq y (bit_xor q x)
same_flip q x y =
    elim (eqb_tells y (bit_xor q x)) [
      | inl e ↦ eq-eqb (bit_xor q y) x (ap (bit_xor q) e.1 ∙ xor_twice q x) ∙ sym e.0
      | inr n ↦ ne_eqb (bit_xor q y) x (λ f. n.1 (sym (xor_twice q y) ∙ ap (bit_xor q) f)) ∙ sym n.0
    ]

pub times-flipped : (q x : ℕ) (ps : List ℕ) → times x (map (bit_xor q) ps) ≡ times (bit_xor q x) ps
times-flipped q x [] = refl
times-flipped q x (p ∷ ps) = ap (λ (t : Bool). cond {A = ℕ} t 1 0 + times x (map (bit_xor q) ps)) (same_flip q x p)
    ∙ ap (λ n. cond {A = ℕ} (nat_eq p (bit_xor q x)) 1 0 + n) (times-flipped q x ps)

flips_meet : (b nflip x : ℕ) → x < 2 ^ b → times x (flips b nflip) ≡ cond (nat_le (count_ones x) nflip) 1 0
flips_meet b nflip x l =
    elim (cases_lt nflip (count_ones x)) [
      | inl more ↦ (each_once b nflip).others x more
          ∙ sym (ap (λ (t : Bool). cond {A = ℕ} t 1 0) (lt-leb (count_ones x) nflip more))
      | inr few ↦ (each_once b nflip).each x l few
          ∙ sym (ap (λ (t : Bool). cond {A = ℕ} t 1 0) (le-leb (count_ones x) nflip few))
    ]

-- the buckets at the keys that differ from q in at most nflip bits hold each item whose key does
pub flips_visit : {X : Type 0} (number : X → ℕ) (b nflip q : ℕ) (xs : List X) → q < 2 ^ b
    → All (λ x. number x < 2 ^ b) xs
    → IsPermutation (flat_map (under number xs) (map (bit_xor q) (flips b nflip)))
    (filter (λ x. nat_le (count_ones (bit_xor q (number x))) nflip) xs)
flips_visit number b nflip q xs l all =
    visited_once number (λ x. nat_le (count_ones (bit_xor q (number x))) nflip) (map (bit_xor q) (flips b nflip)) xs
    (λ k d h. times-flipped q (number (get_or xs k d)) (flips b nflip)
    ∙ flips_meet b nflip (bit_xor q (number (get_or xs k d))) (xor_lt b q (number (get_or xs k d)) l (all k d h)))
