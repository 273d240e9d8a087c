-- Each position is offered once, however often it is met.
use Rattle.std.proofs.Common.{◌≡◌, ◌≢◌, ℕ, zero, suc, ◌+◌, ◌<◌, ◌≤◌, min, max, ◌⊎◌, inl, inr, Bool, true, false}
use Rattle.std.proofs.Common.{not, cond, nat_eq, nat_lt, nat_abs, List, [], ◌∷◌, ◌++◌, length, get_or, set, replicate}
use Rattle.std.proofs.Common.{refl, sym, ap, ◌∙◌, arith, get_or-set_same, get_or-set_other}
use Rattle.std.specs.List.{filter, flat_map, All}
use Rattle.std.specs.List.Sorted.{IsPermutation}
use Rattle.std.proofs.lemmas.Bool.{ne_eqb, eq-eqb, eqb-true, lt-ltb}
use Rattle.std.proofs.lemmas.Bool.Decides.{eqb_tells}
use Rattle.std.proofs.lemmas.List.{get_or-replicate, length-set, length-replicate}
use Rattle.bcodes.specs.Value.{Row, numbered}
use Rattle.flip_walk.specs.Patterns.{times, under}
use Rattle.flip_walk.proofs.OnceLemmas.{times-append}
use Rattle.flip_walk.proofs.VisitLemmas.{visited_once}
use Rattle.multi_hash.specs.Seen.{first_met, is_met, IsSeen}

-- ---- the set of positions

pub seen_none : (n : ℕ) → IsSeen n [] (replicate n false)
seen_none n = record { count = length-replicate n false; each = λ i h. get_or-replicate n i false false h }

-- a position that was not met before
pub fresh_is : (n : ℕ) (met : List ℕ) (seen : List Bool) (p : ℕ) → IsSeen n met seen → p < n
    → not (get_or seen p false) ≡ nat_eq (times p met) 0
fresh_is n met seen p s h = ap not (s.each p h) ∙ not_positive (times p met)
  where
    not_positive : (m : ℕ) → not (nat_lt 0 m) ≡ nat_eq m 0
    not_positive zero = refl
    not_positive (suc m) = ap not (lt-ltb 0 (suc m) (omega arith)) ∙ sym (ne_eqb (suc m) 0 (λ e. omega arith))

seen_at : (n : ℕ) (met : List ℕ) (seen : List Bool) (p i : ℕ) → IsSeen n met seen → p < n → i < n
    → (i ≡ p) ⊎ (i ≢ p) → get_or (set seen p true) i false ≡ is_met (met ++ p ∷ []) i
seen_at n met seen p i s h l (inl e) =
    let within : p < length seen = omega (arith, s.count) in
    let self : nat_eq p i ≡ true = eq-eqb p i (sym e) in
    ap (λ (k : ℕ). get_or (set seen p true) k false) e
    ∙ get_or-set_same seen p true false within
    ∙ sym (lt-ltb 0 (times i (met ++ p ∷ [])) (omega (
      arith,
      times-append i met (p ∷ []),
      ap (λ (b : Bool). cond {A = ℕ} b 1 0) self,
    )))
seen_at n met seen p i s h l (inr ne) =
    let other : nat_eq p i ≡ false = ne_eqb p i (λ e. ne (sym e)) in
    let same : times i met ≡ times i (met ++ p ∷ []) = omega (
      arith,
      times-append i met (p ∷ []),
      ap (λ (b : Bool). cond {A = ℕ} b 1 0) other,
    ) in
    get_or-set_other seen p i true false ne ∙ s.each i l ∙ ap (λ (m : ℕ). nat_lt 0 m) same

-- one more position, met before or not
pub seen_more : (n : ℕ) (met : List ℕ) (seen : List Bool) (p : ℕ) → IsSeen n met seen → p < n
    → IsSeen n (met ++ p ∷ []) (set seen p true)
seen_more n met seen p s h = record {
  count = length-set seen p true ∙ s.count;
  each = λ i l. seen_at n met seen p i s h l (tells i p);
}
  where
    tells : (m n : ℕ) → (m ≡ n) ⊎ (m ≢ n)
    tells m n = elim (eqb_tells m n) [ inl e ↦ inl e.1 | inr e ↦ inr e.1 ]

-- ---- first meetings

same_times : (p x : ℕ) (done : List ℕ) → nat_eq p x ≡ true → times x done ≡ times p done
same_times p x done e = ap (λ (y : ℕ). times y done) (sym (eqb-true p x e))

few_more : (done : List ℕ) (p : ℕ) → ((y : ℕ) → times y done ≤ 1) → times p done ≡ 0 → (y : ℕ)
    → times y (done ++ p ∷ []) ≤ 1
few_more done p few none y =
    elim (eqb_tells p y) [
      | inl t ↦ omega (
        arith,
        times-append y done (p ∷ []),
        ap (λ (b : Bool). cond {A = ℕ} b 1 0 + 0) t.0,
        ap (λ (z : ℕ). times z done) t.1,
      )
      | inr t ↦ omega (arith, times-append y done (p ∷ []), ap (λ (b : Bool). cond {A = ℕ} b 1 0 + 0) t.0, few y)
    ]

new_count : (x p : ℕ) (done : List ℕ) (rest : ℕ) (t : Bool) → times p done ≡ 0
    → times x (done ++ p ∷ []) ≡ times x done + (cond {A = ℕ} t 1 0 + 0) → (t ≡ true → times x done ≡ times p done)
    → max (times x (done ++ p ∷ [])) (min 1 rest) ≡ max (times x done) (min 1 (cond {A = ℕ} t 1 0 + rest))
new_count x p done rest true none e same = let s = same refl in omega arith
new_count x p done rest false none e same = omega arith

old_count : (x p : ℕ) (done : List ℕ) (rest : ℕ) (t : Bool) → times x done ≤ 1 → (times p done ≡ 0 → ⊥)
    → (t ≡ true → times x done ≡ times p done)
    → max (times x done) (min 1 rest) ≡ max (times x done) (min 1 (cond {A = ℕ} t 1 0 + rest))
old_count x p done rest true few some same = let s = same refl in omega arith
old_count x p done rest false few some same = omega arith

-- how often a position is offered
pub times-first_met : (x : ℕ) (done ps : List ℕ) → ((y : ℕ) → times y done ≤ 1)
    → times x (first_met done ps) ≡ max (times x done) (min 1 (times x ps))
times-first_met x done [] few = omega (arith, few x)
times-first_met x done (p ∷ ps) few =
    elim (eqb_tells (times p done) 0) [
      | inl t ↦ ap (λ (b : Bool). times x (cond b (first_met (done ++ p ∷ []) ps) (first_met done ps))) t.0
          ∙ times-first_met x (done ++ p ∷ []) ps (few_more done p few t.1)
          ∙ new_count x p done (times x ps) (nat_eq p x) t.1 (times-append x done (p ∷ [])) (same_times p x done)
      | inr t ↦ ap (λ (b : Bool). times x (cond b (first_met (done ++ p ∷ []) ps) (first_met done ps))) t.0
          ∙ times-first_met x done ps few
          ∙ old_count x p done (times x ps) (nat_eq p x) (few x) t.1 (same_times p x done)
    ]

-- the rows offered are those that are near, each once
pub offered_rows : (near : Row → Bool) (codes : List (List ℕ)) (offered : List ℕ)
    → All (λ (row : Row). times (nat_abs row.label) offered ≡ cond (near row) 1 0) (numbered 0 codes)
    → IsPermutation (flat_map (under (λ (row : Row). nat_abs row.label) (numbered 0 codes)) offered)
    (filter near (numbered 0 codes))
offered_rows near codes offered h = visited_once (λ (row : Row). nat_abs row.label) near offered (numbered 0 codes) h
