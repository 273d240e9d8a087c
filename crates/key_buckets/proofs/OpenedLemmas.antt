-- Lemmas on a key that is put last, on a further list.
use Rattle.std.proofs.Common.{◌≡◌, ℕ, ◌+◌, ◌<◌, ◌≤◌, ◌⊎◌, inl, inr, is_some, Bool, true, false, cond, nat_eq, List, []}
use Rattle.std.proofs.Common.{◌∷◌, ◌++◌, length, take, Option, Some, None, refl, sym, ap, ◌∙◌, arith, length-append}
use Rattle.std.proofs.Common.{true≢false}
use Rattle.std.specs.List.{list_any}
use Rattle.std.specs.Map.{keys_of}
use Rattle.std.proofs.lemmas.List.{take-append-le, take_all, map-append}
use Rattle.std.proofs.lemmas.Bool.{ne_eqb, eq-eqb}
use Rattle.std.proofs.lemmas.Bool.Decides.{eqb_tells}
use Rattle.key_buckets.specs.Keys.{list_of, IsNumbering}
use Rattle.key_buckets.specs.Room.{IsOpened}
use Rattle.key_buckets.proofs.FirstsLemmas.{any-keys}

none_some : (l : ℕ) (o : Option ℕ) → o ≡ None → o ≡ Some l → ⊥
none_some l o e f = cc

some_same : (l m : ℕ) (o : Option ℕ) → o ≡ Some l → o ≡ Some m → l ≡ m
some_same l m o e f = cc

-- a new key has the list n, and the others keep theirs
opened_at : (n : ℕ) (es fs : List (ℕ × ℕ)) (k : ℕ)
    → ((q : ℕ) → list_of fs q ≡ cond (nat_eq k q) (Some n) (list_of es q))
    → (q m : ℕ) → list_of fs q ≡ Some m → ((q ≡ k) × (m ≡ n)) ⊎ (list_of es q ≡ Some m)
opened_at n es fs k look q m found =
    elim (eqb_tells k q) [
      | inl t ↦ inl (
        sym t.1,
        some_same m n (list_of fs q) found (look q ∙ ap (λ b. cond b (Some n) (list_of es q)) t.0),
      )
      | inr t ↦ inr (sym (look q ∙ ap (λ b. cond b (Some n) (list_of es q)) t.0) ∙ found)
    ]

opened_below : (n : ℕ) (es : List (ℕ × ℕ)) (k q m : ℕ) → IsNumbering n es
    → ((q ≡ k) × (m ≡ n)) ⊎ (list_of es q ≡ Some m) → m < n + 1
opened_below n es k q m ok (inl h) = omega (arith, h.1)
opened_below n es k q m ok (inr h) = omega (arith, ok.below q m h)

opened_apart : (n : ℕ) (es : List (ℕ × ℕ)) (k p q m : ℕ) → IsNumbering n es
    → ((p ≡ k) × (m ≡ n)) ⊎ (list_of es p ≡ Some m) → ((q ≡ k) × (m ≡ n)) ⊎ (list_of es q ≡ Some m) → p ≡ q
opened_apart n es k p q m ok (inl g) (inl h) = g.0 ∙ sym h.0
opened_apart n es k p q m ok (inl g) (inr h) = absurd (omega (arith, g.1, ok.below q m h))
opened_apart n es k p q m ok (inr g) (inl h) = absurd (omega (arith, h.1, ok.below p m g))
opened_apart n es k p q m ok (inr g) (inr h) = ok.apart p q m g h

opened_fresh : (n : ℕ) (es : List (ℕ × ℕ)) (k q m : ℕ) → ((q ≡ k) × (m ≡ n)) ⊎ (list_of es q ≡ Some m)
    → (list_of es q ≡ Some m) ⊎ (n ≤ m)
opened_fresh n es k q m (inl h) = inr (omega (arith, h.1))
opened_fresh n es k q m (inr h) = inl h

keys_step : (t : Bool) (ks js : List ℕ) (k : ℕ) → t ≡ false → js ≡ ks ++ k ∷ [] → js ≡ cond t ks (ks ++ k ∷ [])
keys_step true ks js k e h = absurd (true≢false e)
keys_step false ks js k e h = h

pub opened_same : (others : ℕ) (es : List (ℕ × ℕ)) (k l : ℕ) → IsNumbering (others + length es) es
    → list_of es k ≡ Some l → IsOpened others es es k l
opened_same others es k l ok found = record {
  numbering = ok;
  found = found;
  kept = λ q m e. e;
  fresh = λ q m e. inl e;
  keys = sym (ap (λ (t : Bool). cond t (keys_of es) (keys_of es ++ k ∷ [])) (any-keys es k ∙ ap is_some found));
  prefix = take_all (length es) es (omega arith);
  least = omega arith;
  most = omega arith;
}

pub opened_new : (others : ℕ) (es fs : List (ℕ × ℕ)) (k l : ℕ) → IsNumbering (others + length es) es
    → list_of es k ≡ None → l ≡ others + length es
    → ((q : ℕ) → list_of fs q ≡ cond (nat_eq k q) (Some l) (list_of es q)) → fs ≡ es ++ (k, l) ∷ []
    → IsOpened others es fs k l
opened_new others es fs k l ok none at look e =
    let n : ℕ = others + length es in
    let longer : length fs ≡ length es + 1 = omega (arith, ap length e, length-append es ((k, l) ∷ [])) in
    let look_at : (q : ℕ) → list_of fs q ≡ cond (nat_eq k q) (Some n) (list_of es q) = rw at at look in
    let cases = opened_at n es fs k look_at in
    record {
      numbering = record {
        below = λ q m found. omega (arith, opened_below n es k q m ok (cases q m found), longer);
        apart = λ p q m found also. opened_apart n es k p q m ok (cases p m found) (cases q m also);
      };
      found = look k ∙ ap (λ b. cond b (Some l) (list_of es k)) (eq-eqb k k refl);
      kept = λ q m found. look q
          ∙ ap (λ b. cond b (Some l) (list_of es q))
          (ne_eqb k q (λ same. none_some m (list_of es q) (ap (list_of es) (sym same) ∙ none) found)) ∙ found;
      fresh = λ q m found. opened_fresh n es k q m (cases q m found);
      keys = keys_step (list_any (nat_eq k) (keys_of es)) (keys_of es) (keys_of fs) k (any-keys es k
          ∙ ap is_some none) (ap keys_of e ∙ map-append (λ (p : ℕ × ℕ). p.0) es ((k, l) ∷ []));
      prefix = ap (take (length es)) e ∙ take-append-le (length es) es ((k, l) ∷ []) (omega arith)
          ∙ take_all (length es) es (omega arith);
      least = omega arith;
      most = omega arith;
    }
