-- Lemmas on keys in order of first appearance.
use Rattle.std.proofs.Common.{◌≡◌, ℕ, ◌||◌, Bool, true, false, cond, not, nat_eq, List, [], ◌∷◌, ◌++◌, Option}
use Rattle.std.proofs.Common.{Some, is_some, refl, sym, ap, ◌∙◌, append-nil, inl, inr}
use Rattle.std.specs.List.{filter, list_any}
use Rattle.std.specs.Map.{keys_of}
use Rattle.std.proofs.lemmas.List.Elements.{filter-append}
use Rattle.std.proofs.lemmas.Bool.Decides.{eqb_tells}
use Rattle.key_buckets.specs.Keys.{firsts, list_of}

abbrev others : ℕ → List ℕ → List ℕ
others x ks = filter (λ j. not (nat_eq j x)) ks

any-others : (k x : ℕ) (ks : List ℕ) → nat_eq k x ≡ false → list_any (nat_eq k) (others x ks) ≡ list_any (nat_eq k) ks
any-others k x [] h = refl
any-others k x (y ∷ ys) h =
    elim (eqb_tells y x) [
      | inl t ↦ ap (λ (b : Bool). list_any (nat_eq k) (cond (not b) (y ∷ others x ys) (others x ys))) t.0
          ∙ any-others k x ys h
          ∙ sym (ap (λ (b : Bool). b || list_any (nat_eq k) ys) (ap (nat_eq k) t.1 ∙ h))
      | inr t ↦ ap (λ (b : Bool). list_any (nat_eq k) (cond (not b) (y ∷ others x ys) (others x ys))) t.0
          ∙ ap (λ (b : Bool). nat_eq k y || b) (any-others k x ys h)
    ]

-- a number is among the first ones where it is among all
pub any-firsts : (k : ℕ) (ks : List ℕ) → list_any (nat_eq k) (firsts ks) ≡ list_any (nat_eq k) ks
any-firsts k [] = refl
any-firsts k (x ∷ xs) =
    elim (eqb_tells k x) [
      | inl t ↦ ap (λ (b : Bool). b || list_any (nat_eq k) (others x (firsts xs))) t.0
          ∙ sym (ap (λ (b : Bool). b || list_any (nat_eq k) xs) t.0)
      | inr t ↦ ap (λ (b : Bool). nat_eq k x || b) (any-others k x (firsts xs) t.0 ∙ any-firsts k xs)
    ]

first_of_two : (c : Bool) (u v : List ℕ) → cond (c || true) u v ≡ u
first_of_two true u v = refl
first_of_two false u v = refl

push_step : (b : Bool) (k x : ℕ) (ys : List ℕ)
    → x ∷ others x (cond b ys (ys ++ k ∷ [])) ≡ cond (nat_eq k x || b) (x ∷ others x ys) ((x ∷ others x ys) ++ k ∷ [])
push_step true k x ys = sym (first_of_two (nat_eq k x) (x ∷ others x ys) ((x ∷ others x ys) ++ k ∷ []))
push_step false k x ys =
    elim (eqb_tells k x) [
      | inl t ↦ ap (λ (l : List ℕ). x ∷ l) (filter-append (λ j. not (nat_eq j x)) ys (k ∷ [])
          ∙ ap (λ (c : Bool). others x ys ++ cond (not c) (k ∷ []) []) t.0 ∙ append-nil (others x ys))
          ∙ sym (ap (λ (c : Bool). cond (c || false) (x ∷ others x ys) ((x ∷ others x ys) ++ k ∷ [])) t.0)
      | inr t ↦ ap (λ (l : List ℕ). x ∷ l) (filter-append (λ j. not (nat_eq j x)) ys (k ∷ [])
          ∙ ap (λ (c : Bool). others x ys ++ cond (not c) (k ∷ []) []) t.0)
          ∙ sym (ap (λ (c : Bool). cond (c || false) (x ∷ others x ys) ((x ∷ others x ys) ++ k ∷ [])) t.0)
    ]

-- one more number goes last where it is new
pub firsts-push : (ks : List ℕ) (k : ℕ)
    → firsts (ks ++ k ∷ []) ≡ cond (list_any (nat_eq k) ks) (firsts ks) (firsts ks ++ k ∷ [])
firsts-push [] k = refl
firsts-push (x ∷ xs) k = ap (λ (l : List ℕ). x ∷ others x l) (firsts-push xs k)
    ∙ push_step (list_any (nat_eq k) xs) k x (firsts xs)

found_step : (t b : Bool) (v : ℕ) (o : Option ℕ) → b ≡ is_some o → (t || b) ≡ is_some (cond t (Some v) o)
found_step true b v o e = refl
found_step false b v o e = e

-- a key is among the keys where it has a list
pub any-keys : (es : List (ℕ × ℕ)) (k : ℕ) → list_any (nat_eq k) (keys_of es) ≡ is_some (list_of es k)
any-keys [] k = refl
any-keys (e ∷ es) k = found_step (nat_eq k e.0) (list_any (nat_eq k) (keys_of es)) e.1 (list_of es k) (any-keys es k)
