-- Lists at the places of their keys.
use Rattle.std.proofs.Common.{◌≡◌, ℕ, zero, suc, ◌+◌, ◌<◌, ◌≤◌, inl, inr, Bool, true, false, cond, nat_eq, List, [], ◌∷◌}
use Rattle.std.proofs.Common.{◌++◌, length, map, take, set, get_or, replicate, Option, Some, None, refl, sym, ap, ◌∙◌, subst}
use Rattle.std.proofs.Common.{arith, get_or-set_same, get_or-set_other}
use Rattle.std.specs.List.{IsDistinct}
use Rattle.std.specs.Map.{keys_of}
use Rattle.std.proofs.lemmas.Bool.{ne_eqb, eq-eqb}
use Rattle.std.proofs.lemmas.Bool.Decides.{eqb_tells}
use Rattle.std.proofs.lemmas.List.{get_or-map, length-set, map-set}
use Rattle.std.proofs.lemmas.List.Elements.{All-from_recursion}
use Rattle.std.proofs.lemmas.Map.Keys.{IsDistinct-tail, IsDistinct-head}
use Rattle.key_buckets.specs.Direct.{AreDirect, no_list, shown}
use Rattle.key_buckets.specs.Keys.{list_of}

some_is_none : (l : ℕ) → Some l ≡ None → ⊥
some_is_none l e = cc

-- one more entry, found by its key alone
last_found : (es : List (ℕ × ℕ)) (key list : ℕ) → list_of es key ≡ None → list_of (es ++ (key, list) ∷ []) key ≡ Some list
last_found [] key list none = ap (λ (b : Bool). cond b (Some list) None) (eq-eqb key key refl)
last_found (e ∷ es) key list none =
    elim (eqb_tells key e.0) [
      | inl t ↦ absurd (some_is_none e.1 (sym (ap (λ (b : Bool). cond b (Some e.1) (list_of es key)) t.0) ∙ none))
      | inr t ↦ ap (λ (b : Bool). cond b (Some e.1) (list_of (es ++ (key, list) ∷ []) key)) t.0
          ∙ last_found es key list (sym (ap (λ (b : Bool). cond b (Some e.1) (list_of es key)) t.0) ∙ none)
    ]

last_other : (es : List (ℕ × ℕ)) (k key list : ℕ) → nat_eq k key ≡ false
    → list_of (es ++ (key, list) ∷ []) k ≡ list_of es k
last_other [] k key list h = ap (λ (b : Bool). cond b (Some list) None) h
last_other (e ∷ es) k key list h =
    ap (λ (o : Option ℕ). cond (nat_eq k e.0) (Some e.1) o) (last_other es k key list h)

-- the list of one more key at its place
pub direct_noted : (es : List (ℕ × ℕ)) (direct : List (Option ℕ)) (key list : ℕ) → key < length direct
    → list_of es key ≡ None → AreDirect es direct → AreDirect (es ++ (key, list) ∷ []) (set direct key (Some list))
direct_noted es direct key list within none h k low =
    let there : k < length direct = omega (arith, length-set direct key (Some list)) in
    elim (eqb_tells k key) [
      | inl t ↦ ap (λ (j : ℕ). get_or (set direct key (Some list)) j None) t.1
          ∙ get_or-set_same direct key (Some list) None within
          ∙ sym (ap (list_of (es ++ (key, list) ∷ [])) t.1 ∙ last_found es key list none)
      | inr t ↦ get_or-set_other direct key k (Some list) None t.1 ∙ h k there
          ∙ sym (last_other es k key list t.0)
    ]

-- one more key past the places
pub direct_past : (es : List (ℕ × ℕ)) (direct : List (Option ℕ)) (key list : ℕ) → length direct ≤ key
    → AreDirect es direct → AreDirect (es ++ (key, list) ∷ []) direct
direct_past es direct key list past h k low =
    h k low ∙ sym (last_other es k key list (ne_eqb k key (λ e. omega arith)))

-- the key of an entry has no list before it
pub fresh_at : (es : List (ℕ × ℕ)) (i : ℕ) → IsDistinct nat_eq (keys_of es) → i < length es
    → list_of (take i es) (get_or es i (0, 0)).0 ≡ None
fresh_at [] i d h = absurd (omega arith)
fresh_at (e ∷ es) zero d h = refl
fresh_at (e ∷ es) (suc i) d h =
    let key : ℕ = (get_or es i (0, 0)).0 in
    let low : i < length es = omega arith in
    let apart : nat_eq e.0 key ≡ false =
    subst (λ (k : ℕ). nat_eq e.0 k ≡ false) (get_or-map (λ (f : ℕ × ℕ). f.0) es i (0, 0) 0 low)
    (All-from_recursion (λ (k : ℕ). nat_eq e.0 k ≡ false) (keys_of es) (IsDistinct-head nat_eq e.0 (keys_of es) d) i 0 (omega (arith, length_keys es))) in
    ap (λ (b : Bool). cond b (Some e.1) (list_of (take i es) key)) (turned e.0 key apart)
    ∙ fresh_at es i (IsDistinct-tail nat_eq e.0 (keys_of es) d) low
  where
    length_keys : (fs : List (ℕ × ℕ)) → length (keys_of fs) ≡ length fs
    length_keys [] = refl
    length_keys (f ∷ fs) = ap suc (length_keys fs)

    differs : (j k : ℕ) → nat_eq j k ≡ false → k ≡ j → ⊥
    differs j k h e = absurd (clash (sym (eq-eqb j k (sym e)) ∙ h))
      where
        clash : true ≡ false → ⊥
        clash e = cc

    turned : (j k : ℕ) → nat_eq j k ≡ false → nat_eq k j ≡ false
    turned j k h = ne_eqb k j (differs j k h)

-- ---- what is kept of them

pub shown_list : (list : ℕ) → (list ≡ no_list → ⊥) → shown list ≡ Some list
shown_list list h = ap (λ (b : Bool). cond b None (Some list)) (ne_eqb list no_list h)

pub none_shown : (n : ℕ) → map shown (replicate n no_list) ≡ replicate n None
none_shown zero = refl
none_shown (suc n) = ap (λ (ls : List (Option ℕ)). None ∷ ls) (none_shown n)

pub set_shown : (lists : List ℕ) (seen : List (Option ℕ)) (key list : ℕ) → map shown lists ≡ seen → list < no_list
    → map shown (set lists key list) ≡ set seen key (Some list)
set_shown lists seen key list e low =
    map-set shown lists key list
    ∙ ap (λ (o : Option ℕ). set (map shown lists) key o) (shown_list list (λ f. omega arith))
    ∙ ap (λ (ls : List (Option ℕ)). set ls key (Some list)) e
