-- The lists that a query looks into hold the items whose keys are near.
use Rattle.std.proofs.Common.{◌≡◌, ℕ, ◌+◌, ◌^◌, ◌<◌, ◌≤◌, inl, inr, Bool, true, false, cond, nat_eq, nat_le}
use Rattle.std.proofs.Common.{List, [], ◌∷◌, ◌++◌, length, map, get_or, Option, Some, None, refl, sym, ap, ◌∙◌, subst}
use Rattle.std.proofs.Common.{arith, bit_xor, true≢false, append-nil}
use Rattle.std.specs.List.{filter, flat_map, All, IsDistinct, AllByRecursion}
use Rattle.std.specs.List.Sorted.{IsPermutation}
use Rattle.std.specs.Map.{keys_of}
use Rattle.std.proofs.lemmas.Cmp.{nat_eq_equiv}
use Rattle.std.proofs.lemmas.List.{map-append}
use Rattle.std.proofs.lemmas.List.Concat.{flat_map-append}
use Rattle.std.proofs.lemmas.List.Elements.{All-nil, All-cons, All-head, All-tail, All-append}
use Rattle.std.proofs.lemmas.List.Sorted.{IsPermutation-map}
use Rattle.std.proofs.lemmas.Map.Keys.{IsDistinct-tail, IsDistinct-head}
use Rattle.std.proofs.lemmas.Map.Entries.{lookup_tail, lookup_from_place}
use Rattle.std.proofs.lemmas.Option.{slice_get-get_or}
use Rattle.std.proofs.lemmas.Bool.{ne_eqb, eq-eqb}
use Rattle.std.proofs.lemmas.Bool.Decides.{eqb_tells}
use Rattle.flip_walk.specs.Patterns.{times, under, flips}
use Rattle.flip_walk.proofs.OnceLemmas.{times-filter}
use Rattle.flip_walk.proofs.VisitLemmas.{visited_once, flips_visit}
use Rattle.key_buckets.specs.Keys.{list_of, IsNumbering}
use Rattle.key_buckets.specs.Near.{is_near, as_list, lists_of, flipped_lists, lists_by_key, near_lists}
use Rattle.key_buckets.specs.Parts.{IsParted}

none_is_some : (o : Option ℕ) (l : ℕ) → o ≡ None → o ≡ Some l → ⊥
none_is_some o l e f = cc

clash : (x k : ℕ) → k ≡ x → nat_eq x k ≡ false → ⊥
clash x k e h = true≢false (sym (eq-eqb x k (sym e)) ∙ h)

no_entry : (l : ℕ) → None ≡ Some l → ⊥
no_entry l e = cc

later : (p : ℕ × ℕ) (es : List (ℕ × ℕ)) (x l : ℕ) → nat_eq x p.0 ≡ false → list_of (p ∷ es) x ≡ Some l
    → list_of es x ≡ Some l
later p es x l n e = sym (lookup_tail (nat_eq x) p es n) ∙ e

absent : (x : ℕ) (ks : List ℕ) → AllByRecursion (λ y. nat_eq x y ≡ false) ks → times x ks ≡ 0
absent x [] h = refl
absent x (k ∷ ks) h =
    let other : nat_eq k x ≡ false = ne_eqb k x (λ e. clash x k e h.0) in
    omega (arith, ap (λ (t : Bool). cond {A = ℕ} t 1 0 + times x ks) other, absent x ks h.1)

-- a key that has a bucket comes once among the keys
pub key_once : (es : List (ℕ × ℕ)) (x l : ℕ) → IsDistinct nat_eq (keys_of es) → list_of es x ≡ Some l
    → times x (keys_of es) ≡ 1
key_once [] x l d e = absurd (no_entry l e)
key_once (p ∷ es) x l d e =
    elim (eqb_tells x p.0) [
      | inl t ↦ omega (
        arith,
        ap (λ (b : Bool). cond {A = ℕ} b 1 0 + times x (keys_of es)) (eq-eqb p.0 x (sym t.1)),
        ap (λ (y : ℕ). times y (keys_of es)) t.1,
        absent p.0 (keys_of es) (IsDistinct-head nat_eq p.0 (keys_of es) d),
      )
      | inr t ↦ omega (
        arith,
        ap (λ (b : Bool). cond {A = ℕ} b 1 0 + times x (keys_of es))
            (ne_eqb p.0 x (λ s. t.1 (sym s))),
        key_once es x l (IsDistinct-tail nat_eq p.0 (keys_of es) d)
            (later p es x l t.0 e),
      )
    ]

-- each entry is what its key finds
pub own_lists : (es : List (ℕ × ℕ)) → IsDistinct nat_eq (keys_of es) → All (λ (e : ℕ × ℕ). list_of es e.0 ≡ Some e.1) es
own_lists es distinct i d low = lookup_from_place nat_eq_equiv es i (get_or es i d).0 (get_or es i d).1 distinct
    (slice_get-get_or es i d low)

-- ---- the items of the lists of keys

module _ {X Y : Type 0} (shown : X → Y) (number : X → ℕ) (es : List (ℕ × ℕ)) (lists : ℕ → List Y) (xs : List X)
    (t : IsParted shown number es lists xs) where
  abbrev shown_under : ℕ → List Y
  shown_under k = map shown (under number xs k)

  none_under : (k : ℕ) → list_of es k ≡ None → (ys : List X) → All (λ x. (l : ℕ) × (list_of es (number x) ≡ Some l)) ys
      → [] ≡ map shown (under number ys k)
  none_under k none [] h = refl
  none_under k none (y ∷ ys) h =
      let here = All-head (λ x. (l : ℕ) × (list_of es (number x) ≡ Some l)) y ys h in
      let other : nat_eq k (number y) ≡ false = ne_eqb k (number y)
      (λ e. none_is_some (list_of es k) here.0 none (ap (list_of es) e ∙ here.1)) in
      none_under k none ys (All-tail (λ x. (l : ℕ) × (list_of es (number x) ≡ Some l)) y ys h)
      ∙ sym (ap (λ (b : Bool). map shown (cond b (y ∷ under number ys k) (under number ys k))) other)

  met : (k : ℕ) (o : Option ℕ) → list_of es k ≡ o → flat_map lists (as_list o) ≡ shown_under k
  met k None e = none_under k e xs t.known
  met k (Some l) e = append-nil (lists l) ∙ t.parts k l e

  flipped_items : (ks : List ℕ) → flat_map lists (lists_of es ks) ≡ flat_map shown_under ks
  flipped_items [] = refl
  flipped_items (k ∷ ks) =
      flat_map-append lists (as_list (list_of es k)) (lists_of es ks)
      ∙ ap (λ (ys : List Y). ys ++ flat_map lists (lists_of es ks)) (met k (list_of es k) refl)
      ∙ ap (λ (ys : List Y). shown_under k ++ ys) (flipped_items ks)

  keyed_step : (test : Bool) (e : ℕ × ℕ) (gs : List (ℕ × ℕ)) (ks : List ℕ) → list_of es e.0 ≡ Some e.1
      → flat_map lists (map (λ (e : ℕ × ℕ). e.1) gs) ≡ flat_map shown_under ks
      → flat_map lists (map (λ (e : ℕ × ℕ). e.1) (cond test (e ∷ gs) gs))
      ≡ flat_map shown_under (cond test (e.0 ∷ ks) ks)
  keyed_step true e gs ks own h =
      ap (λ (ys : List Y). ys ++ flat_map lists (map (λ (e : ℕ × ℕ). e.1) gs)) (t.parts e.0 e.1 own)
      ∙ ap (λ (ys : List Y). shown_under e.0 ++ ys) h
  keyed_step false e gs ks own h = h

  keyed_items : (p : ℕ → Bool) (fs : List (ℕ × ℕ)) → All (λ (e : ℕ × ℕ). list_of es e.0 ≡ Some e.1) fs
      → flat_map lists (map (λ (e : ℕ × ℕ). e.1) (filter (λ (e : ℕ × ℕ). p e.0) fs))
      ≡ flat_map shown_under (filter p (keys_of fs))
  keyed_items p [] h = refl
  keyed_items p (e ∷ fs) h =
      keyed_step (p e.0) e (filter (λ (e : ℕ × ℕ). p e.0) fs) (filter p (keys_of fs))
      (All-head (λ (e : ℕ × ℕ). list_of es e.0 ≡ Some e.1) e fs h)
      (keyed_items p fs (All-tail (λ (e : ℕ × ℕ). list_of es e.0 ≡ Some e.1) e fs h))

  shown_all : (ks : List ℕ) → flat_map shown_under ks ≡ map shown (flat_map (under number xs) ks)
  shown_all [] = refl
  shown_all (k ∷ ks) = ap (λ (ys : List Y). shown_under k ++ ys) (shown_all ks)
      ∙ sym (map-append shown (under number xs k) (flat_map (under number xs) ks))

  -- the buckets whose keys differ in few bits hold the items whose keys do
  buckets_visit : (nflip q : ℕ) → IsDistinct nat_eq (keys_of es)
      → IsPermutation (flat_map (under number xs) (filter (is_near q nflip) (keys_of es)))
      (filter (λ x. is_near q nflip (number x)) xs)
  buckets_visit nflip q d =
      visited_once number (λ x. is_near q nflip (number x)) (filter (is_near q nflip) (keys_of es)) xs
      (λ j e h. let known = t.known j e h in
      times-filter (is_near q nflip) (number (get_or xs j e)) (keys_of es)
      ∙ ap (λ (n : ℕ). cond (is_near q nflip (number (get_or xs j e))) n 0)
      (key_once es (number (get_or xs j e)) known.0 d known.1))

  either_way : (test : Bool) (ks js : List ℕ) (ys : List Y) → IsPermutation (flat_map lists ks) ys
      → IsPermutation (flat_map lists js) ys → IsPermutation (flat_map lists (cond test ks js)) ys
  either_way true ks js ys h k = h
  either_way false ks js ys h k = k

  -- the lists that a query looks into show the items whose keys are near
  pub near_visit : (b nflip q : ℕ) → q < 2 ^ b → All (λ x. number x < 2 ^ b) xs → IsDistinct nat_eq (keys_of es)
      → IsPermutation (flat_map lists (near_lists es b nflip q))
      (map shown (filter (λ x. is_near q nflip (number x)) xs))
  near_visit b nflip q low all distinct =
      let near : List X = filter (λ x. is_near q nflip (number x)) xs in
      let flipped : IsPermutation (flat_map lists (flipped_lists es q (flips b nflip))) (map shown near)
      = subst (λ (ys : List Y). IsPermutation ys (map shown near))
      (sym (flipped_items (map (bit_xor q) (flips b nflip)) ∙ shown_all (map (bit_xor q) (flips b nflip))))
      (IsPermutation-map shown _ _ (flips_visit number b nflip q xs low all)) in
      let keyed : IsPermutation (flat_map lists (lists_by_key es nflip q)) (map shown near)
      = subst (λ (ys : List Y). IsPermutation ys (map shown near))
      (sym (keyed_items (is_near q nflip) es (own_lists es distinct)
      ∙ shown_all (filter (is_near q nflip) (keys_of es))))
      (IsPermutation-map shown _ _ (buckets_visit nflip q distinct)) in
      either_way (nat_le (length (flips b nflip)) (length es)) (flipped_lists es q (flips b nflip))
      (lists_by_key es nflip q) (map shown near) flipped keyed

-- ---- the lists are there

known_one : (es : List (ℕ × ℕ)) (used n k : ℕ) (o : Option ℕ) → IsNumbering used es → used ≤ n → list_of es k ≡ o
    → All (λ l. l < n) (as_list o)
known_one es used n k None ok h e = All-nil (λ l. l < n)
known_one es used n k (Some l) ok h e =
    All-cons (λ l. l < n) l [] (omega (arith, ok.below k l e)) (All-nil (λ l. l < n))

known_flipped : (es : List (ℕ × ℕ)) (used n : ℕ) (ks : List ℕ) → IsNumbering used es → used ≤ n
    → All (λ l. l < n) (lists_of es ks)
known_flipped es used n [] ok h = All-nil (λ l. l < n)
known_flipped es used n (k ∷ ks) ok h =
    All-append (λ l. l < n) (as_list (list_of es k)) (lists_of es ks) (known_one es used n k (list_of es k) ok h refl)
    (known_flipped es used n ks ok h)

known_step : (n : ℕ) (test : Bool) (e : ℕ × ℕ) (gs : List (ℕ × ℕ)) → e.1 < n
    → All (λ l. l < n) (map (λ (e : ℕ × ℕ). e.1) gs)
    → All (λ l. l < n) (map (λ (e : ℕ × ℕ). e.1) (cond test (e ∷ gs) gs))
known_step n true e gs low h = All-cons (λ l. l < n) e.1 (map (λ (e : ℕ × ℕ). e.1) gs) low h
known_step n false e gs low h = h

known_keyed : (es : List (ℕ × ℕ)) (used n : ℕ) (p : ℕ → Bool) (fs : List (ℕ × ℕ)) → IsNumbering used es → used ≤ n
    → All (λ (e : ℕ × ℕ). list_of es e.0 ≡ Some e.1) fs
    → All (λ l. l < n) (map (λ (e : ℕ × ℕ). e.1) (filter (λ (e : ℕ × ℕ). p e.0) fs))
known_keyed es used n p [] ok h own = All-nil (λ l. l < n)
known_keyed es used n p (e ∷ fs) ok h own =
    let low : e.1 < n = omega (arith, ok.below e.0 e.1 (All-head (λ (e : ℕ × ℕ). list_of es e.0 ≡ Some e.1) e fs own)) in
    known_step n (p e.0) e (filter (λ (e : ℕ × ℕ). p e.0) fs) low
    (known_keyed es used n p fs ok h (All-tail (λ (e : ℕ × ℕ). list_of es e.0 ≡ Some e.1) e fs own))

known_either : (t : Bool) (n : ℕ) (ks js : List ℕ) → All (λ l. l < n) ks → All (λ l. l < n) js
    → All (λ l. l < n) (cond t ks js)
known_either true n ks js h k = h
known_either false n ks js h k = k

pub near_known : (es : List (ℕ × ℕ)) (used n b nflip q : ℕ) → IsNumbering used es → used ≤ n
    → IsDistinct nat_eq (keys_of es) → All (λ l. l < n) (near_lists es b nflip q)
near_known es used n b nflip q ok h distinct =
    known_either (nat_le (length (flips b nflip)) (length es)) n (flipped_lists es q (flips b nflip))
    (lists_by_key es nflip q) (known_flipped es used n (map (bit_xor q) (flips b nflip)) ok h)
    (known_keyed es used n (is_near q nflip) es ok h (own_lists es distinct))
